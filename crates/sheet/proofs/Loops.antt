-- One flow after another, and all lines. Assumes nothing.
use Rattle.std.proofs.Common.{◌≡◌, ℕ, zero, suc, ◌+◌, ◌-◌, ◌<◌, true, false, eqb, ◌⊎◌, List, [], ◌∷◌, ◌++◌, length, Ok, Err, Result, ap, inl, inr, arith}
use Rattle.std.specs.List.{AllByRecursion}
use Rattle.std.proofs.lemmas.List.{length_push}
use Rattle.std.proofs.lemmas.Bool.{and_parts, and_from}
use Rattle.traffic.specs.declared.rate.Rate.{Rate}
use Rattle.traffic.specs.declared.flow.Flow.{Flow}
use Rattle.sheet.specs.declared.faults.LineFault.{LineFault}
use Rattle.sheet.specs.declared.faults.SheetFault.{SheetFault}
use Rattle.sheet.specs.declared.faults.SheetFault.TheVariants.{Memory}
use Rattle.sheet.specs.declared.faults.SheetFault.TheVariants as fault
use Rattle.sheet.specs.Ranges.{flow_kept, all_kept}
use Rattle.sheet.specs.Reading.{Cursor, and_then, rate_line, heading_line, flow_lines, flows_from, lines_of, in_sheet}
use Rattle.sheet.proofs.Numerals.{between_parts}
use Rattle.sheet.proofs.FlowLines.{kept_parts}

module _ (rate : Rate) (done : List Flow) (count : ℕ) (c : Cursor) (counted : count ≡ length done) where
  -- the next line is at fault
  pub no_heading : (n : ℕ) (e : LineFault) → heading_line count c ≡ Err e → flows_from n rate done c ≡ Err e
  no_heading zero e h = let k : heading_line (length done) c ≡ Err e = rw counted at h in rw k
  no_heading (suc n) e h = let k : heading_line (length done) c ≡ Err e = rw counted at h in rw k

  -- the next line ends the flows
  pub last_heading : (n : ℕ) (after : Cursor) → heading_line count c ≡ Ok (false, after) → flows_from n rate done c ≡ Ok (done, after)
  last_heading zero after h = let k : heading_line (length done) c ≡ Ok (false, after) = rw counted at h in rw k
  last_heading (suc n) after h = let k : heading_line (length done) c ≡ Ok (false, after) = rw counted at h in rw k

  -- a flow begins, and one of its lines is at fault
  pub no_flow_lines : (after : Cursor) (e : LineFault) → count < 64 → heading_line count c ≡ Ok (true, after) → flow_lines rate after ≡ Err e → flows_from (64 - length done) rate done c ≡ Err e
  no_flow_lines after e few h f =
      let k : heading_line (length done) c ≡ Ok (true, after) = rw counted at h in
      let left : 64 - length done ≡ suc (64 - (length done + 1)) = omega arith in
      rw (left, k, f)

  -- one flow more
  pub one_flow : (after next : Cursor) (f : Flow) → count < 64 → heading_line count c ≡ Ok (true, after) → flow_lines rate after ≡ Ok (f, next) → flows_from (64 - length done) rate done c ≡ flows_from (64 - length (done ++ (f ∷ []))) rate (done ++ (f ∷ [])) next
  one_flow after next f few h lines =
      let k : heading_line (length done) c ≡ Ok (true, after) = rw counted at h in
      let left : 64 - length done ≡ suc (64 - (length done + 1)) = omega arith in
      rw (left, k, lines, length_push done f)

-- a fault stays one of the sheet, whatever was to come
in_sheet_stays : {X Y : Type 0} (x : Result X LineFault) (f : X → Result Y LineFault) (e : SheetFault) → in_sheet x ≡ Err e → in_sheet (and_then x f) ≡ Err e
in_sheet_stays (Ok x) f e h = absurd (grind arith)
in_sheet_stays (Err l) f e h = let same : fault.Line l ≡ e = cc in ap Err same

module _ (text : List ℕ) (rate : Rate) (after : Cursor) (rated : rate_line (record { rest = text; line = 1 }) ≡ Ok (rate, after)) where
  -- a line behind the rate is at fault, or memory is short
  pub no_flows : (e : SheetFault) → (e ≡ Memory) ⊎ (in_sheet (flows_from 64 rate [] after) ≡ Err e) → (e ≡ Memory) ⊎ (in_sheet (lines_of text) ≡ Err e)
  no_flows e (inl m) = inl m
  no_flows e (inr h) = inr (rw rated (in_sheet_stays (flows_from 64 rate [] after) _ e h))

  -- all lines are read
  pub all_lines : (fs : List Flow) (end : Cursor) → flows_from 64 rate [] after ≡ Ok (fs, end) → eqb (length end.rest) 0 ≡ true → lines_of text ≡ Ok (record { rate = rate; flows = fs })
  all_lines fs end h none = rw (rated, h, none)

-- one more that keeps its ranges
pub all_kept_push : (r : Rate) (fs : List Flow) (f : Flow) → all_kept r fs ≡ true → flow_kept r f ≡ true → all_kept r (fs ++ (f ∷ [])) ≡ true
all_kept_push r [] f all one = rw one
all_kept_push r (g ∷ gs) f all one =
    let both = and_parts (flow_kept r g) (all_kept r gs) all in
    and_from (flow_kept r g) (all_kept r (gs ++ (f ∷ []))) both.0 (all_kept_push r gs f both.1 one)

-- each period of these is some time
pub periods_some : (r : Rate) (fs : List Flow) → all_kept r fs ≡ true → AllByRecursion (λ f. 0 < f.period) fs
periods_some r [] all = tt
periods_some r (f ∷ fs) all =
    let both = and_parts (flow_kept r f) (all_kept r fs) all in
    ((between_parts 1 1000000000 f.period (kept_parts r f both.0).period).0, periods_some r fs both.1)
