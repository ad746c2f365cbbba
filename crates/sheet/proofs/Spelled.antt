-- A text is read as a sheet exactly when it is the text of that sheet. Assumes nothing.
use Rattle.std.proofs.Common.{◌≡◌, ℕ, ◌+◌, ◌*◌, ◌≤◌, true, eqb, ltb, leb, ◌⊎◌, List, [], ◌∷◌, ◌++◌, length, Ok, Err, Result, sym, refl, ap, ◌∙◌, subst, inl, inr, ⊎_elim, append-nil, arith, length-append}
use Rattle.std.proofs.lemmas.List.{nil_from_length}
use Rattle.std.proofs.lemmas.Bool.{eqb-true, leb-true, le-leb, le-ltb, and_parts}
use Rattle.traffic.specs.declared.rate.Rate.{Rate}
use Rattle.traffic.specs.declared.rate.Rate.TheVariants.{Mbit10, Mbit100, Mbit1000}
use Rattle.traffic.specs.declared.flow.Flow.{Flow}
use Rattle.traffic.specs.Packets.{Traffic}
use Rattle.cycle.specs.Cycle.{cycle_of}
use Rattle.sheet.specs.declared.lines.Key.TheVariants as key
use Rattle.sheet.specs.declared.faults.LineFault.{LineFault}
use Rattle.sheet.specs.declared.faults.SheetFault.{SheetFault}
use Rattle.sheet.specs.declared.faults.SheetFault.TheVariants.{Line, Memory}
use Rattle.sheet.specs.Ranges.{between, flow_kept, all_kept}
use Rattle.sheet.specs.Reading.{Cursor, number_line, rate_of, rate_line, flows_from, lines_of, in_sheet, within_cycle, sheet_of}
use Rattle.sheet.specs.Spelling.{line_text, flow_text, flows_text, rate_number, sheet_text, Kept, ReadsExactly, NoSheet, OneSheet}
use Rattle.sheet.proofs.Outcomes.{no_fault, and_then_ok, not_faulty, met, either}
use Rattle.sheet.proofs.Numerals.{between_parts}
use Rattle.sheet.proofs.KeyLines.{Passed, passed_then, passed_split, number_parts, number_made, line_short, ranged_short}
use Rattle.sheet.proofs.FlowLines.{rest_text, rest_lines, Listed, kept_parts, flows_parts, flows_made}

-- the number of a rate
rate_number_of : (m v : ℕ) (r : Rate) → rate_of m v ≡ Ok r → v ≡ rate_number r
rate_number_of m v r h =
    ⊎_elim
    (λ p. eqb-true v 10 p.0 ∙ ap rate_number p.1)
    (λ g.
    ⊎_elim
    (λ p. eqb-true v 100 p.0 ∙ ap rate_number p.1)
    (λ k. let p = met (eqb v 1000) _ (Ok Mbit1000) r k in let same : Mbit1000 ≡ r = cc in eqb-true v 1000 p.0 ∙ ap rate_number same)
    (either (eqb v 100) Mbit100 _ r g))
    (either (eqb v 10) Mbit10 _ r h)

-- the number of a rate stands for it
rate_again : (m : ℕ) (r : Rate) → (rate_of m (rate_number r) ≡ Ok r) × (between 0 9999999999 (rate_number r) ≡ true)
rate_again m Mbit10 = (refl, refl)
rate_again m Mbit100 = (refl, refl)
rate_again m Mbit1000 = (refl, refl)

-- the line of the rate
pub rate_parts : (c : Cursor) (s : Rate × Cursor) → rate_line c ≡ Ok s → Passed (line_text key.Rate (rate_number s.0)) 1 c s.1
rate_parts c s h =
    let v = and_then_ok (number_line key.Rate 0 9999999999 c) _ _ h in
    let r = and_then_ok (rate_of c.line v.0.0) _ _ v.2 in
    let e : ◌≡◌ {A = Rate × Cursor} (r.0, v.0.1) s = cc in
    let p = number_parts key.Rate 0 9999999999 c v.0 v.1 in
    let q = subst (λ (n : ℕ). Passed (line_text key.Rate n) 1 c v.0.1) (rate_number_of c.line v.0.0 r.0 r.1) p.passed in
    subst (λ (s : Rate × Cursor). Passed (line_text key.Rate (rate_number s.0)) 1 c s.1) e q

-- and each such line is read
rate_made : (r : Rate) (c after : Cursor) → Passed (line_text key.Rate (rate_number r)) 1 c after → rate_line c ≡ Ok (r, after)
rate_made r c after p =
    let again = rate_again c.line r in
    rw (number_made key.Rate 0 9999999999 (rate_number r) c after (omega arith) (record { passed = p; range = again.1 }), again.0)

-- what a text that is read says
pub record Said (text : List ℕ) (t : Traffic) : Type 0 where
  pub some : 1 ≤ length t.flows
  pub few : length t.flows ≤ 64
  pub ranges : all_kept t.rate t.flows ≡ true
  pub spells : text ≡ sheet_text t

-- all lines
pub lines_parts : (text : List ℕ) (t : Traffic) → lines_of text ≡ Ok t → Said text t
lines_parts text t h =
    let r = and_then_ok (rate_line (record { rest = text; line = 1 })) _ _ h in
    let f = and_then_ok (flows_from 64 r.0.0 [] r.0.1) _ _ r.2 in
    let g = met (eqb (length f.0.1.rest) 0) _ _ _ f.2 in
    let u : Traffic = record { rate = r.0.0; flows = f.0.0 } in
    let e : u ≡ t = cc in
    let l = flows_parts 64 r.0.0 [] r.0.1 f.0 (omega arith) f.1 in
    let first = rate_parts (record { rest = text; line = 1 }) r.0 r.1 in
    let listed = subst (λ (fs : List Flow). Listed r.0.0 [] fs r.0.1 f.0.0 f.0.1) (sym l.1.all) l.1 in
    let end = nil_from_length f.0.1.rest (eqb-true (length f.0.1.rest) 0 g.0) in
    let all : text ≡ sheet_text u = (passed_then first listed.passed).rest ∙ ap (λ (l : List ℕ). sheet_text u ++ l) end ∙ append-nil (sheet_text u) in
    subst (Said text) e (record { some = listed.some; few = listed.few; ranges = listed.kept; spells = all })

-- and the text of each such sheet is read
lines_made : (t : Traffic) → Kept t → lines_of (sheet_text t) ≡ Ok t
lines_made t k =
    let start : Cursor = record { rest = sheet_text t; line = 1 } in
    let end : Cursor = record { rest = []; line = 1 + (1 + rest_lines t.flows) } in
    let s = passed_split (line_text key.Rate (rate_number t.rate)) (rest_text 1 t.flows (length t.flows)) 1 (rest_lines t.flows) start end (record { rest = sym (append-nil (sheet_text t)); line = refl }) in
    rw (rate_made t.rate start s.0 s.1, flows_made 64 t.rate [] t.flows s.0 t.flows end (omega arith) (record { all = refl; passed = s.2; kept = k.ranges; some = k.some; few = k.few }))

-- two texts that are short
short_then : (t u : List ℕ) (a b : ℕ) → length t ≤ a → length u ≤ b → length (t ++ u) ≤ a + b
short_then t u a b h k = omega (arith, length-append t u)

-- a flow takes at most 160 bytes
flow_short : (rate : Rate) (i : ℕ) (f : Flow) → i ≤ 64 → flow_kept rate f ≡ true → length (flow_text i f) ≤ 160
flow_short rate i f few h =
    let r = kept_parts rate f h in
    let p = between_parts 1 1000000000 f.period r.period in
    short_then (line_text key.Flow i) _ 20 140 (line_short key.Flow i (omega arith))
    (short_then (line_text key.Queue f.queue) _ 20 120 (ranged_short key.Queue 1 7 f.queue (omega arith) r.queue)
    (short_then (line_text key.Octets f.octets) _ 20 100 (ranged_short key.Octets 64 1522 f.octets (omega arith) r.octets)
    (short_then (line_text key.Period f.period) _ 20 80 (ranged_short key.Period 1 1000000000 f.period (omega arith) r.period)
    (short_then (line_text key.Deadline f.deadline) _ 20 60 (ranged_short key.Deadline 1 f.period f.deadline (omega arith) r.deadline)
    (short_then (line_text key.Miss f.miss) _ 20 40 (ranged_short key.Miss 0 19 f.miss (omega arith) r.miss)
    (short_then (line_text key.Of f.among) _ 20 20 (ranged_short key.Of (f.miss + 1) 20 f.among (omega arith) r.among)
    (ranged_short key.Weight 0 255 f.weight (omega arith) r.weight)))))))

-- and so each of them
flows_short : (rate : Rate) (i : ℕ) (fs : List Flow) → i + length fs ≤ 65 → all_kept rate fs ≡ true → length (flows_text i fs) ≤ 160 * length fs
flows_short rate i [] few h = omega arith
flows_short rate i (f ∷ fs) few h =
    let k = and_parts (flow_kept rate f) _ h in
    let one = flow_short rate i f (omega arith) k.0 in
    let rest = flows_short rate (i + 1) fs (omega arith) k.1 in
    omega (arith, length-append (flow_text i f) (flows_text (i + 1) fs))

-- the text of a sheet is short
sheet_short : (t : Traffic) → Kept t → length (sheet_text t) ≤ 61440
sheet_short t k =
    let few = k.few in
    let first = ranged_short key.Rate 0 9999999999 (rate_number t.rate) (omega arith) (rate_again 1 t.rate).1 in
    let flows = flows_short t.rate 1 t.flows (omega arith) k.ranges in
    let last = line_short key.Flows (length t.flows) (omega arith) in
    omega (arith, length-append (line_text key.Rate (rate_number t.rate)) (rest_text 1 t.flows (length t.flows)), length-append (flows_text 1 t.flows) (line_text key.Flows (length t.flows)))

-- no line is at fault
in_sheet_ok : (r : Result Traffic LineFault) (t : Traffic) → in_sheet r ≡ Ok t → r ≡ Ok t
in_sheet_ok (Ok u) t h = let e : u ≡ t = cc in ap Ok e
in_sheet_ok (Err e) t h = absurd (no_fault (Line e) t h)

-- a text that is read is the text of its sheet
sheet_parts : (text : List ℕ) (t : Traffic) → sheet_of text ≡ Ok t → Kept t × (text ≡ sheet_text t)
sheet_parts text t h =
    let l = and_then_ok (in_sheet (lines_of text)) within_cycle t (not_faulty (ltb 61440 (length text)) _ _ t h).1 in
    let w = met (leb (cycle_of l.0.flows) 1000000000) _ (Ok l.0) t l.2 in
    let e : l.0 ≡ t = cc in
    let s = lines_parts text t (in_sheet_ok (lines_of text) l.0 l.1 ∙ ap Ok e) in
    (record { some = s.some; few = s.few; ranges = s.ranges; short = leb-true (cycle_of t.flows) 1000000000 (rw e at w.0) }, s.spells)

-- which is read
sheet_made : (t : Traffic) → Kept t → sheet_of (sheet_text t) ≡ Ok t
sheet_made t k = rw (le-ltb 61440 (length (sheet_text t)) (sheet_short t k), lines_made t k, le-leb (cycle_of t.flows) 1000000000 k.short)

-- both together
pub reads_exactly : ReadsExactly
reads_exactly = (sheet_parts, sheet_made)

-- the text is read as the one sheet and as the other
pub one_sheet : OneSheet
one_sheet t u k l e =
    let a = sheet_made t k in
    let b = sheet_made u l in
    let c = ap sheet_of e in
    cc

-- a refused text is the text of no sheet
pub no_sheet : (text : List ℕ) (e : SheetFault) → (e ≡ Memory) ⊎ (sheet_of text ≡ Err e) → (e ≡ Memory) ⊎ NoSheet text
no_sheet text e (inl m) = inl m
no_sheet text e (inr h) = inr (λ t k same. no_fault e t (sym h ∙ ap sheet_of same ∙ reads_exactly.1 t k))
