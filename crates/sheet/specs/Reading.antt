-- The reading of a sheet's text, line by line: the first check that fails is the answer. Assumes nothing.
use Rattle.std.specs.Prelude.{ℕ, zero, suc, ◌+◌, Bool, true, false, cond, ◌&&◌, List, [], ◌∷◌, ◌++◌, length, Some, None, Ok, Err, Option, Result, ◌==◌, nat_le, nat_lt}
use Rattle.traffic.specs.declared.rate.Rate.{Rate}
use Rattle.traffic.specs.declared.rate.Rate.TheVariants.{Mbit10, Mbit100, Mbit1000}
use Rattle.traffic.specs.declared.flow.Flow.{Flow}
use Rattle.traffic.specs.Wire.{wire_time}
use Rattle.traffic.specs.Packets.{Traffic}
use Rattle.cycle.specs.Cycle.{cycle_of}
use Rattle.sheet.specs.declared.lines.Key.{Key}
use Rattle.sheet.specs.declared.lines.Key.TheVariants as key
use Rattle.sheet.specs.declared.reader.steps.Frame.{Frame}
use Rattle.sheet.specs.declared.reader.steps.Timing.{Timing}
use Rattle.sheet.specs.declared.faults.LineFault.{LineFault}
use Rattle.sheet.specs.declared.faults.LineFault.TheVariants.{Form, Range, WireTime}
use Rattle.sheet.specs.declared.faults.SheetFault.{SheetFault}
use Rattle.sheet.specs.declared.faults.SheetFault.TheVariants as fault
use Rattle.sheet.specs.Cuts.{cut_at}
use Rattle.sheet.specs.Lines.{key_of, same_key, ranged}

-- a fault stays; with a value one goes on
abbrev pub and_then : {X Y E : Type 0} → Result X E → (X → Result Y E) → Result Y E
and_then (Ok x) f = f x
and_then (Err e) f = Err e

-- what is left of a text, and the place of its first line
pub record Cursor : Type 0 where
  pub rest : List ℕ
  pub line : ℕ

-- a line: its key, and the bytes of its number
pub record Keyed : Type 0 where
  pub key : Key
  pub number : List ℕ

-- a number at the key that its bytes spell
abbrev pub with_key : ℕ → Option Key → List ℕ → Result Keyed LineFault
with_key n None number = Err (Form n)
with_key n (Some k) number = Ok (record { key = k; number = number })

-- the two parts of line n
abbrev pub keyed : ℕ → Option (List ℕ × List ℕ) → Result Keyed LineFault
keyed n None = Err (Form n)
keyed n (Some p) = with_key n (key_of p.0) p.1

-- line n, without its end, cut at its first "="
abbrev pub line_of : ℕ → List ℕ → Result Keyed LineFault
line_of n bytes = keyed n (cut_at 61 bytes)

-- line n, and the text behind it
abbrev pub first_line : ℕ → Option (List ℕ × List ℕ) → Result (Keyed × Cursor) LineFault
first_line n None = Err (Form n)
first_line n (Some p) = and_then (line_of n p.0) (λ l. Ok (l, record { rest = p.1; line = n + 1 }))

-- the next line: up to the first byte 10
abbrev pub next_line : Cursor → Result (Keyed × Cursor) LineFault
next_line c = first_line c.line (cut_at 10 c.rest)

-- the bytes of the number, where the line has the key that is expected
abbrev pub expected : Key → ℕ → Keyed → Result (List ℕ) LineFault
expected k n l = cond (same_key l.key k) (Ok l.number) (Err (Form n))

-- the number of the next line, which has to have this key, between low and high
abbrev pub number_line : Key → ℕ → ℕ → Cursor → Result (ℕ × Cursor) LineFault
number_line k low high c =
    and_then (next_line c) (λ p.
    and_then (expected k c.line p.0) (λ bytes.
    and_then (ranged c.line low high bytes) (λ n. Ok (n, p.1))))

-- the rate that a number of line n stands for
abbrev pub rate_of : ℕ → ℕ → Result Rate LineFault
rate_of n v = cond (v == 10) (Ok Mbit10) (cond (v == 100) (Ok Mbit100) (cond (v == 1000) (Ok Mbit1000) (Err (Range n))))

-- the line of the rate; its number may be any before it is looked at
abbrev pub rate_line : Cursor → Result (Rate × Cursor) LineFault
rate_line c = and_then (number_line key.Rate 0 9999999999 c) (λ v. and_then (rate_of c.line v.0) (λ r. Ok (r, v.1)))

-- the deadline's line n is at fault where the wire time passes it
abbrev pub timely : ℕ → ℕ → ℕ → Result ℕ LineFault
timely n wire deadline = cond (nat_le wire deadline) (Ok deadline) (Err (WireTime n))

-- the lines `queue` and `octets` of a flow
abbrev pub frame_lines : Cursor → Result (Frame × Cursor) LineFault
frame_lines c =
    and_then (number_line key.Queue 1 7 c) (λ q.
    and_then (number_line key.Octets 64 1522 q.1) (λ o. Ok (record { queue = q.0; octets = o.0 }, o.1)))

-- its lines `period` and `deadline`; the wire time may not pass the deadline
abbrev pub timing_lines : ℕ → Cursor → Result (Timing × Cursor) LineFault
timing_lines wire c =
    and_then (number_line key.Period 1 1000000000 c) (λ t.
    and_then (number_line key.Deadline 1 t.0 t.1) (λ d.
    and_then (timely t.1.line wire d.0) (λ d'. Ok (record { period = t.0; deadline = d' }, d.1))))

-- the lines `queue` to `weight` of a flow
abbrev pub flow_lines : Rate → Cursor → Result (Flow × Cursor) LineFault
flow_lines rate c =
    and_then (frame_lines c) (λ s.
    and_then (timing_lines (wire_time rate s.0.octets) s.1) (λ t.
    and_then (number_line key.Miss 0 19 t.1) (λ m.
    and_then (number_line key.Of (m.0 + 1) 20 m.1) (λ k.
    and_then (number_line key.Weight 0 255 k.1) (λ w.
    Ok (record { queue = s.0.queue; octets = s.0.octets; period = t.0.period; deadline = t.0.deadline; miss = m.0; among = k.0; weight = w.0 }, w.1))))))

-- line n behind so many flows: `flow` with the next number begins one more, up to 64; `flows` with their number ends them, from 1 on
abbrev pub heading : ℕ → ℕ → Keyed → Result Bool LineFault
heading n count l =
    cond (same_key l.key key.Flow && nat_lt count 64) (and_then (ranged n (count + 1) (count + 1) l.number) (λ _. Ok true))
    (cond (same_key l.key key.Flows && nat_lt 0 count) (and_then (ranged n count count l.number) (λ _. Ok false))
    (Err (Form n)))

-- is there one more flow behind so many?
abbrev pub heading_line : ℕ → Cursor → Result (Bool × Cursor) LineFault
heading_line count c = and_then (next_line c) (λ p. and_then (heading c.line count p.0) (λ more. Ok (more, p.1)))

-- the flows up to the line `flows`, behind those that were read; so many more may come
abbrev pub flows_from : ℕ → Rate → List Flow → Cursor → Result (List Flow × Cursor) LineFault
flows_from zero rate done c = and_then (heading_line (length done) c) (λ h. Ok (done, h.1))
flows_from (suc left) rate done c =
    and_then (heading_line (length done) c) (λ h.
    cond h.0 (and_then (flow_lines rate h.1) (λ f. flows_from left rate (done ++ (f.0 ∷ [])) f.1)) (Ok (done, h.1)))

-- nothing may stand behind the last line
abbrev pub ended : {X : Type 0} → X → Cursor → Result X LineFault
ended x c = cond (length c.rest == 0) (Ok x) (Err (Form c.line))

-- what all lines of a text say
abbrev pub lines_of : List ℕ → Result Traffic LineFault
lines_of text =
    and_then (rate_line (record { rest = text; line = 1 })) (λ r.
    and_then (flows_from 64 r.0 [] r.1) (λ fs. ended (record { rate = r.0; flows = fs.0 }) fs.1))

-- the fault of a line as one of the sheet
abbrev pub in_sheet : {X : Type 0} → Result X LineFault → Result X SheetFault
in_sheet (Ok x) = Ok x
in_sheet (Err e) = Err (fault.Line e)

-- the cycle has its limit
abbrev pub within_cycle : Traffic → Result Traffic SheetFault
within_cycle t = cond (nat_le (cycle_of t.flows) 1000000000) (Ok t) (Err fault.Cycle)

-- what a text says, or the first check that fails
abbrev pub sheet_of : List ℕ → Result Traffic SheetFault
sheet_of text = cond (nat_lt 61440 (length text)) (Err fault.Size) (and_then (in_sheet (lines_of text)) within_cycle)
