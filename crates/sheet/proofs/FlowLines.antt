-- The lines of flows and their one spelling. Assumes nothing.
use Rattle.std.proofs.Common.{◌≡◌, ℕ, zero, suc, ◌+◌, ◌<◌, ◌≤◌, Bool, true, false, ◌&&◌, ltb, leb, List, [], ◌∷◌, ◌++◌, length, Ok, Result, sym, refl, ap, ◌∙◌, subst, ⊎_elim, append_assoc, append-nil, arith, length-append}
use Rattle.std.proofs.lemmas.Bool.{ltb-true, lt-ltb, and_parts, and_from, cases_Bool}
use Rattle.std.proofs.lemmas.List.{length_push}
use Rattle.sheet.specs.declared.faults.LineFault.{LineFault}
use Rattle.traffic.specs.declared.rate.Rate.{Rate}
use Rattle.traffic.specs.declared.flow.Flow.{Flow}
use Rattle.traffic.specs.Wire.{wire_time}
use Rattle.sheet.specs.declared.lines.Key.{Key}
use Rattle.sheet.specs.declared.lines.Key.TheVariants as key
use Rattle.sheet.specs.declared.reader.steps.Frame.{Frame}
use Rattle.sheet.specs.declared.reader.steps.Timing.{Timing}
use Rattle.sheet.specs.Lines.{same_key, ranged}
use Rattle.sheet.specs.Ranges.{between, flow_ranged, flow_kept, all_kept}
use Rattle.sheet.specs.Reading.{Cursor, Keyed, and_then, next_line, number_line, timely, frame_lines, timing_lines, flow_lines, heading, heading_line, flows_from}
use Rattle.sheet.specs.Spelling.{line_text, flow_text, flows_text}
use Rattle.sheet.proofs.Outcomes.{and_then_ok, met}
use Rattle.sheet.proofs.Numerals.{between_parts, between_from, ranged-made}
use Rattle.sheet.proofs.KeyLines.{Passed, Numbered, passed_then, passed_split, line_parts, line_made, number_parts, number_made}

-- the two lines of a frame
abbrev pub Framed : Cursor → Frame → Cursor → Type 0
Framed c f after = (b : Cursor) × Numbered key.Queue 1 7 c f.queue b × Numbered key.Octets 64 1522 b f.octets after

-- read, they are two numbers in their ranges; each such two are read
pub frame_parts : (c : Cursor) (s : Frame × Cursor) → frame_lines c ≡ Ok s → Framed c s.0 s.1
frame_parts c s h =
    let q = and_then_ok (number_line key.Queue 1 7 c) _ _ h in
    let o = and_then_ok (number_line key.Octets 64 1522 q.0.1) _ _ q.2 in
    let e : ◌≡◌ {A = Frame × Cursor} (record { queue = q.0.0; octets = o.0.0 }, o.0.1) s = cc in
    subst (λ (s : Frame × Cursor). Framed c s.0 s.1) e (q.0.1, number_parts key.Queue 1 7 c q.0 q.1, number_parts key.Octets 64 1522 q.0.1 o.0 o.1)

frame_made : (c : Cursor) (f : Frame) (after : Cursor) → Framed c f after → frame_lines c ≡ Ok (f, after)
frame_made c f after p = rw (number_made key.Queue 1 7 f.queue c p.0 (omega arith) p.1, number_made key.Octets 64 1522 f.octets p.0 after (omega arith) p.2)

-- the two lines of a timing
abbrev pub Timed : ℕ → Cursor → Timing → Cursor → Type 0
Timed wire c t after = (b : Cursor) × Numbered key.Period 1 1000000000 c t.period b × Numbered key.Deadline 1 t.period b t.deadline after × (leb wire t.deadline ≡ true)

-- and so they
pub timing_parts : (wire : ℕ) (c : Cursor) (s : Timing × Cursor) → timing_lines wire c ≡ Ok s → Timed wire c s.0 s.1
timing_parts wire c s h =
    let t = and_then_ok (number_line key.Period 1 1000000000 c) _ _ h in
    let d = and_then_ok (number_line key.Deadline 1 t.0.0 t.0.1) _ _ t.2 in
    let w = and_then_ok (timely t.0.1.line wire d.0.0) _ _ d.2 in
    let m = met (leb wire d.0.0) _ _ _ w.1 in
    let same : d.0.0 ≡ w.0 = cc in
    let e : ◌≡◌ {A = Timing × Cursor} (record { period = t.0.0; deadline = d.0.0 }, d.0.1) s = cc in
    subst (λ (s : Timing × Cursor). Timed wire c s.0 s.1) e (t.0.1, number_parts key.Period 1 1000000000 c t.0 t.1, number_parts key.Deadline 1 t.0.0 t.0.1 d.0 d.1, m.0)

timing_made : (wire : ℕ) (c : Cursor) (t : Timing) (after : Cursor) → Timed wire c t after → timing_lines wire c ≡ Ok (t, after)
timing_made wire c t after p =
    let r = between_parts 1 1000000000 t.period p.1.range in
    rw (number_made key.Period 1 1000000000 t.period c p.0 (omega arith) p.1, number_made key.Deadline 1 t.period t.deadline p.0 after (omega arith) p.2, p.3)

-- the lines of a flow behind its heading
abbrev flow_body : Flow → List ℕ
flow_body f =
    line_text key.Queue f.queue ++ (line_text key.Octets f.octets
    ++ (line_text key.Period f.period ++ (line_text key.Deadline f.deadline
    ++ (line_text key.Miss f.miss ++ (line_text key.Of f.among ++ line_text key.Weight f.weight)))))

-- its numbers, which keep their ranges
pub record Flowed (rate : Rate) (c : Cursor) (f : Flow) (after : Cursor) : Type 0 where
  pub passed : Passed (flow_body f) 7 c after
  pub kept : flow_kept rate f ≡ true

-- the lines that are read spell the flow
pub flow_parts : (rate : Rate) (c : Cursor) (s : Flow × Cursor) → flow_lines rate c ≡ Ok s → Flowed rate c s.0 s.1
flow_parts rate c s h =
    let a = and_then_ok (frame_lines c) _ _ h in
    let b = and_then_ok (timing_lines (wire_time rate a.0.0.octets) a.0.1) _ _ a.2 in
    let m = and_then_ok (number_line key.Miss 0 19 b.0.1) _ _ b.2 in
    let k = and_then_ok (number_line key.Of (m.0.0 + 1) 20 m.0.1) _ _ m.2 in
    let w = and_then_ok (number_line key.Weight 0 255 k.0.1) _ _ k.2 in
    let f : Flow = record { queue = a.0.0.queue; octets = a.0.0.octets; period = b.0.0.period; deadline = b.0.0.deadline; miss = m.0.0; among = k.0.0; weight = w.0.0 } in
    let e : ◌≡◌ {A = Flow × Cursor} (f, w.0.1) s = cc in
    let frame = frame_parts c a.0 a.1 in
    let timing = timing_parts (wire_time rate a.0.0.octets) a.0.1 b.0 b.1 in
    let miss = number_parts key.Miss 0 19 b.0.1 m.0 m.1 in
    let among = number_parts key.Of (m.0.0 + 1) 20 m.0.1 k.0 k.1 in
    let weight = number_parts key.Weight 0 255 k.0.1 w.0 w.1 in
    let text : Passed (flow_body f) 7 c w.0.1 = passed_then frame.1.passed (passed_then frame.2.passed (passed_then timing.1.passed (passed_then timing.2.passed (passed_then miss.passed (passed_then among.passed weight.passed))))) in
    let ranges : flow_ranged f ≡ true = and_from _ _ frame.1.range (and_from _ _ frame.2.range (and_from _ _ timing.1.range (and_from _ _ timing.2.range (and_from _ _ miss.range (and_from _ _ among.range weight.range))))) in
    subst (λ (s : Flow × Cursor). Flowed rate c s.0 s.1) e (record { passed = text; kept = and_from _ _ ranges timing.3 })

-- the ranges of a flow, one by one
pub record Ranged (rate : Rate) (f : Flow) : Type 0 where
  pub queue : between 1 7 f.queue ≡ true
  pub octets : between 64 1522 f.octets ≡ true
  pub period : between 1 1000000000 f.period ≡ true
  pub deadline : between 1 f.period f.deadline ≡ true
  pub miss : between 0 19 f.miss ≡ true
  pub among : between (f.miss + 1) 20 f.among ≡ true
  pub weight : between 0 255 f.weight ≡ true
  pub timely : leb (wire_time rate f.octets) f.deadline ≡ true

-- a flow that is kept has them
pub kept_parts : (rate : Rate) (f : Flow) → flow_kept rate f ≡ true → Ranged rate f
kept_parts rate f h =
    let all = and_parts (flow_ranged f) _ h in
    let q = and_parts (between 1 7 f.queue) _ all.0 in
    let o = and_parts (between 64 1522 f.octets) _ q.1 in
    let p = and_parts (between 1 1000000000 f.period) _ o.1 in
    let d = and_parts (between 1 f.period f.deadline) _ p.1 in
    let m = and_parts (between 0 19 f.miss) _ d.1 in
    let k = and_parts (between (f.miss + 1) 20 f.among) _ m.1 in
    record { queue = q.0; octets = o.0; period = p.0; deadline = d.0; miss = m.0; among = k.0; weight = k.1; timely = all.1 }

-- and each flow that keeps its ranges is read
flow-made : (rate : Rate) (c : Cursor) (f : Flow) (after : Cursor) → Flowed rate c f after → flow_lines rate c ≡ Ok (f, after)
flow-made rate c f after h =
    let r = kept_parts rate f h.kept in
    let q = passed_split (line_text key.Queue f.queue) _ 1 6 c after h.passed in
    let o = passed_split (line_text key.Octets f.octets) _ 1 5 q.0 after q.2 in
    let p = passed_split (line_text key.Period f.period) _ 1 4 o.0 after o.2 in
    let d = passed_split (line_text key.Deadline f.deadline) _ 1 3 p.0 after p.2 in
    let m = passed_split (line_text key.Miss f.miss) _ 1 2 d.0 after d.2 in
    let k = passed_split (line_text key.Of f.among) _ 1 1 m.0 after m.2 in
    let frame = frame_made c (record { queue = f.queue; octets = f.octets }) o.0 (q.0, record { passed = q.1; range = r.queue }, record { passed = o.1; range = r.octets }) in
    let timing = timing_made (wire_time rate f.octets) o.0 (record { period = f.period; deadline = f.deadline }) d.0 (p.0, record { passed = p.1; range = r.period }, record { passed = d.1; range = r.deadline }, r.timely) in
    let miss = number_made key.Miss 0 19 f.miss d.0 m.0 (omega arith) (record { passed = m.1; range = r.miss }) in
    let among = number_made key.Of (f.miss + 1) 20 f.among m.0 k.0 (omega arith) (record { passed = k.1; range = r.among }) in
    let weight = number_made key.Weight 0 255 f.weight k.0 after (omega arith) (record { passed = k.2; range = r.weight }) in
    rw (frame, timing, miss, among, weight)

-- the line behind so many flows: one more begins, or they end
abbrev pub Headed : ℕ → Bool → Cursor → Cursor → Type 0
Headed count true c after = Passed (line_text key.Flow (count + 1)) 1 c after × (count < 64)
Headed count false c after = Passed (line_text key.Flows count) 1 c after × (0 < count)

-- a line that may have one number only
one_number : (k : Key) (m n v : ℕ) (c : Cursor) (s : Keyed × Cursor) → next_line c ≡ Ok s → same_key s.0.key k ≡ true → ranged m n n s.0.number ≡ Ok v → Passed (line_text k n) 1 c s.1
one_number k m n v c s h same r =
    let p = line_parts k m n n v c s h same r in
    let b = between_parts n n v p.range in
    let e : v ≡ n = omega arith in
    subst (λ (x : ℕ). Passed (line_text k x) 1 c s.1) e p.passed

-- the line that is read spells what comes
heading_ok : (m count : ℕ) (c : Cursor) (s : Keyed × Cursor) (more : Bool) → next_line c ≡ Ok s → heading m count s.0 ≡ Ok more → Headed count more c s.1
heading_ok m count c s more next h =
    ⊎_elim
    (λ e.
    let t = and_parts (same_key s.0.key key.Flow) (ltb count 64) e in
    let r = and_then_ok (ranged m (count + 1) (count + 1) s.0.number) (λ _. Ok true) more (rw e at h) in
    let is : true ≡ more = cc in
    subst (λ (b : Bool). Headed count b c s.1) is (one_number key.Flow m (count + 1) r.0 c s next t.0 r.1, ltb-true count 64 t.1))
    (λ e.
    let f = met (same_key s.0.key key.Flows && ltb 0 count) _ (and_then (ranged m count count s.0.number) (λ _. Ok false)) more (rw e at h) in
    let t = and_parts (same_key s.0.key key.Flows) (ltb 0 count) f.0 in
    let r = and_then_ok (ranged m count count s.0.number) (λ _. Ok false) more f.1 in
    let is : false ≡ more = cc in
    subst (λ (b : Bool). Headed count b c s.1) is (one_number key.Flows m count r.0 c s next t.0 r.1, ltb-true 0 count t.1))
    (cases_Bool (same_key s.0.key key.Flow && ltb count 64))

pub heading_parts : (count : ℕ) (c : Cursor) (s : Bool × Cursor) → heading_line count c ≡ Ok s → Headed count s.0 c s.1
heading_parts count c s h =
    let l = and_then_ok (next_line c) _ _ h in
    let m = and_then_ok (heading c.line count l.0.0) _ _ l.2 in
    let e : ◌≡◌ {A = Bool × Cursor} (m.0, l.0.1) s = cc in
    subst (λ (s : Bool × Cursor). Headed count s.0 c s.1) e (heading_ok c.line count c l.0 m.0 l.1 m.1)

-- and each such line is read
heading-made : (count : ℕ) (more : Bool) (c after : Cursor) → count ≤ 64 → Headed count more c after → heading_line count c ≡ Ok (more, after)
heading-made count true c after few h =
    let next = line_made key.Flow (count + 1) c after (omega arith) h.0 in
    let read = ranged-made c.line (count + 1) (count + 1) (count + 1) (omega arith) (between_from (count + 1) (count + 1) (count + 1) (omega arith) (omega arith)) in
    rw (next, lt-ltb count 64 h.1, read)
heading-made count false c after few h =
    let next = line_made key.Flows count c after (omega arith) h.0 in
    let read = ranged-made c.line count count count (omega arith) (between_from count count count (omega arith) (omega arith)) in
    rw (next, lt-ltb 0 count h.1, read)

-- the lines from flow i on, of a sheet with so many flows
abbrev pub rest_text : ℕ → List Flow → ℕ → List ℕ
rest_text i fs count = flows_text i fs ++ line_text key.Flows count

-- how many they are
abbrev pub rest_lines : List Flow → ℕ
rest_lines [] = 1
rest_lines (f ∷ fs) = 1 + (7 + rest_lines fs)

-- those of one flow stand in front
rest_more : (i : ℕ) (f : Flow) (fs : List Flow) (count : ℕ) → rest_text i (f ∷ fs) count ≡ line_text key.Flow i ++ (flow_body f ++ rest_text (i + 1) fs count)
rest_more i f fs count =
    append_assoc (flow_text i f) (flows_text (i + 1) fs) (line_text key.Flows count)
    ∙ append_assoc (line_text key.Flow i) (flow_body f) (rest_text (i + 1) fs count)

-- all flows: those that were read, and more that stand in the lines up to the last
pub record Listed (rate : Rate) (done more : List Flow) (c : Cursor) (fs : List Flow) (after : Cursor) : Type 0 where
  pub all : fs ≡ done ++ more
  pub passed : Passed (rest_text (length done + 1) more (length fs)) (rest_lines more) c after
  pub kept : all_kept rate more ≡ true
  pub some : 1 ≤ length fs
  pub few : length fs ≤ 64

-- the last line
listed_end : (rate : Rate) (done : List Flow) (c after : Cursor) → length done ≤ 64 → Headed (length done) false c after → Listed rate done [] c done after
listed_end rate done c after few h = record { all = sym (append-nil done); passed = h.0; kept = refl; some = h.1; few = few }

-- one flow more
listed_more : (rate : Rate) (done : List Flow) (f : Flow) (more fs : List Flow) (a b c after : Cursor) → Headed (length done) true a b → Flowed rate b f c → Listed rate (done ++ (f ∷ [])) more c fs after → Listed rate done (f ∷ more) a fs after
listed_more rate done f more fs a b c after h p l =
    let rest = subst (λ (n : ℕ). Passed (rest_text (n + 1) more (length fs)) (rest_lines more) c after) (length_push done f) l.passed in
    record {
      all = l.all ∙ append_assoc done (f ∷ []) more;
      passed = subst (λ (t : List ℕ). Passed t (rest_lines (f ∷ more)) a after) (sym (rest_more (length done + 1) f more (length fs))) (passed_then h.0 (passed_then p.passed rest));
      kept = and_from (flow_kept rate f) (all_kept rate more) p.kept l.kept;
      some = l.some;
      few = l.few;
    }

-- behind 64 flows comes no other
last_heading : (count : ℕ) (more : Bool) (c after : Cursor) → count ≡ 64 → Headed count more c after → Headed count false c after
last_heading count true c after full h = let lt = h.1 in absurd (omega arith)
last_heading count false c after full h = h

-- the flows up to the last line
pub flows_parts : (left : ℕ) (rate : Rate) (done : List Flow) (c : Cursor) (s : List Flow × Cursor) → left + length done ≡ 64 → flows_from left rate done c ≡ Ok s → (more : List Flow) × Listed rate done more c s.0 s.1
flows_parts zero rate done c s full h =
    let a = and_then_ok (heading_line (length done) c) _ _ h in
    let e : ◌≡◌ {A = List Flow × Cursor} (done, a.0.1) s = cc in
    let last = last_heading (length done) a.0.0 c a.0.1 (omega arith) (heading_parts (length done) c a.0 a.1) in
    ([], subst (λ (s : List Flow × Cursor). Listed rate done [] c s.0 s.1) e (listed_end rate done c a.0.1 (omega arith) last))
flows_parts (suc left) rate done c s full h =
    let a = and_then_ok (heading_line (length done) c) _ _ h in
    let head = heading_parts (length done) c a.0 a.1 in
    let headed = λ (m : Bool). Headed (length done) m c a.0.1 in
    ⊎_elim
    (λ e.
    let f = and_then_ok (flow_lines rate a.0.1) (λ f. flows_from left rate (done ++ (f.0 ∷ [])) f.1) s (rw e at a.2) in
    let l = length_push done f.0.0 in
    let rest = flows_parts left rate (done ++ (f.0.0 ∷ [])) f.0.1 s (omega arith) f.2 in
    (f.0.0 ∷ rest.0, listed_more rate done f.0.0 rest.0 s.0 c a.0.1 f.0.1 s.1 (subst headed e head) (flow_parts rate a.0.1 f.0 f.1) rest.1))
    (λ e.
    let g : ◌≡◌ {A = Result (List Flow × Cursor) LineFault} (Ok (done, a.0.1)) (Ok s) = rw e at a.2 in
    let t : ◌≡◌ {A = List Flow × Cursor} (done, a.0.1) s = cc in
    ([], subst (λ (s : List Flow × Cursor). Listed rate done [] c s.0 s.1) t (listed_end rate done c a.0.1 (omega arith) (subst headed e head))))
    (cases_Bool a.0.0)

-- no more flows: the last line ends them
end-heading : (rate : Rate) (done : List Flow) (c : Cursor) (fs : List Flow) (after : Cursor) → Listed rate done [] c fs after → (heading_line (length done) c ≡ Ok (false, after)) × (done ≡ fs)
end-heading rate done c fs after l =
    let e : fs ≡ done = l.all ∙ append-nil done in
    let same = ap length e in
    (heading-made (length done) false c after (omega arith) (subst (λ (n : ℕ). Passed (line_text key.Flows n) 1 c after) same l.passed, omega arith), sym e)

-- and all such lines are read
pub flows_made : (left : ℕ) (rate : Rate) (done more : List Flow) (c : Cursor) (fs : List Flow) (after : Cursor) → left + length done ≡ 64 → Listed rate done more c fs after → flows_from left rate done c ≡ Ok (fs, after)
flows_made zero rate done [] c fs after full l = let e = end-heading rate done c fs after l in rw e.0 (ap (λ (x : List Flow). Ok (x, after)) e.1)
flows_made (suc left) rate done [] c fs after full l = let e = end-heading rate done c fs after l in rw e.0 (ap (λ (x : List Flow). Ok (x, after)) e.1)
flows_made zero rate done (f ∷ more) c fs after full l = absurd (omega (arith, ap length l.all, length-append done (f ∷ more)))
flows_made (suc left) rate done (f ∷ more) c fs after full l =
    let text = rest_more (length done + 1) f more (length fs) in
    let h = passed_split (line_text key.Flow (length done + 1)) _ 1 (7 + rest_lines more) c after (subst (λ (t : List ℕ). Passed t (rest_lines (f ∷ more)) c after) text l.passed) in
    let b = passed_split (flow_body f) _ 7 (rest_lines more) h.0 after h.2 in
    let k = and_parts (flow_kept rate f) _ l.kept in
    let one = length_push done f in
    let head = heading-made (length done) true c h.0 (omega arith) (h.1, omega arith) in
    let flow = flow-made rate h.0 f b.0 (record { passed = b.1; kept = k.0 }) in
    let rest = subst (λ (n : ℕ). Passed (rest_text (n + 1) more (length fs)) (rest_lines more) b.0 after) (sym one) b.2 in
    rw (head, flow) (flows_made left rate (done ++ (f ∷ [])) more b.0 fs after (omega arith) (record { all = l.all ∙ sym (append_assoc done (f ∷ []) more); passed = rest; kept = k.1; some = l.some; few = l.few }))
