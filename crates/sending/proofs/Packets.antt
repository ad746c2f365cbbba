-- The packets of a sheet: each comes once, and every cycle brings those of the first again.
use Rattle.std.proofs.Common.{◌≡◌, ℕ, zero, suc, ◌+◌, ◌-◌, ◌*◌, ◌/◌, ◌%◌, ◌<◌, ◌≤◌, Bool, true, false, cond, ◌||◌, eqb, ltb, List, [], ◌∷◌, map, length, sym, refl, ap, ◌∙◌, subst, ⊎_elim, mul-le-mul_left, mul-div_cancel, arith}
use native.Mathlib.Nat.{mul-div_cancel', mul-add-div_right, mul-add-mod_self_right, lt_of_mul-lt-mul_left}
use Rattle.std.specs.List.{AllByRecursion}
use Rattle.std.proofs.lemmas.Bool.{and_parts, and_from, and_left, and_right, cases_eq, eqb-true, eq-eqb, ne_eqb, or_parts, false≢true}
use Rattle.std.proofs.lemmas.Bool.Decides.{nat_tests}
use Rattle.traffic.specs.declared.flow.Flow.{Flow}
use Rattle.traffic.specs.declared.packet.Packet.{Packet}
use Rattle.traffic.specs.Packets.{Traffic, arrival}
use Rattle.traffic.specs.Pattern.{turn, mandatory_at}
use Rattle.traffic.specs.Orders.{then_by, lightness}
use Rattle.cycle.specs.Cycle.{number_in_cycle}
use Rattle.cycle.proofs.Repeats.{same_place}
use Rattle.gates.specs.declared.entry.Entry.{Entry}
use Rattle.sending.specs.Sheet.{Fits, FlowFits, OfSheet, cycle, flow, job_of, wire, deadline, queue, number_at, packet_at, arrives, same, waits_before, placed}
use Rattle.sending.specs.Rules.{admitted}
use Rattle.gates.specs.Entries.{names}
use Rattle.sending.specs.Port.{has_packet, arriving, holds}
use Rattle.sending.proofs.Counting.{count}
use Rattle.sending.proofs.Lists.{all_cond, all_placed, map-placed}

pub same-is : (p r : Packet) → same p r ≡ true → p ≡ r
same-is p r e =
    let a = and_parts (eqb p.flow r.flow) _ e in
    let b = and_parts (eqb p.number r.number) (eqb p.arrival r.arrival) a.1 in
    let f = eqb-true p.flow r.flow a.0 in
    let n = eqb-true p.number r.number b.0 in
    let t = eqb-true p.arrival r.arrival b.1 in
    λ i. record { flow = f i; number = n i; arrival = t i }

pub same_self : (p : Packet) → same p p ≡ true
same_self p = and_from _ _ (eq-eqb p.flow p.flow refl) (and_from _ _ (eq-eqb p.number p.number refl) (eq-eqb p.arrival p.arrival refl))

abbrev pub times : Packet → List Packet → ℕ
times p xs = count same same-is same_self p xs

pub times-placed : (p : Packet) (b : Packet → Packet → Bool) (x : Packet) (ys : List Packet) → times p (placed b x ys) ≡ cond (same p x) 1 0 + times p ys
times-placed p b x [] = refl
times-placed p b x (y ∷ ys) = go (b x y) (times-placed p b x ys)
  where
    go : (t : Bool) → times p (placed b x ys) ≡ cond (same p x) 1 0 + times p ys → times p (cond t (x ∷ y ∷ ys) (y ∷ placed b x ys)) ≡ cond (same p x) 1 0 + (cond (same p y) 1 0 + times p ys)
    go true h = refl
    go false h = omega arith

pub times-cond : (p : Packet) (b : Bool) (xs ys : List Packet) (n : ℕ) → times p xs ≡ n → times p ys ≡ n → times p (cond b xs ys) ≡ n
times-cond p true xs ys n e f = e
times-cond p false xs ys n e f = f

-- one that is not p does not count
pub times_other : (p : Packet) (b : Packet → Packet → Bool) (x : Packet) (ys : List Packet) (n : ℕ) → same p x ≡ false → times p ys ≡ n → times p (placed b x ys) ≡ n
times_other p b x ys n e h = let k = times-placed p b x ys in let o : times p (placed b x ys) ≡ 0 + times p ys = rw e at k in omega arith

pub other_flow : (p x : Packet) → (p.flow ≡ x.flow → ⊥) → same p x ≡ false
other_flow p x n = and_left (eqb p.flow x.flow) _ (ne_eqb p.flow x.flow n)

pub other_time : (p x : Packet) → (p.arrival ≡ x.arrival → ⊥) → same p x ≡ false
other_time p x n = and_right (eqb p.flow x.flow) _ (and_right (eqb p.number x.number) _ (ne_eqb p.arrival x.arrival n))

-- not held, so not counted
pub times_none : (p : Packet) (xs : List Packet) → holds xs p ≡ false → times p xs ≡ 0
times_none p [] h = refl
times_none p (x ∷ xs) h = let both = or_parts (same p x) (holds xs p) h in let k = times_none p xs both.1 in let e = both.0 in rw e (omega arith)

-- held, so counted
pub times_some : (p : Packet) (xs : List Packet) → holds xs p ≡ true → 1 ≤ times p xs
times_some p [] h = absurd (false≢true h)
times_some p (x ∷ xs) h = go (same p x) h (times_some p xs)
  where
    go : (b : Bool) → (b || holds xs p) ≡ true → (holds xs p ≡ true → 1 ≤ times p xs) → 1 ≤ cond b 1 0 + times p xs
    go true f ih = omega arith
    go false f ih = let k = ih f in omega arith

-- what holds of each holds of one that counts
pub all_times : (Q : Packet → Type 0) (x : Packet) (ys : List Packet) → AllByRecursion Q ys → 1 ≤ times x ys → Q x
all_times Q x [] a h = absurd (omega arith)
all_times Q x (y ∷ ys) a h = go (same x y) refl h (all_times Q x ys a.1)
  where
    go : (b : Bool) → same x y ≡ b → 1 ≤ cond b 1 0 + times x ys → (1 ≤ times x ys → Q x) → Q x
    go true e k ih = subst Q (sym (same-is x y e)) a.0
    go false e k ih = ih (omega arith)

module _ (s : Traffic) (es : List Entry) (q t : ℕ) (p : Packet) where
  pub none_then : (t ≡ p.arrival → ⊥) → (n : ℕ) → times p (arriving s es q t n) ≡ 0
  none_then ne zero = refl
  none_then ne (suc n) = let h = none_then ne n in times-cond p (has_packet s es q t (suc n)) _ _ 0 (times_other p (waits_before s) (packet_at s (suc n) t) (arriving s es q t n) 0 (other_time p (packet_at s (suc n) t) (λ e. ne (sym e))) h) h

  pub none_yet : (n : ℕ) → n < p.flow → times p (arriving s es q t n) ≡ 0
  none_yet zero h = refl
  none_yet (suc n) h = let k = none_yet n (omega arith) in times-cond p (has_packet s es q t (suc n)) _ _ 0 (times_other p (waits_before s) (packet_at s (suc n) t) (arriving s es q t n) 0 (other_flow p (packet_at s (suc n) t) (λ e. omega arith)) k) k

  pub comes_once : p ≡ packet_at s p.flow t → has_packet s es q t p.flow ≡ true → 1 ≤ p.flow → (n : ℕ) → p.flow ≤ n → times p (arriving s es q t n) ≡ 1
  comes_once is-p has l zero h = absurd (omega arith)
  comes_once is-p has l (suc n) h = ⊎_elim
      (λ (e : p.flow ≡ suc n).
      let has-n : has_packet s es q t (suc n) ≡ true = rw e at has in
      let p-n : p ≡ packet_at s (suc n) t = is-p ∙ ap (λ (i : ℕ). packet_at s i t) e in
      let self : same p (packet_at s (suc n) t) ≡ true = ap (λ (x : Packet). same p x) (sym p-n) ∙ same_self p in
      let none-n = none_yet n (omega arith) in
      let c = times-placed p (waits_before s) (packet_at s (suc n) t) (arriving s es q t n) in
      let d : times p (placed (waits_before s) (packet_at s (suc n) t) (arriving s es q t n)) ≡ 1 + times p (arriving s es q t n) = rw self at c in
      rw has-n (omega arith))
      (λ ne. let k = comes_once is-p has l n (omega arith) in times-cond p (has_packet s es q t (suc n)) _ _ 1 (times_other p (waits_before s) (packet_at s (suc n) t) (arriving s es q t n) 1 (other_flow p (packet_at s (suc n) t) ne) k) k)
      (cases_eq p.flow (suc n))

-- a flow's period takes some time
pub some_period : (s : Traffic) (f : Flow) → FlowFits s f → 0 < f.period
some_period s f ff = let a = ff.some_wire in let b = ff.can_end in let d = ff.one_waits in omega arith

pub fits_of : (s : Traffic) → Fits s → (p : Packet) → OfSheet s p → FlowFits s (flow s p.flow)
fits_of s fs p o = fs.each p.flow o.from_one o.to_last

-- at its arrival the latest packet of its flow is a packet itself
pub number_is : (s : Traffic) → Fits s → (p : Packet) → OfSheet s p → number_at (flow s p.flow) p.arrival ≡ p.number
number_is s fs p o =
    let T = (flow s p.flow).period in
    let some : 1 ≤ p.number = o.numbered in
    let d : p.arrival / T ≡ p.number - 1 = ap (λ (a : ℕ). a / T) o.on_time ∙ mul-div_cancel (p.number - 1) (some_period s (flow s p.flow) (fits_of s fs p o)) in
    omega arith

pub counted : (s : Traffic) → Fits s → (p : Packet) → OfSheet s p → p ≡ packet_at s p.flow p.arrival
counted s fs p o = let n = number_is s fs p o in λ i. record { flow = p.flow; number = sym n i; arrival = p.arrival }

-- what arrives at t is a packet of the sheet
pub arrives_ours : (s : Traffic) (i t : ℕ) → 1 ≤ i → i ≤ length s.flows → arrives s i t ≡ true → OfSheet s (packet_at s i t)
arrives_ours s i t a b e = record { from_one = a; to_last = b; numbered = omega arith; on_time = sym (eqb-true (arrival (flow s i) (number_at (flow s i) t)) t e) }

pub arrives_it : (s : Traffic) → Fits s → (p : Packet) → OfSheet s p → arrives s p.flow p.arrival ≡ true
arrives_it s fs p o = eq-eqb (arrival (flow s p.flow) (number_at (flow s p.flow) p.arrival)) p.arrival (ap (arrival (flow s p.flow)) (number_is s fs p o) ∙ sym o.on_time)

-- what comes at t is of the sheet, arrives at t and is admitted
pub record Comes (s : Traffic) (es : List Entry) (q t : ℕ) (p : Packet) : Type 0 where
  pub ours : OfSheet s p
  pub now : p.arrival ≡ t
  pub let_in : admitted s es p ≡ true
  pub own : queue s p ≡ q

pub comes-here : (s : Traffic) (es : List Entry) (q t i : ℕ) → 1 ≤ i → i ≤ length s.flows → has_packet s es q t i ≡ true → Comes s es q t (packet_at s i t)
comes-here s es q t i from to h =
    let x = and_parts (arrives s i t) _ h in
    let y = and_parts (eqb q (queue s (packet_at s i t))) (admitted s es (packet_at s i t)) x.1 in
    record { ours = arrives_ours s i t from to x.0; now = refl; let_in = y.1; own = sym (eqb-true q (queue s (packet_at s i t)) y.0) }

pub all_come : (s : Traffic) (es : List Entry) (q t n : ℕ) → n ≤ length s.flows → AllByRecursion (Comes s es q t) (arriving s es q t n)
all_come s es q t zero l = tt
all_come s es q t (suc n) l = all_cond (Comes s es q t) (has_packet s es q t (suc n)) _ _
    (λ h. all_placed (Comes s es q t) (waits_before s) (packet_at s (suc n) t) _ (comes-here s es q t (suc n) (omega arith) l h) (all_come s es q t n (omega arith)))
    (λ _. all_come s es q t n (omega arith))

pub has_it : (s : Traffic) → Fits s → (es : List Entry) (p : Packet) → OfSheet s p → admitted s es p ≡ true → has_packet s es (queue s p) p.arrival p.flow ≡ true
has_it s fs es p o a = and_from _ _ (arrives_it s fs p o) (and_from _ _ (eq-eqb (queue s p) _ (ap (queue s) (counted s fs p o))) (sym (ap (admitted s es) (counted s fs p o)) ∙ a))

-- so it comes to its queue, once
pub comes-then : (s : Traffic) → Fits s → (es : List Entry) (q : ℕ) (p : Packet) → OfSheet s p → admitted s es p ≡ true → queue s p ≡ q → times p (arriving s es q p.arrival (length s.flows)) ≡ 1
comes-then s fs es q p o a own =
    comes_once s es q p.arrival p (counted s fs p o) (subst (λ (r : ℕ). has_packet s es r p.arrival p.flow ≡ true) own (has_it s fs es p o a)) o.from_one (length s.flows) o.to_last

-- the same packet, k later
abbrev pub moved : Traffic → ℕ → Packet → Packet
moved s k p = packet_at s p.flow (k + p.arrival)

ltb-add : (k a b : ℕ) → ltb (k + a) (k + b) ≡ ltb a b
ltb-add k a b = grind (arith, nat_tests)

eqb-add : (k a b : ℕ) → eqb (k + a) (k + b) ≡ eqb a b
eqb-add k a b = grind (arith, nat_tests)

then-add : (k a b : ℕ) (r : Bool) → then_by (k + a) (k + b) r ≡ then_by a b r
then-add k a b r = rw (ltb-add k a b, eqb-add k a b)

-- cycle n brings the packets of the first cycle again
module _ (s : Traffic) (pos : 0 < cycle s) (n i : ℕ) (ff : FlowFits s (flow s i)) where
  abbrev T : ℕ
  T = (flow s i).period

  abbrev x : ℕ
  x = turn (flow s i)

  abbrev c : ℕ
  c = cycle s / (x * T)

  cycle-is : cycle s ≡ (x * c) * T
  cycle-is = let h : (x * T) * c ≡ cycle s = mul-div_cancel' (x * T) ff.whole_patterns in omega arith

  cycles_are : n * cycle s ≡ (n * (x * c)) * T
  cycles_are = ap (λ (a : ℕ). n * a) cycle-is ∙ omega arith

  number_moved : (o : ℕ) → (n * cycle s + o) / T ≡ n * (x * c) + o / T
  number_moved o = ap (λ (a : ℕ). (a + o) / T) cycles_are ∙ mul-add-div_right (some_period s (flow s i) ff) (n * (x * c)) o

  minus_one : (a : ℕ) → a + 1 - 1 ≡ a
  minus_one a = omega arith

  -- it arrives that much later
  pub arrival-moved : (o : ℕ) → arrival (flow s i) (number_at (flow s i) (n * cycle s + o)) ≡ n * cycle s + arrival (flow s i) (number_at (flow s i) o)
  arrival-moved o =
      let m = number_moved o in
      let k = cycles_are in
      let e : (n * (x * c) + o / T) * T ≡ (n * (x * c)) * T + o / T * T = omega arith in
      rw (minus_one ((n * cycle s + o) / T), minus_one (o / T), m) (e ∙ ap (λ (a : ℕ). a + o / T * T) (sym k))

  pub arrives-moved : (o : ℕ) → arrives s i (n * cycle s + o) ≡ arrives s i o
  arrives-moved o = ap (λ (a : ℕ). eqb a (n * cycle s + o)) (arrival-moved o) ∙ eqb-add (n * cycle s) (arrival (flow s i) (number_at (flow s i) o)) o

  in_cycle-moved : (o : ℕ) → number_in_cycle (cycle s) (flow s i) (number_at (flow s i) (n * cycle s + o)) ≡ number_in_cycle (cycle s) (flow s i) (number_at (flow s i) o)
  in_cycle-moved o =
      let d : cycle s / T ≡ x * c = ap (λ (a : ℕ). a / T) cycle-is ∙ mul-div_cancel (x * c) (some_period s (flow s i) ff) in
      let e : (n * cycle s + o) / T % (cycle s / T) ≡ o / T % (cycle s / T) = rw d (ap (λ (a : ℕ). a % (x * c)) (number_moved o) ∙ mul-add-mod_self_right n (x * c) (o / T)) in
      ap (λ (a : ℕ). a % (cycle s / T) + 1) (minus_one ((n * cycle s + o) / T)) ∙ ap (λ (a : ℕ). a + 1) e ∙ ap (λ (a : ℕ). a % (cycle s / T) + 1) (sym (minus_one (o / T)))

  -- a packet is of the kind of the one with its number in the cycle
  pub mandatory-moved : (o : ℕ) → mandatory_at (flow s i) (number_at (flow s i) (n * cycle s + o)) ≡ mandatory_at (flow s i) (number_at (flow s i) o)
  mandatory-moved o = sym (same_place (cycle s) (flow s i) ff.whole_patterns pos (number_at (flow s i) (n * cycle s + o))).kind ∙ ap (mandatory_at (flow s i)) (in_cycle-moved o) ∙ (same_place (cycle s) (flow s i) ff.whole_patterns pos (number_at (flow s i) o)).kind

  pub queue-moved : (o : ℕ) → queue s (packet_at s i (n * cycle s + o)) ≡ queue s (packet_at s i o)
  queue-moved o = ap (λ (b : Bool). cond b (flow s i).queue 0) (mandatory-moved o)

  pub admitted-moved : (es : List Entry) (o : ℕ) → admitted s es (packet_at s i (n * cycle s + o)) ≡ admitted s es (packet_at s i o)
  admitted-moved es o =
      let m = mandatory-moved o in
      let number = in_cycle-moved o in
      let named = ap (λ (a : ℕ). names es i a) number in
      cc

  pub has_moved : (es : List Entry) (q o : ℕ) → has_packet s es q (n * cycle s + o) i ≡ has_packet s es q o i
  has_moved es q o =
      let a = arrives-moved o in
      let b = ap (λ (a : ℕ). eqb q a) (queue-moved o) in
      let d = admitted-moved es o in
      cc

-- in the same order
before_moved : (s : Traffic) → Fits s → (n : ℕ) (x y : Packet) → OfSheet s x → OfSheet s y → waits_before s (moved s (n * cycle s) x) (moved s (n * cycle s) y) ≡ waits_before s x y
before_moved s fs n x y ox oy =
    let k = n * cycle s in
    let fx = fits_of s fs x ox in
    let fy = fits_of s fs y oy in
    let ax : (job_of s (moved s k x)).arrival ≡ k + (job_of s x).arrival = arrival-moved s fs.some_time n x.flow fx x.arrival ∙ ap (λ (j : ℕ). k + arrival (flow s x.flow) j) (number_is s fs x ox) in
    let ay : (job_of s (moved s k y)).arrival ≡ k + (job_of s y).arrival = arrival-moved s fs.some_time n y.flow fy y.arrival ∙ ap (λ (j : ℕ). k + arrival (flow s y.flow) j) (number_is s fs y oy) in
    let qx : queue s (moved s k x) ≡ queue s x = queue-moved s fs.some_time n x.flow fx x.arrival ∙ sym (ap (queue s) (counted s fs x ox)) in
    let qy : queue s (moved s k y) ≡ queue s y = queue-moved s fs.some_time n y.flow fy y.arrival ∙ sym (ap (queue s) (counted s fs y oy)) in
    let dx : (job_of s (moved s k x)).deadline ≡ k + (job_of s x).deadline = omega arith in
    let dy : (job_of s (moved s k y)).deadline ≡ k + (job_of s y).deadline = omega arith in
    let last = then_by (wire s y) (wire s x) (ltb x.flow y.flow) in
    let by-deadline : then_by (job_of s (moved s k x)).deadline (job_of s (moved s k y)).deadline last ≡ then_by (deadline s x) (deadline s y) last = (λ i. then_by (dx i) (dy i) last) ∙ then-add k (deadline s x) (deadline s y) last in
    let light : then_by (lightness (job_of s (moved s k x))) (lightness (job_of s (moved s k y))) (then_by (job_of s (moved s k x)).deadline (job_of s (moved s k y)).deadline last)
    ≡ then_by (lightness (job_of s x)) (lightness (job_of s y)) (then_by (deadline s x) (deadline s y) last) =
    λ i. then_by (cond (eqb (qx i) 0) (255 - (flow s x.flow).weight) 0) (cond (eqb (qy i) 0) (255 - (flow s y.flow).weight) 0) (by-deadline i) in
    (λ i. then_by (ax i) (ay i) (light i)) ∙ then-add k (job_of s x).arrival (job_of s y).arrival (then_by (lightness (job_of s x)) (lightness (job_of s y)) (then_by (deadline s x) (deadline s y) last))

pub flows_moved : (s : Traffic) → Fits s → (es : List Entry) (q n o m : ℕ) → m ≤ length s.flows → arriving s es q (n * cycle s + o) m ≡ map (moved s (n * cycle s)) (arriving s es q o m)
flows_moved s fs es q n o zero l = refl
flows_moved s fs es q n o (suc m) l = rw (has_moved s fs.some_time n (suc m) (fs.each (suc m) (omega arith) l) es q o) (go (has_packet s es q o (suc m)) refl (flows_moved s fs es q n o m (omega arith)))
  where
    go : (b : Bool) → has_packet s es q o (suc m) ≡ b → arriving s es q (n * cycle s + o) m ≡ map (moved s (n * cycle s)) (arriving s es q o m) →
        cond b (placed (waits_before s) (packet_at s (suc m) (n * cycle s + o)) (arriving s es q (n * cycle s + o) m)) (arriving s es q (n * cycle s + o) m)
        ≡ map (moved s (n * cycle s)) (cond b (placed (waits_before s) (packet_at s (suc m) o) (arriving s es q o m)) (arriving s es q o m))
    go true e h =
        ap (placed (waits_before s) (packet_at s (suc m) (n * cycle s + o))) h
        ∙ sym (map-placed (λ p. Comes s es q o p) (waits_before s) (moved s (n * cycle s)) (λ a b ca cb. before_moved s fs n a b ca.ours cb.ours) (packet_at s (suc m) o) (arriving s es q o m)
        (comes-here s es q o (suc m) (omega arith) l e) (all_come s es q o m (omega arith)))
    go false e h = h

-- deadlines do not pass the end of the cycle
pub ends_inside : (s : Traffic) → Fits s → (p : Packet) → OfSheet s p → p.arrival < cycle s → deadline s p ≤ cycle s
ends_inside s fs p o h =
    let f = flow s p.flow in
    let ff = fits_of s fs p o in
    let d = ff.one_waits in
    let m = x s fs.some_time 0 p.flow ff * c s fs.some_time 0 p.flow ff in
    let whole : cycle s ≡ m * f.period = cycle-is s fs.some_time 0 p.flow ff in
    let when : p.arrival ≡ (p.number - 1) * f.period = o.on_time in
    let lt : f.period * (p.number - 1) < f.period * m = omega arith in
    let le = mul-le-mul_left f.period (lt_of_mul-lt-mul_left f.period lt) in
    omega arith
