-- What is left of a queue's packets, from the next packet of each flow on. Assumes nothing.
use Rattle.std.proofs.Common.{◌≡◌, ℕ, zero, suc, ◌+◌, ◌<◌, ◌≤◌, Bool, true, false, cond, ◌||◌, eqb, leb, ◌⊎◌, List, [], ◌∷◌, length, take, Some, None, Option, MatchOption, sym, refl, ap, ◌∙◌, subst, inl, inr, ⊎_elim, arith}
use Rattle.std.specs.List.{AllByRecursion, slice_get}
use Rattle.std.specs.Iterator.{MakesProgress, item_count}
use Rattle.std.proofs.ByRecursion.{All-weaker}
use Rattle.std.proofs.lemmas.Bool.{cases_Bool, cases_eq, cases_lt, cases_order, both_ways, and_parts, and_from, and_left, and_right, or_left, or_cases, or_parts, not-true, not_from_false, eq-eqb, ne_eqb, eqb-true, le-leb, lt-leb, leb-true}
use Rattle.traffic.specs.declared.packet.Job.{Job}
use Rattle.traffic.specs.Packets.{Traffic, flow_at, arrival, queue_of, job}
use Rattle.traffic.specs.Orders.{queue_before}
use Rattle.traffic.proofs.Total.{queue_order}
use Rattle.sheet.specs.Ranges.{all_kept}
use Rattle.table.specs.Order.{none_before, placed}
use Rattle.coming.specs.Coming.{waits_in, Due, Joins, Built, Stepped, OtherFlow, Lined}
use Rattle.coming.specs.Packets.{packets_before}
use Rattle.coming.specs.Left.{at_or_after, to_come, left}
use Rattle.coming.specs.Rising.{In}
use Rattle.coming.proofs.Rising.{all_in, kept_first, kept_head, kept_all, kept_none}
use Rattle.coming.proofs.Arrivals.{sooner_before, packets_rise, packets_due, due_in}
use Rattle.coming.proofs.Steps.{due_after}

or_swap : (a b c : Bool) → (a || (b || c)) ≡ (b || (a || c))
or_swap true true c = refl
or_swap true false c = refl
or_swap false true c = refl
or_swap false false c = refl

to_come-placed : (x y : Job) (ns : List Job) → to_come (placed queue_before y ns) x ≡ (at_or_after x y || to_come ns x)
to_come-placed x y [] = refl
to_come-placed x y (n ∷ ns) =
    ⊎_elim
    (λ e. ap (λ (t : Bool). to_come (cond t (y ∷ (n ∷ ns)) (n ∷ placed queue_before y ns)) x) e)
    (λ e. ap (λ (t : Bool). to_come (cond t (y ∷ (n ∷ ns)) (n ∷ placed queue_before y ns)) x) e ∙ ap (λ (t : Bool). at_or_after x n || t) (to_come-placed x y ns) ∙ or_swap (at_or_after x n) (at_or_after x y) (to_come ns x))
    (cases_Bool (queue_before y n))

to_come_some : (x : Job) (ns : List Job) → to_come ns x ≡ true → (n : Job) × (In n ns × (at_or_after x n ≡ true))
to_come_some x [] h = absurd (both_ways false refl h)
to_come_some x (n ∷ ns) h =
    ⊎_elim
    (λ e. (n, (inl refl, e)))
    (λ e. let rest = to_come_some x ns e in (rest.0, (inr rest.1.0, rest.1.1)))
    (or_cases (at_or_after x n) (to_come ns x) h)

to_come_other : (x : Job) (ns : List Job) → AllByRecursion (λ n. n.flow ≡ x.flow → ⊥) ns → to_come ns x ≡ false
to_come_other x [] h = refl
to_come_other x (n ∷ ns) h =
    ap (λ (t : Bool). t || to_come ns x) (and_left (eqb n.flow x.flow) (leb n.number x.number) (ne_eqb n.flow x.flow h.0))
    ∙ to_come_other x ns h.1

after_is : (x : Job) (n : Job) → n.flow ≡ x.flow → n.number ≤ x.number → at_or_after x n ≡ true
after_is x n f k = and_from (eqb n.flow x.flow) (leb n.number x.number) (eq-eqb n.flow x.flow f) (le-leb n.number x.number k)

after_parts : (x : Job) (n : Job) → at_or_after x n ≡ true → (n.flow ≡ x.flow) × (n.number ≤ x.number)
after_parts x n h = let p = and_parts (eqb n.flow x.flow) (leb n.number x.number) h in (eqb-true n.flow x.flow p.0, leb-true n.number x.number p.1)

after_other : (x : Job) (n : Job) → (n.flow ≡ x.flow → ⊥) → at_or_after x n ≡ false
after_other x n h = and_left (eqb n.flow x.flow) (leb n.number x.number) (ne_eqb n.flow x.flow h)

module _ (s : Traffic) (long q : ℕ) (kept : all_kept s.rate s.flows ≡ true) where
  -- a packet is what its flow and number say
  pub due_same : (x z : Job) → Due s long q x → Due s long q z → z.flow ≡ x.flow → z.number ≡ x.number → z ≡ x
  due_same x z d e f n =
      e.is ∙ ap (λ (i : ℕ). job s.rate i (flow_at s.flows i) z.number) f ∙ ap (job s.rate x.flow (flow_at s.flows x.flow)) n ∙ sym d.is

  irreflexive : (x : Job) → queue_before x x ≡ true → ⊥
  irreflexive x h = both_ways (queue_before x x) (queue_order.never x) h

  no_ring : (x z : Job) → queue_before x z ≡ true → queue_before z x ≡ true → ⊥
  no_ring x z h k = irreflexive x (queue_order.chained x z x h k)

  -- a later packet of a flow, or the same
  at_later : (c z : Job) → Due s long q c → Due s long q z → c.flow ≡ z.flow → c.number ≤ z.number → (c ≡ z) ⊎ (queue_before c z ≡ true)
  at_later c z d e f n =
      ⊎_elim
      (λ (same : c.number ≡ z.number). inl (due_same z c e d f same))
      (λ (ne : c.number ≡ z.number → ⊥). inr (sooner_before c z (due_after s long q c z kept d e (sym f) (omega arith))))
      (cases_eq c.number z.number)

  -- the first of those in order is before all others
  heads_before : (x : Job) (ns : List Job) → none_before queue_before x ns ≡ true → AllByRecursion (OtherFlow x) ns → AllByRecursion (λ n. queue_before x n ≡ true) ns
  heads_before x [] h o = tt
  heads_before x (n ∷ ns) h o =
      let p = and_parts _ _ h in
      (queue_order.decides x n (inl (λ same. o.0 (sym same))) ∙ not_from_false _ (not-true _ p.0), heads_before x ns p.1 o.1)

  -- nothing that is to come is before the first
  none_low : (x z : Job) (rest : List Job) → Lined s long q (x ∷ rest) → Due s long q z → queue_before z x ≡ true → to_come (x ∷ rest) z ≡ false
  none_low x z rest l d before =
      ⊎_elim
      (λ h.
      let found = to_come_some z (x ∷ rest) h in
      let c = found.0 in
      let parts = after_parts z c found.1.1 in
      let dc = all_in (λ (n : Job). Due s long q n) c (x ∷ rest) l.due found.1.0 in
      let first : (x ≡ c) ⊎ (queue_before x c ≡ true) =
      ⊎_elim
      (λ (e : c ≡ x). inl (sym e))
      (λ i. inr (all_in (λ (n : Job). queue_before x n ≡ true) c rest (heads_before x rest (and_parts _ _ l.ordered).0 l.once.0) i))
      found.1.0 in
      let then = at_later c z dc d parts.0 parts.1 in
      absurd (⊎_elim
      (λ (e : x ≡ c). ⊎_elim (λ (g : c ≡ z). irreflexive x (subst (λ (y : Job). queue_before y x ≡ true) (sym (e ∙ g)) before)) (λ g. no_ring x z (subst (λ (y : Job). queue_before y z ≡ true) (sym e) g) before) then)
      (λ f. ⊎_elim (λ (g : c ≡ z). no_ring x z (subst (λ (y : Job). queue_before x y ≡ true) g f) before) (λ g. no_ring x z (queue_order.chained x c z f g) before) then)
      first))
      (λ h. h)
      (cases_Bool (to_come (x ∷ rest) z))

  -- of the same flow, what is behind the first has a greater number
  greater : (x z : Job) → Due s long q x → Due s long q z → z.flow ≡ x.flow → queue_before x z ≡ true → x.number < z.number
  greater x z d e f before =
      ⊎_elim
      (λ (same : z.number ≡ x.number). absurd (irreflexive x (subst (λ (y : Job). queue_before x y ≡ true) (due_same x z d e f same) before)))
      (⊎_elim
      (λ (less : z.number < x.number). absurd (no_ring x z before (sooner_before z x (due_after s long q z x kept e d (sym f) less))))
      (λ (more : x.number < z.number). more))
      (cases_order z.number x.number)

  due_waits : (z : Job) (i : ℕ) → Due s long q z → z.flow ≡ i → waits_in q (flow_at s.flows i) z.number ≡ true
  due_waits z i e f =
      eq-eqb (queue_of (flow_at s.flows i) z.number) q
      (ap (λ (k : ℕ). queue_of (flow_at s.flows k) z.number) (sym f) ∙ sym (ap (λ (y : Job). y.queue) e.is) ∙ e.waits)

  due_arrives : (z : Job) (i : ℕ) → Due s long q z → z.flow ≡ i → z.arrival ≡ arrival (flow_at s.flows i) z.number
  due_arrives z i e f = ap (λ (y : Job). y.arrival) e.is ∙ ap (λ (k : ℕ). arrival (flow_at s.flows k) z.number) f

  -- the next packet of a flow, if there is one, is at or before every later one
  joins_covers : (i j : ℕ) (z : Job) (ns ms : List Job) → Joins s long q i j ns ms → Due s long q z → z.flow ≡ i → j ≤ z.number → to_come ms z ≡ true
  joins_covers i j z ns ms (inl none) e f from =
      let late = none.0 z.number from (due_waits z i e f) in
      let early = e.early in
      let at = due_arrives z i e f in
      absurd (omega arith)
  joins_covers i j z ns ms (inr (y, (due, is))) e f from =
      let low : y.number ≤ z.number =
      ⊎_elim
      (λ (less : z.number < y.number). absurd (both_ways (waits_in q (flow_at s.flows i) z.number) (due.first.first z.number from less) (due_waits z i e f)))
      (λ (le : y.number ≤ z.number). le)
      (cases_lt z.number y.number) in
      ap (λ (ks : List Job). to_come ks z) is ∙ to_come-placed z y ns ∙ or_left (at_or_after z y) (to_come ns z) (after_is z y (due.same_flow ∙ sym f) low)

  -- other flows are as they were
  joins_other : (i j : ℕ) (z : Job) (ns ms : List Job) → Joins s long q i j ns ms → (z.flow ≡ i → ⊥) → to_come ms z ≡ to_come ns z
  joins_other i j z ns ms (inl none) ne = ap (λ (ks : List Job). to_come ks z) none.1
  joins_other i j z ns ms (inr (y, (due, is))) ne =
      ap (λ (ks : List Job). to_come ks z) is ∙ to_come-placed z y ns
      ∙ ap (λ (t : Bool). t || to_come ns z) (after_other z y (λ same. ne (sym same ∙ due.same_flow)))

  -- a packet with a smaller number is not to come by the flow's next one
  joins_low : (i j : ℕ) (z : Job) (ns ms : List Job) → Joins s long q i j ns ms → z.number < j → to_come ms z ≡ to_come ns z
  joins_low i j z ns ms (inl none) less = ap (λ (ks : List Job). to_come ks z) none.1
  joins_low i j z ns ms (inr (y, (due, is))) less =
      let from = due.first.from in
      ap (λ (ks : List Job). to_come ks z) is ∙ to_come-placed z y ns
      ∙ ap (λ (t : Bool). t || to_come ns z) (and_right (eqb y.flow z.flow) (leb y.number z.number) (lt-leb y.number z.number (omega arith)))

  -- what is to come after the step was to come before it
  step_still : (x z : Job) (rest ms : List Job) → Joins s long q x.flow (x.number + 1) rest ms → to_come (x ∷ rest) z ≡ false → to_come ms z ≡ false
  step_still x z rest ms joins h =
      let parts : (at_or_after z x ≡ false) × (to_come rest z ≡ false) = or_parts (at_or_after z x) (to_come rest z) h in
      ⊎_elim
      (λ (f : z.flow ≡ x.flow).
      ⊎_elim
      (λ (less : z.number < x.number + 1). joins_low x.flow (x.number + 1) z rest ms joins less ∙ parts.1)
      (λ (more : x.number + 1 ≤ z.number). absurd (both_ways (at_or_after z x) parts.0 (after_is z x (sym f) (omega arith))))
      (cases_lt z.number (x.number + 1)))
      (λ ne. joins_other x.flow (x.number + 1) z rest ms joins ne ∙ parts.1)
      (cases_eq z.flow x.flow)

  -- behind the first the step changes nothing
  step_high : (x z : Job) (rest ms : List Job) → Due s long q x → Joins s long q x.flow (x.number + 1) rest ms → Due s long q z → queue_before x z ≡ true → to_come (x ∷ rest) z ≡ to_come ms z
  step_high x z rest ms d joins e before =
      ⊎_elim
      (λ (f : z.flow ≡ x.flow).
      let more = greater x z d e f before in
      or_left (at_or_after z x) (to_come rest z) (after_is z x (sym f) (omega arith)) ∙ sym (joins_covers x.flow (x.number + 1) z rest ms joins e f (omega arith)))
      (λ ne. ap (λ (t : Bool). t || to_come rest z) (after_other z x (λ same. ne (sym same))) ∙ sym (joins_other x.flow (x.number + 1) z rest ms joins ne))
      (cases_eq z.flow x.flow)

  -- one packet taken from what is left
  pub left_step : (x : Job) (ns ms : List Job) → Lined s long q ns → Stepped s long q x ns ms → left s long q ns ≡ x ∷ left s long q ms
  left_step x ns ms l (rest, (is, joins)) =
      let m : Lined s long q (x ∷ rest) = subst (Lined s long q) is l in
      let d = m.due.0 in
      let ps = packets_before s q long in
      let dues = packets_due s q long in
      let gone : to_come ms x ≡ false = joins_low x.flow (x.number + 1) x rest ms joins (omega arith) ∙ to_come_other x rest m.once.0 in
      ap (left s long q) is
      ∙ kept_first queue_before queue_order.never queue_order.chained (to_come (x ∷ rest)) (to_come ms) x ps (packets_rise s q long) (due_in s long q x kept d)
      (or_left (at_or_after x x) (to_come rest x) (after_is x x refl (omega arith)))
      gone
      (All-weaker (Due s long q) (λ (z : Job). queue_before x z ≡ true → to_come (x ∷ rest) z ≡ to_come ms z) (λ z e before. step_high x z rest ms d joins e before) ps dues)
      (All-weaker (Due s long q) (λ (z : Job). queue_before z x ≡ true → (to_come (x ∷ rest) z ≡ false) × (to_come ms z ≡ false)) (λ z e before. let no = none_low x z rest m e before in (no, step_still x z rest ms joins no)) ps dues)

  -- the first of what is left
  pub left-first : (ns : List Job) → Lined s long q ns → take 1 (left s long q ns) ≡ take 1 ns
  left-first [] l = ap (take 1) (kept_none (to_come []) (packets_before s q long) (λ x. refl))
  left-first (n ∷ rest) l =
      let x = n in
      let ps = packets_before s q long in
      let head = kept_head queue_before queue_order.never queue_order.chained (to_come (n ∷ rest)) x ps (packets_rise s q long) (due_in s long q x kept l.due.0)
      (or_left (at_or_after x n) (to_come rest x) (after_is x n refl (omega arith)))
      (All-weaker (Due s long q) (λ (z : Job). queue_before z x ≡ true → to_come (n ∷ rest) z ≡ false) (λ z e before. none_low x z rest l e before) ps (packets_due s q long)) in
      ap (take 1) head.1

  pub left_none : left s long q [] ≡ []
  left_none = kept_none (to_come []) (packets_before s q long) (λ x. refl)

  -- a step of the next packets is one of what is left
  pub left_steps : (r : Option Job) (ns ms : List Job) → Lined s long q ns → MatchOption r ((ns ≡ []) × (ms ≡ [])) (λ x. Stepped s long q x ns ms) →
      MatchOption r ((left s long q ns ≡ []) × (left s long q ms ≡ [])) (λ x. left s long q ns ≡ x ∷ left s long q ms)
  left_steps None ns ms l none = (ap (left s long q) none.0 ∙ left_none, ap (left s long q) none.1 ∙ left_none)
  left_steps (Some x) ns ms l step = left_step x ns ms l step

  -- once the first packets of all flows have joined, all is left
  built_covers : (n : ℕ) (ns : List Job) (z : Job) → Built s long q n ns → Due s long q z → z.flow ≤ n → to_come ns z ≡ true
  built_covers zero ns z b d h = let named = d.named in absurd (omega arith)
  built_covers (suc i) ns z (ms, (b, joins)) d h =
      ⊎_elim
      (λ (f : z.flow ≡ suc i). joins_covers (suc i) 1 z ms ns joins d f d.counted)
      (λ ne. joins_other (suc i) 1 z ms ns joins ne ∙ built_covers i ms z b d (omega arith))
      (cases_eq z.flow (suc i))

  pub left_all : (ns : List Job) → Built s long q (length s.flows) ns → left s long q ns ≡ packets_before s q long
  left_all ns b = kept_all (to_come ns) (packets_before s q long) (All-weaker (Due s long q) (λ (z : Job). to_come ns z ≡ true) (λ z d. built_covers (length s.flows) ns z b d d.listed) (packets_before s q long) (packets_due s q long))

-- the first of a list is told by its part of one
pub same_first : {X : Type 0} (xs ys : List X) → take 1 xs ≡ take 1 ys → slice_get xs 0 ≡ slice_get ys 0
same_first [] [] e = refl
same_first [] (y ∷ ys) e = cc
same_first (x ∷ xs) [] e = cc
same_first (x ∷ xs) (y ∷ ys) e = cc

-- an iterator that gives the first of a list has fewer left
pub progress : (r : Option Job) (xs ys : List Job) → MatchOption r ((xs ≡ []) × (ys ≡ [])) (λ x. xs ≡ x ∷ ys) → MakesProgress (λ _. Unit {0}) (item_count (λ q. q)) xs r ys
progress None xs ys e = record { on = λ _. tt; keeps = tt; rests = λ _. tt }
progress (Some x) xs ys e = let shorter = ap length e in record { on = λ _. (tt, tt, omega arith); keeps = tt; rests = λ _. tt }
