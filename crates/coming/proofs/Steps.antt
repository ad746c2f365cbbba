-- What a queue holds stays lined up as packets are taken and join. Assumes nothing.
use Rattle.std.proofs.Common.{◌≡◌, ℕ, zero, suc, ◌+◌, ◌-◌, ◌*◌, ◌<◌, ◌≤◌, true, false, List, [], ◌∷◌, length, sym, refl, ap, ◌∙◌, subst, inl, inr, ⊎_elim, add-mul, arith}
use Rattle.std.specs.List.{AllByRecursion}
use Rattle.std.proofs.ByRecursion.{All-weaker}
use Rattle.std.proofs.lemmas.Bool.{cases_Bool, and_parts, not-true, or_parts, ltb-false}
use Rattle.traffic.specs.declared.packet.Job.{Job}
use Rattle.traffic.specs.Packets.{Traffic, flow_at, arrival}
use Rattle.traffic.specs.Orders.{queue_before}
use Rattle.table.specs.Order.{in_order, none_before, placed}
use Rattle.table.proofs.Places.{in_order-placed}
use Rattle.coming.specs.Coming.{Due, NextDue, Joins, Built, Stepped, OtherFlow, Once, Lined}
use Rattle.traffic.specs.Behind.{queue_asym, queue-behind}
use Rattle.coming.proofs.Rising.{all_placed}
use Rattle.sheet.specs.Ranges.{all_kept}
use Rattle.coming.proofs.Kept.{Ranged, ranged_at}
use Rattle.coming.proofs.Dues.{arrival-rises, flow_at_getD}

once_placed : (x : Job) (xs : List Job) → AllByRecursion (OtherFlow x) xs → Once xs → Once (placed queue_before x xs)
once_placed x [] other once = (tt, tt)
once_placed x (y ∷ ys) other once =
    ⊎_elim
    (λ e. rw e (other, once))
    (λ e. rw e (all_placed (OtherFlow y) queue_before x ys (λ same. other.0 (sym same)) once.0, once_placed x ys other.1 once.1))
    (cases_Bool (queue_before x y))

order_placed : (x : Job) (xs : List Job) → in_order queue_before xs ≡ true → in_order queue_before (placed queue_before x xs) ≡ true
order_placed = in_order-placed queue_asym queue-behind

-- none of these is a packet of flow i
abbrev pub NotOf : ℕ → Job → Type 0
NotOf i n = n.flow ≡ i → ⊥

pub joins_lined : (s : Traffic) (long q i j : ℕ) (ns ms : List Job) → Lined s long q ns → AllByRecursion (NotOf i) ns → Joins s long q i j ns ms → Lined s long q ms
joins_lined s long q i j ns ms l other (inl none) = subst (Lined s long q) (sym none.1) l
joins_lined s long q i j ns ms l other (inr (y, (due, is))) =
    let apart : AllByRecursion (OtherFlow y) ns = All-weaker (NotOf i) (OtherFlow y) (λ n h same. h (same ∙ due.same_flow)) ns other in
    subst (Lined s long q) (sym is) (record {
      due = all_placed (λ (n : Job). Due s long q n) queue_before y ns due.due l.due;
      ordered = order_placed y ns l.ordered;
      once = once_placed y ns apart l.once;
    })

-- what holds of these and of the packet that joins holds after
pub joins_all : (P : Job → Type 0) (s : Traffic) (long q i j : ℕ) (ns ms : List Job) → AllByRecursion P ns → ((y : Job) → NextDue s long q i j y → P y) → Joins s long q i j ns ms → AllByRecursion P ms
joins_all P s long q i j ns ms ps p (inl none) = subst (AllByRecursion P) (sym none.1) ps
joins_all P s long q i j ns ms ps p (inr (y, (due, is))) = subst (AllByRecursion P) (sym is) (all_placed P queue_before y ns (p y due) ps)

-- flow by flow
pub built_lined : (s : Traffic) (long q n : ℕ) (ns : List Job) → Built s long q n ns → Lined s long q ns × AllByRecursion (λ m. m.flow ≤ n) ns
built_lined s long q zero ns is = subst (λ (ms : List Job). Lined s long q ms × AllByRecursion (λ m. m.flow ≤ 0) ms) (sym is) (record { due = tt; ordered = refl; once = tt }, tt)
built_lined s long q (suc i) ns (ms, (built, joins)) =
    let before = built_lined s long q i ms built in
    let low : AllByRecursion (λ (m : Job). m.flow ≤ suc i) ms = All-weaker (λ (m : Job). m.flow ≤ i) (λ (m : Job). m.flow ≤ suc i) (λ m h. omega arith) ms before.1 in
    let other : AllByRecursion (NotOf (suc i)) ms = All-weaker (λ (m : Job). m.flow ≤ i) (NotOf (suc i)) (λ m h e. omega arith) ms before.1 in (
      joins_lined s long q (suc i) 1 ms ns before.0 other joins,
      joins_all (λ (m : Job). m.flow ≤ suc i) s long q (suc i) 1 ms ns low (λ y due. let e = due.same_flow in omega arith) joins,
    )

-- a packet that is not before another does not arrive before it
pub not_sooner : (x y : Job) → queue_before y x ≡ false → x.arrival ≤ y.arrival
not_sooner x y h = ltb-false y.arrival x.arrival (or_parts _ _ h).0

none_sooner : (x : Job) (ns : List Job) → none_before queue_before x ns ≡ true → AllByRecursion (λ n. x.arrival ≤ n.arrival) ns
none_sooner x [] h = tt
none_sooner x (n ∷ ns) h =
    let p = and_parts _ _ h in
    (not_sooner x n (not-true _ p.0), none_sooner x ns p.1)

-- the packet of a flow with a greater number arrives no earlier
next-later : (s : Traffic) (long q : ℕ) (x y : Job) → Due s long q x → NextDue s long q x.flow (x.number + 1) y → x.arrival ≤ y.arrival
next-later s long q x y d n =
    let f = flow_at s.flows x.flow in
    let a : x.arrival ≡ arrival f x.number = ap (λ (z : Job). z.arrival) d.is in
    let same : flow_at s.flows y.flow ≡ f = ap (flow_at s.flows) n.same_flow in
    let b : y.arrival ≡ arrival f y.number = ap (λ (z : Job). z.arrival) n.due.is ∙ ap (λ g. arrival g y.number) same in
    let up : arrival f x.number ≤ arrival f y.number = arrival-rises f x.number y.number (omega (arith, n.first.from)) in
    omega arith

-- one packet taken
pub record Step (s : Traffic) (long q : ℕ) (x : Job) (ms : List Job) : Type 0 where
  pub due : Due s long q x
  pub lined : Lined s long q ms
  pub later : AllByRecursion (λ n. x.arrival ≤ n.arrival) ms

pub stepped : (s : Traffic) (long q : ℕ) (x : Job) (ns ms : List Job) → Lined s long q ns → Stepped s long q x ns ms → Step s long q x ms
stepped s long q x ns ms l (rest, (is, joins)) =
    let m : Lined s long q (x ∷ rest) = subst (Lined s long q) is l in
    let parts = and_parts _ _ m.ordered in
    let tail : Lined s long q rest = record { due = m.due.1; ordered = parts.1; once = m.once.1 } in
    record {
      due = m.due.0;
      lined = joins_lined s long q x.flow (x.number + 1) rest ms tail m.once.0 joins;
      later = joins_all (λ (n : Job). x.arrival ≤ n.arrival) s long q x.flow (x.number + 1) rest ms (none_sooner x rest parts.0) (λ y due. next-later s long q x y m.due.0 due) joins;
    }

-- of two packets of a flow the one with the greater number arrives later
pub due_after : (s : Traffic) (long q : ℕ) (x y : Job) → all_kept s.rate s.flows ≡ true → Due s long q x → Due s long q y → y.flow ≡ x.flow → x.number < y.number → x.arrival < y.arrival
due_after s long q x y kept d e same less =
    let i = x.flow in
    let f = flow_at s.flows i in
    let within : i - 1 < length s.flows = omega (arith, d.named, d.listed) in
    let k : Ranged s.rate f = subst (Ranged s.rate) (sym (flow_at_getD s.flows i d.named)) (ranged_at s.rate s.flows (i - 1) kept within) in
    let a : x.arrival ≡ arrival f x.number = ap (λ (z : Job). z.arrival) d.is in
    let same_flow : flow_at s.flows y.flow ≡ f = ap (flow_at s.flows) same in
    let b : y.arrival ≡ arrival f y.number = ap (λ (z : Job). z.arrival) e.is ∙ ap (λ g. arrival g y.number) same_flow in
    let up : arrival f (x.number + 1) ≤ arrival f y.number = arrival-rises f (x.number + 1) y.number (omega arith) in
    let counted = d.counted in
    let one : x.number + 1 - 1 ≡ (x.number - 1) + 1 = omega arith in
    let step : arrival f (x.number + 1) ≡ (x.number - 1) * f.period + 1 * f.period = ap (λ (m : ℕ). m * f.period) one ∙ add-mul (x.number - 1) 1 f.period in
    let some = k.period_some in
    omega arith

pub next-after : (s : Traffic) (long q : ℕ) (x y : Job) → all_kept s.rate s.flows ≡ true → Due s long q x → NextDue s long q x.flow (x.number + 1) y → x.arrival < y.arrival
next-after s long q x y kept d n = let from = n.first.from in due_after s long q x y kept d n.due n.same_flow (omega arith)

pub length-placed : (x : Job) (ns : List Job) → length (placed queue_before x ns) ≡ length ns + 1
length-placed x [] = refl
length-placed x (n ∷ ns) = let rest = length-placed x ns in ⊎_elim (λ e. rw e (omega arith)) (λ e. rw e (omega arith)) (cases_Bool (queue_before x n))
