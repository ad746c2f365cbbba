-- No packet twice in a list that rises, and no place of two sorts.
use Rattle.std.proofs.Common.{◌≡◌, ℕ, ◌-◌, ◌*◌, ◌/◌, ◌<◌, ◌≤◌, true, false, not, List, [], ◌∷◌, sym, refl, ap, ◌∙◌, inl, inr, ⊎_elim, mul-div_cancel, arith}
use Rattle.std.specs.List.{AllByRecursion}
use Rattle.std.proofs.lemmas.Bool.{cases_eq, cases_Bool, both_ways}
use Rattle.std.proofs.ByRecursion.{All-weaker}
use Rattle.std.proofs.lemmas.Bool.Decides.{nat_tests}
use Rattle.traffic.specs.declared.flow.Flow.{Flow}
use Rattle.traffic.specs.declared.packet.Packet.{Packet}
use Rattle.traffic.specs.Packets.{arrival, flow_at}
use Rattle.traffic.specs.Orders.{PacketsDiffer}
use Rattle.traffic.specs.declared.sort.Sort.{Sort}
use Rattle.traffic.specs.declared.sort.Sort.TheVariants.{Mandatory, Optional}
use Rattle.arrivals.specs.Sources.{Rises, same_packet, times}
use Rattle.traffic.specs.Sorts.{of_sort}
use Rattle.arrivals.specs.Sorts.{other_sort}
use Rattle.arrivals.proofs.Rising.{Before, rises_parts}
use Rattle.arrivals.proofs.Belonging.{OnSheet, Periodic, period_some}

-- a packet behind x is another than x
behind_differs : (p x y : Packet) → same_packet p x ≡ true → Before x y → same_packet p y ≡ false
behind_differs p x y e b = grind (arith, nat_tests)

times_none : (p : Packet) (ys : List Packet) → AllByRecursion (λ y. same_packet p y ≡ false) ys → times p ys ≡ 0
times_none p [] a = refl
times_none p (y ∷ ys) a = rw a.0 (omega (arith, times_none p ys a.1))

pub rises_once : (ps : List Packet) → Rises ps → (p : Packet) → times p ps ≤ 1
rises_once [] h p = omega arith
rises_once (x ∷ xs) h p =
    let parts = rises_parts x xs h in
    ⊎_elim
    (λ (e : same_packet p x ≡ true).
    let others : times p xs ≡ 0 = times_none p xs (All-weaker (Before x) (λ (y : Packet). same_packet p y ≡ false) (λ y b. behind_differs p x y e b) xs parts.0) in
    rw e (omega arith))
    (λ (e : same_packet p x ≡ false). rw e (omega (arith, rises_once xs parts.1 p)))
    (cases_Bool (same_packet p x))

-- no packet is of both sorts
one_sort : (s : Sort) (f : Flow) (j : ℕ) → of_sort s f j ≡ true → of_sort (other_sort s) f j ≡ true → ⊥
one_sort Mandatory f j a b = both_ways (of_sort Optional f j) (ap not a) b
one_sort Optional f j a b = both_ways (of_sort Optional f j) (ap not b) a

-- so those of two sorts have no place in common
pub sorts_differ : (s : Sort) (fs : List Flow) (e d : ℕ) (x y : Packet) → Periodic fs → OnSheet s fs e x → OnSheet (other_sort s) fs d y → PacketsDiffer x y
sorts_differ s fs e d x y periodic ox oy = ⊎_elim
    (λ (same : x.flow ≡ y.flow). inr (λ when.
    let f = flow_at fs x.flow in
    let some : 0 < f.period = period_some fs periodic x.flow ox.low ox.high in
    let time : y.arrival ≡ (y.number - 1) * f.period = oy.time ∙ ap (λ (i : ℕ). arrival (flow_at fs i) y.number) (sym same) in
    let products : (x.number - 1) * f.period ≡ (y.number - 1) * f.period = sym ox.time ∙ when ∙ time in
    let before : x.number - 1 ≡ y.number - 1 = sym (mul-div_cancel (x.number - 1) some) ∙ ap (λ (k : ℕ). k / f.period) products ∙ mul-div_cancel (y.number - 1) some in
    let number : y.number ≡ x.number = omega (arith, ox.counts, oy.counts) in
    let sort : of_sort (other_sort s) f x.number ≡ true = ap (of_sort (other_sort s) f) (sym number) ∙ ap (λ (i : ℕ). of_sort (other_sort s) (flow_at fs i) y.number) same ∙ oy.sort in
    one_sort s f x.number ox.sort sort))
    (λ ne. inl ne)
    (cases_eq x.flow y.flow)
