-- Later packets of a flow.
use Rattle.std.proofs.Common.{◌≡◌, ℕ, ◌-◌, ◌≤◌, true, ⊎_elim, mul-le-mul_right, arith}
use Rattle.std.proofs.lemmas.Bool.{both_ways, cases_lt}
use Rattle.traffic.specs.declared.flow.Flow.{Flow}
use Rattle.traffic.specs.declared.sort.Sort.{Sort}
use Rattle.traffic.specs.Sorts.{of_sort, FirstFrom}
use Rattle.traffic.specs.Packets.{arrival}
use Rattle.arrivals.specs.Upcoming.{NoPacket}

-- later packets arrive no earlier
pub arrives-later : (f : Flow) (i j : ℕ) → i ≤ j → arrival f i ≤ arrival f j
arrives-later f i j l = let less : i - 1 ≤ j - 1 = omega arith in mul-le-mul_right f.period less

-- where the first of the sort does not arrive before the end, none does
pub none_before-end : (s : Sort) (f : Flow) (from end j : ℕ) → FirstFrom (of_sort s f) from j → end ≤ arrival f j → NoPacket s f from end
none_before-end s f from end j first late = λ i l here.
    let past : j ≤ i = not_passed i l here in
    let later : arrival f j ≤ arrival f i = arrives-later f j i past in
    omega arith
  where
    not_passed : (i : ℕ) → from ≤ i → of_sort s f i ≡ true → j ≤ i
    not_passed i l here = ⊎_elim (λ lt. absurd (both_ways (of_sort s f i) (first.first i l lt) here)) (λ ge. ge) (cases_lt i j)
