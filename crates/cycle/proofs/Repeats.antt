-- The laws of the cycle: one rule gives it, and it brings whole patterns of each flow. Assumes nothing.
use Rattle.std.proofs.Common.{◌≡◌, ℕ, ◌+◌, ◌-◌, ◌*◌, ◌/◌, ◌%◌, ◌<◌, true, eqb, leb, List, [], ◌∷◌, map, sym, ap, ◌∙◌, subst, ⊎_elim, mod-lt, mod-eq_of_lt, mul_assoc, add-mul, mul-lt-mul_of_pos_right, mul-pos, arith}
use Prim.Native.Nat.{◌∣◌}
use native.Mathlib.Nat.{mod-add-div', add-mul-mod_self_right, mod-mod_of_dvd, div-mul_cancel, dvd_trans, dvd-mul_left, dvd-mul_right, mul-dvd-mul_right, dvd_of_mod-eq-zero, dvd_of_mul-dvd-mul_right, dvd_antisymm, pos_of_dvd_of_pos}
use Rattle.std.specs.List.{AllByRecursion}
use Rattle.std.proofs.lemmas.Bool.{and_parts, cases_Bool, eqb-true}
use Rattle.std.proofs.lemmas.Bool.Decides.{nat_tests}
use Rattle.std.proofs.ByRecursion.{All-weaker, All-map, all-has}
use Rattle.traffic.specs.declared.flow.Flow.{Flow}
use Rattle.traffic.specs.Pattern.{pattern, turn}
use Rattle.cycle.specs.Multiple.{lcm_of}
use Rattle.cycle.specs.Cycle.{pattern_time, hyperperiod, whole_patterns, cycle_of, packets_in, number_in_cycle, SamePlace, KeepsPlace}
use Rattle.cycle.proofs.Multiples.{lcm_of_multiple, lcm_of-least, lcm_of_some}

-- what holds of a map's results holds of what it takes them from
all_unmap : {X : Type 0} (P : ℕ → Type 0) (g : X → ℕ) (xs : List X) → AllByRecursion P (map g xs) → AllByRecursion (λ x. P (g x)) xs
all_unmap P g [] h = tt
all_unmap P g (x ∷ xs) h = (h.0, all_unmap P g xs h.1)

-- where the test passes, each pattern's time divides a common multiple of the periods
whole_divides : (fs : List Flow) (h : ℕ) → AllByRecursion (λ f. f.period ∣ h) fs → whole_patterns fs h ≡ true → AllByRecursion (λ f. pattern_time f ∣ h) fs
whole_divides [] h a e = tt
whole_divides (f ∷ fs) h a e =
    let both = and_parts (eqb (h / f.period % turn f) 0) (whole_patterns fs h) e in
    let fits : turn f ∣ h / f.period = dvd_of_mod-eq-zero (turn f) (eqb-true (h / f.period % turn f) 0 both.0) in (
      subst (λ (m : ℕ). pattern_time f ∣ m) (div-mul_cancel f.period a.0) (mul-dvd-mul_right (turn f) fits f.period),
      whole_divides fs h a.1 both.1,
    )

-- then the periods' least common multiple is the pattern times' too
whole_same : (fs : List Flow) → whole_patterns fs (hyperperiod fs) ≡ true → hyperperiod fs ≡ lcm_of (map pattern_time fs)
whole_same fs e =
    let h = hyperperiod fs in
    let m = lcm_of (map pattern_time fs) in
    let periods : AllByRecursion (λ f. f.period ∣ h) fs = all_unmap (λ (x : ℕ). x ∣ h) (λ (f : Flow). f.period) fs (lcm_of_multiple (map (λ f. f.period) fs)) in
    let times : AllByRecursion (λ f. pattern_time f ∣ m) fs = all_unmap (λ (x : ℕ). x ∣ m) pattern_time fs (lcm_of_multiple (map pattern_time fs)) in
    dvd_antisymm
    (lcm_of-least (map (λ f. f.period) fs) m (All-map (λ (x : ℕ). x ∣ m) (λ (f : Flow). f.period) fs
    (All-weaker (λ (f : Flow). pattern_time f ∣ m) (λ (f : Flow). f.period ∣ m) (λ f d. dvd_trans f.period (dvd-mul_left f.period (turn f)) d) fs times)))
    (lcm_of-least (map pattern_time fs) h (All-map (λ (x : ℕ). x ∣ h) pattern_time fs (whole_divides fs h periods e)))

-- the cycle always is the least common multiple of all pattern times
pub cycle-is : (fs : List Flow) → cycle_of fs ≡ lcm_of (map pattern_time fs)
unfolding cycle_of
cycle-is fs = ⊎_elim (λ e. rw e (whole_same fs e)) (λ e. rw e) (cases_Bool (whole_patterns fs (hyperperiod fs)))

-- it holds whole patterns of each flow
pub cycle-whole : (fs : List Flow) → AllByRecursion (λ f. pattern_time f ∣ cycle_of fs) fs
cycle-whole fs = all_unmap (λ (x : ℕ). x ∣ cycle_of fs) pattern_time fs (subst (λ (m : ℕ). AllByRecursion (λ x. x ∣ m) (map pattern_time fs)) (sym (cycle-is fs)) (lcm_of_multiple (map pattern_time fs)))

-- a pattern has a packet
pub turn_some : (f : Flow) → 0 < turn f
turn_some f = grind (arith, nat_tests)

-- the cycle takes some time where each period does
pub cycle_some : (fs : List Flow) → AllByRecursion (λ f. 0 < f.period) fs → 0 < cycle_of fs
cycle_some fs h =
    subst (λ (m : ℕ). 0 < m) (sym (cycle-is fs))
    (lcm_of_some (map pattern_time fs) (All-map (λ (x : ℕ). 0 < x) pattern_time fs (All-weaker (λ (f : Flow). 0 < f.period) (λ (f : Flow). 0 < pattern_time f) (λ f p. mul-pos (turn_some f) p) fs h)))

-- a remainder times c is the remainder of the product
mod_scaled : (a n c : ℕ) → 0 < n → 0 < c → a % n * c ≡ a * c % (n * c)
mod_scaled a n c sn sc =
    let less : a % n * c < n * c = mul-lt-mul_of_pos_right (mod-lt a sn) sc in
    let whole : a % n * c + a / n * (n * c) ≡ a * c = ap (λ (x : ℕ). a % n * c + x) (sym (mul_assoc (a / n) n c)) ∙ sym (add-mul (a % n) (a / n * n) c) ∙ ap (λ (x : ℕ). x * c) (mod-add-div' a n) in
    sym (ap (λ (x : ℕ). x % (n * c)) (sym whole) ∙ add-mul-mod_self_right (a % n * c) (a / n) (n * c) ∙ mod-eq_of_lt less)

-- in a cycle of whole patterns the packet of the first cycle stands for all at its place
pub same_place : (A : ℕ) (f : Flow) → pattern_time f ∣ A → 0 < A → (j : ℕ) → SamePlace A f j (number_in_cycle A f j)
same_place A f whole some j =
    let T = f.period in
    let n = packets_in A f in
    let time-some : 0 < pattern_time f = pos_of_dvd_of_pos whole some in
    let T-some : 0 < T = pos_of_dvd_of_pos (dvd-mul_left T (turn f)) time-some in
    let nT : n * T ≡ A = div-mul_cancel T (dvd_trans T (dvd-mul_left T (turn f)) whole) in
    let turns : turn f ∣ n = dvd_of_mul-dvd-mul_right (turn f) T-some (subst (λ (m : ℕ). pattern_time f ∣ m) (sym nT) whole) in
    let n-some : 0 < n = pos_of_dvd_of_pos (dvd-mul_right n T) (subst (λ (m : ℕ). 0 < m) (sym nT) some) in
    let less : (j - 1) % n < n = mod-lt (j - 1) n-some in
    let back : number_in_cycle A f j - 1 ≡ (j - 1) % n = omega arith in
    record {
      first = omega arith;
      last = omega arith;
      kind = ap (λ (i : ℕ). leb (i + 1) (pattern f.miss f.among).1) (ap (λ (i : ℕ). i % turn f) back ∙ mod-mod_of_dvd (turn f) (j - 1) turns);
      time = ap (λ (i : ℕ). i * T) back ∙ mod_scaled (j - 1) n T n-some T-some ∙ ap (λ (m : ℕ). (j - 1) * T % m) nT;
    }

-- so in the cycle of flows, for each of them
pub flow_place : (A : ℕ) (f : Flow) (j : ℕ) → KeepsPlace A f j
flow_place A f j fs has e some = same_place A f (subst (λ (m : ℕ). pattern_time f ∣ m) (sym e) (all-has (λ (g : Flow). pattern_time g ∣ cycle_of fs) fs f (cycle-whole fs) has)) some j
