-- The gates as bits of a number.
use Rattle.std.proofs.Common.{◌≡◌, ℕ, zero, suc, ◌/◌, ◌%◌, ◌^◌, ◌<◌, ◌≤◌, true, false, eqb, cond, Option, Some, None, is_some, IfSome, w8, sym, refl, ap, ◌∙◌, ⊎_elim, div-one, arith}
use native.Mathlib.Nat.{pow-succ', div-div-eq-div-mul, mul-mod_right, mul-div_right}
use lib.Count.{ones, count_trailing_zeros}
use lib.Pow.{pow-lt}
use Rattle.std.proofs.lemmas.Bool.{cases_Bool, both_ways, eqb-true, eq-eqb, ne_eqb, cases_lt, agree_below_at}
use Rattle.std.specs.Int.{is_power_of_two, trailing_zeros}
use Rattle.gates.specs.Open.{opens, alone_below, gates_at, gate_of}
use Rattle.gates.specs.OpenLaws.{OneGateOpen}
use Rattle.gates.proofs.Stays.{zero_shut}

-- bit 0, and the bits behind it
opens-zero : (g : ℕ) → opens 0 g ≡ eqb (g % 2) 1
opens-zero g = rw div-one

opens-suc : (q g : ℕ) → opens (suc q) g ≡ opens q (g / 2)
opens-suc q g = rw (pow-succ' 2 q, ← div-div-eq-div-mul g 2 (2 ^ q))

-- 2 ^ q has bit q and no other
pub pow-opens : (q : ℕ) → opens q (2 ^ q) ≡ true
pow-opens zero = refl
pow-opens (suc q) = opens-suc q (2 ^ suc q) ∙ rw (pow-succ' 2 q, mul-div_right (2 ^ q) {m = 2} (omega arith)) (pow-opens q)

pub one_gate : (r q : ℕ) → opens r (2 ^ q) ≡ true → r ≡ q
one_gate zero zero h = refl
one_gate zero (suc q) h =
    let e : 2 ^ suc q % 2 ≡ 0 = rw (pow-succ' 2 q) (mul-mod_right 2 (2 ^ q)) in
    let f = eqb-true _ _ (sym (opens-zero (2 ^ suc q)) ∙ h) in
    absurd (omega arith)
one_gate (suc r) zero h = absurd (both_ways _ (zero_shut r) (sym (opens-suc r 1) ∙ h))
one_gate (suc r) (suc q) h =
    let half : 2 ^ suc q / 2 ≡ 2 ^ q = rw (pow-succ' 2 q) (mul-div_right (2 ^ q) {m = 2} (omega arith)) in
    ap suc (one_gate r q (rw half at (sym (opens-suc r (2 ^ suc q)) ∙ h)))

-- a number with no bit is 0
shut_zero : (n g : ℕ) → g < 2 ^ n → ((r : ℕ) → opens r g ≡ true → ⊥) → g ≡ 0
shut_zero zero g h none = omega arith
shut_zero (suc n) g h none =
    let two = pow-succ' 2 n in
    let even : g % 2 ≡ 1 → ⊥ = λ e. none 0 (opens-zero g ∙ eq-eqb _ _ e) in
    let half = shut_zero n (g / 2) (omega arith) (λ r k. none (suc r) (opens-suc r g ∙ k)) in
    ⊎_elim (λ (l : g % 2 < 1). omega arith) (λ (l : 1 ≤ g % 2). absurd (even (omega arith))) (cases_lt (g % 2) 1)

-- a number with bit q and no other is 2 ^ q
pow_from_one : (n q g : ℕ) → g < 2 ^ n → opens q g ≡ true → ((r : ℕ) → opens r g ≡ true → r ≡ q) → (g ≡ 2 ^ q) × (q < n)
pow_from_one zero q g h on one =
    let e : g ≡ 0 = omega arith in
    absurd (both_ways _ (zero_shut q) (rw e at on))
pow_from_one (suc n) zero g h on one =
    let two = pow-succ' 2 n in
    let odd = eqb-true _ _ (sym (opens-zero g) ∙ on) in
    let half = shut_zero n (g / 2) (omega arith) (λ r k. let z = one (suc r) (opens-suc r g ∙ k) in omega arith) in
    (omega arith, omega arith)
pow_from_one (suc n) (suc q) g h on one =
    let two = pow-succ' 2 n in
    let twice = pow-succ' 2 q in
    let odd : g % 2 ≡ 1 → ⊥ = λ e. let z = one 0 (opens-zero g ∙ eq-eqb _ _ e) in omega arith in
    let rest = pow_from_one n q (g / 2) (omega arith) (sym (opens-suc q g) ∙ on) (λ r k. let z = one (suc r) (opens-suc r g ∙ k) in omega arith) in
    let half = rest.0 in
    let below = rest.1 in
    ⊎_elim (λ (l : g % 2 < 1). (omega arith, omega arith)) (λ (l : 1 ≤ g % 2). absurd (odd (omega arith))) (cases_lt (g % 2) 1)

-- the gate that is found is that of the power
alone_some : (n g q : ℕ) → alone_below n g ≡ Some q → g ≡ 2 ^ q
alone_some zero g q h = let z : ◌≡◌ {A = ℕ} 0 1 = cc in absurd (omega arith)
alone_some (suc n) g q h =
    ⊎_elim
    (λ (on : eqb g (2 ^ n) ≡ true).
    let k : Some n ≡ Some q = rw on at h in
    let same : n ≡ q = cc in
    let e = eqb-true _ _ on in
    rw (← same) e)
    (λ (off : eqb g (2 ^ n) ≡ false). alone_some n g q (rw off at h))
    (cases_Bool (eqb g (2 ^ n)))

alone-pow : (n q : ℕ) → q < n → alone_below n (2 ^ q) ≡ Some q
alone-pow zero q h = absurd (omega arith)
alone-pow (suc n) q h =
    ⊎_elim
    (λ (l : q < n).
    let less = pow-lt l in
    let off : eqb (2 ^ q) (2 ^ n) ≡ false = ne_eqb _ _ (λ e. omega arith) in
    rw off (alone-pow n q l))
    (λ (l : n ≤ q).
    let same : q ≡ n = omega arith in
    let on : eqb (2 ^ n) (2 ^ n) ≡ true = eq-eqb _ _ refl in
    rw (same, on))
    (cases_lt q n)

pub one_gate_open : OneGateOpen
one_gate_open list o q small =
    let g = gates_at list o in (
      (λ found. let e = alone_some 8 g q found in (ap (opens q) e ∙ pow-opens q, λ r k. one_gate r q (rw e at k))),
      (λ on one. let p = pow_from_one 8 q g small on one in ap (alone_below 8) p.0 ∙ alone-pow 8 q p.1),
    )

-- a power of two below 256 opens the gate of its exponent alone, and no other number opens one alone
abbrev code : Option ℕ → ℕ
code None = 0
code (Some q) = suc q

same_code : (a b : Option ℕ) → code a ≡ code b → a ≡ b
same_code None None e = refl
same_code None (Some q) e = cc
same_code (Some p) None e = cc
same_code (Some p) (Some q) e = let same : p ≡ q = cc in ap Some same

abbrev lowest : ℕ → Option ℕ
lowest g = cond (is_power_of_two g) (Some (trailing_zeros w8 g)) None

gate_is : (g : ℕ) → g < 256 → lowest g ≡ gate_of g
unfolding ones count_trailing_zeros
gate_is g h = same_code _ _ (eqb-true _ _ (agree_below_at (λ n. eqb (code (lowest n)) (code (gate_of n))) (λ _. true) 256 g refl h))

pub gate_from_bits : (g : ℕ) (r : Option ℕ) → g < 256 → is_some r ≡ is_power_of_two g → IfSome r (λ q. q ≡ trailing_zeros w8 g) → r ≡ gate_of g
gate_from_bits g None h some is = rw (← some) at (gate_is g h)
gate_from_bits g (Some q) h some is = ap Some is ∙ rw (← some) at (gate_is g h)
