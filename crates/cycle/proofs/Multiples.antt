-- The laws of the least common multiple. Assumes nothing.
use Rattle.std.proofs.Common.{◌≡◌, ℕ, ◌*◌, ◌/◌, ◌<◌, List, [], ◌∷◌, sym, ap, ◌∙◌, subst, ⊎_elim, mul_assoc, mul_comm, mul-pos, zero-mul, arith}
use Prim.Native.Nat.{◌∣◌}
use native.Mathlib.Nat.{zero-div, div-mul_cancel, mul-div_cancel', dvd_refl, dvd-zero, one-dvd, dvd_trans, dvd-mul_left, mul-dvd-mul_right, mul-dvd-mul_left, dvd_of_mul-dvd-mul_left, dvd_antisymm, eq-zero_of_zero-dvd, pos_of_dvd_of_pos}
use Rattle.std.specs.List.{AllByRecursion}
use Rattle.std.proofs.lemmas.Bool.{cases_eq}
use Rattle.std.proofs.ByRecursion.{All-weaker}
use Rattle.cycle.specs.Multiple.{gcd, lcm, lcm_of}
use Rattle.cycle.proofs.Divisors.{gcd_divides, gcd_some, gcd_scaled}

-- the product of both is that of the greatest divisor and the least multiple
gcd-times-lcm : (a b : ℕ) → gcd a b * lcm a b ≡ a * b
unfolding lcm
gcd-times-lcm a b = sym (mul_assoc (gcd a b) (a / gcd a b) b) ∙ ap (λ (x : ℕ). x * b) (mul-div_cancel' (gcd a b) (gcd_divides a b).0)

-- by the greatest common divisor
pub lcm_by_gcd : (a b g : ℕ) → g ≡ gcd a b → a / g * b ≡ lcm a b
unfolding lcm
lcm_by_gcd a b g e = ap (λ (x : ℕ). a / x * b) e

pub lcm-zero : (b : ℕ) → lcm 0 b ≡ 0
unfolding lcm
lcm-zero b = ap (λ (x : ℕ). x * b) (zero-div (gcd 0 b)) ∙ zero-mul b

-- it is a multiple of both
pub lcm_multiple : (a b : ℕ) → (a ∣ lcm a b) × (b ∣ lcm a b)
unfolding lcm
lcm_multiple a b =
    let g = gcd_divides a b in (
      subst (λ (x : ℕ). x ∣ a / gcd a b * b) (div-mul_cancel (gcd a b) g.0) (mul-dvd-mul_left (gcd a b) (a / gcd a b) g.1),
      dvd-mul_left b (a / gcd a b),
    )

-- it divides each common multiple
pub lcm-least : (a b m : ℕ) → a ∣ m → b ∣ m → lcm a b ∣ m
lcm-least a b m am bm = ⊎_elim
    (λ (e : a ≡ 0).
    let none : m ≡ 0 = eq-zero_of_zero-dvd (subst (λ (x : ℕ). x ∣ m) e am) in
    subst (λ (x : ℕ). lcm a b ∣ x) (sym none) (dvd-zero (lcm a b)))
    (λ ne.
    let some : 0 < a = omega arith in
    let by-a : a * b ∣ m * a = subst (λ (x : ℕ). a * b ∣ x) (mul_comm a m) (mul-dvd-mul_left b a bm) in
    let by-b : a * b ∣ m * b = mul-dvd-mul_right a am b in
    let scaled : a * b ∣ m * gcd a b = gcd_scaled m (a * b) a b by-a by-b in
    let both : gcd a b * lcm a b ∣ gcd a b * m = subst (λ (x : ℕ). x ∣ gcd a b * m) (sym (gcd-times-lcm a b)) (subst (λ (x : ℕ). a * b ∣ x) (mul_comm m (gcd a b)) scaled) in
    dvd_of_mul-dvd-mul_left (lcm a b) (gcd_some a b some) both)
    (cases_eq a 0)

pub lcm_some : (a b : ℕ) → 0 < a → 0 < b → 0 < lcm a b
lcm_some a b sa sb = pos_of_dvd_of_pos (lcm-least a b (a * b) (subst (λ (x : ℕ). a ∣ x) (mul_comm b a) (dvd-mul_left a b)) (dvd-mul_left b a)) (mul-pos sa sb)

pub lcm_assoc : (a b c : ℕ) → lcm (lcm a b) c ≡ lcm a (lcm b c)
lcm_assoc a b c =
    let ab = lcm_multiple a b in
    let bc = lcm_multiple b c in
    let l = lcm_multiple (lcm a b) c in
    let r = lcm_multiple a (lcm b c) in
    dvd_antisymm
    (lcm-least (lcm a b) c _ (lcm-least a b _ r.0 (dvd_trans b bc.0 r.1)) (dvd_trans c bc.1 r.1))
    (lcm-least a (lcm b c) _ (dvd_trans a ab.0 l.0) (lcm-least b c _ (dvd_trans b ab.1 l.0) l.1))

pub lcm-one : (a : ℕ) → lcm a 1 ≡ a
lcm-one a = dvd_antisymm (lcm-least a 1 a (dvd_refl a) (one-dvd a)) (lcm_multiple a 1).0

pub one-lcm : (a : ℕ) → lcm 1 a ≡ a
one-lcm a = dvd_antisymm (lcm-least 1 a a (one-dvd a) (dvd_refl a)) (lcm_multiple 1 a).1

-- the least common multiple of all is a multiple of each
pub lcm_of_multiple : (xs : List ℕ) → AllByRecursion (λ x. x ∣ lcm_of xs) xs
lcm_of_multiple [] = tt
lcm_of_multiple (x ∷ xs) =
    let both = lcm_multiple x (lcm_of xs) in
    (both.0, All-weaker (λ (y : ℕ). y ∣ lcm_of xs) (λ (y : ℕ). y ∣ lcm x (lcm_of xs)) (λ y h. dvd_trans y h both.1) xs (lcm_of_multiple xs))

-- and divides each multiple of all
pub lcm_of-least : (xs : List ℕ) (m : ℕ) → AllByRecursion (λ x. x ∣ m) xs → lcm_of xs ∣ m
lcm_of-least [] m h = one-dvd m
lcm_of-least (x ∷ xs) m h = lcm-least x (lcm_of xs) m h.0 (lcm_of-least xs m h.1)

pub lcm_of_some : (xs : List ℕ) → AllByRecursion (λ x. 0 < x) xs → 0 < lcm_of xs
lcm_of_some [] h = omega arith
lcm_of_some (x ∷ xs) h = lcm_some x (lcm_of xs) h.0 (lcm_of_some xs h.1)
