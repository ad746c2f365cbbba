-- The laws of the greatest common divisor. Assumes nothing.
use Rattle.std.proofs.Common.{◌≡◌, ℕ, zero, suc, ◌+◌, ◌*◌, ◌/◌, ◌%◌, ◌<◌, ◌≤◌, sym, refl, ap, ◌∙◌, subst, mod-lt, mul_assoc, one-mul, mul-add, arith}
use Prim.Native.Nat.{◌∣◌}
use native.Mathlib.Nat.{mod-add-div, dvd_refl, dvd-zero, dvd-mod_iff, dvd-mul_right_of_dvd, dvd-add_iff_left, dvd_antisymm, pos_of_dvd_of_pos}
use Rattle.cycle.specs.Multiple.{euclid, gcd}

-- a remainder by suc b is at most b
rest_small : (n a b : ℕ) → suc b ≤ suc n → a % suc b ≤ n
rest_small n a b l = let some : 0 < suc b = omega arith in let h = mod-lt a some in omega arith

euclid_divides : (n a b : ℕ) → b ≤ n → (euclid n a b ∣ a) × (euclid n a b ∣ b)
euclid_divides zero a b l = let none : b ≡ 0 = omega arith in (dvd_refl a, subst (λ (x : ℕ). a ∣ x) (sym none) (dvd-zero a))
euclid_divides (suc n) a zero l = (dvd_refl a, dvd-zero a)
euclid_divides (suc n) a (suc b) l =
    let both = euclid_divides n (suc b) (a % suc b) (rest_small n a b l) in
    ((dvd-mod_iff (euclid n (suc b) (a % suc b)) {m = a} {n = suc b} both.0).0 both.1, both.0)

-- what divides m times b and m times a divides m times the remainder
rest_scaled : (m d a b : ℕ) → d ∣ m * a → d ∣ m * b → d ∣ m * (a % b)
rest_scaled m d a b da db =
    let parts : m * (a % b) + m * b * (a / b) ≡ m * a = ap (λ (x : ℕ). m * (a % b) + x) (mul_assoc m b (a / b)) ∙ sym (mul-add m (a % b) (b * (a / b))) ∙ ap (λ (x : ℕ). m * x) (mod-add-div a b) in
    (dvd-add_iff_left d {m = m * (a % b)} {n = m * b * (a / b)} (dvd-mul_right_of_dvd d db (a / b))).1 (subst (λ (x : ℕ). d ∣ x) (sym parts) da)

euclid_scaled : (m d n a b : ℕ) → b ≤ n → d ∣ m * a → d ∣ m * b → d ∣ m * euclid n a b
euclid_scaled m d zero a b l da db = da
euclid_scaled m d (suc n) a zero l da db = da
euclid_scaled m d (suc n) a (suc b) l da db = euclid_scaled m d n (suc b) (a % suc b) (rest_small n a b l) db (rest_scaled m d a (suc b) da db)

-- it divides both
pub gcd_divides : (a b : ℕ) → (gcd a b ∣ a) × (gcd a b ∣ b)
unfolding gcd
gcd_divides a b = let all : b ≤ b = omega arith in euclid_divides b a b all

-- it is positive where the first is
pub gcd_some : (a b : ℕ) → 0 < a → 0 < gcd a b
gcd_some a b some = pos_of_dvd_of_pos (gcd_divides a b).0 some

-- what divides m times both divides m times it
pub gcd_scaled : (m d a b : ℕ) → d ∣ m * a → d ∣ m * b → d ∣ m * gcd a b
unfolding gcd
gcd_scaled m d a b = let all : b ≤ b = omega arith in euclid_scaled m d b a b all

-- each common divisor divides it
pub gcd_greatest : (a b d : ℕ) → d ∣ a → d ∣ b → d ∣ gcd a b
gcd_greatest a b d da db =
    subst (λ (x : ℕ). d ∣ x) (one-mul (gcd a b))
    (gcd_scaled 1 d a b (subst (λ (x : ℕ). d ∣ x) (sym (one-mul a)) da) (subst (λ (x : ℕ). d ∣ x) (sym (one-mul b)) db))

-- by 0 it is the number itself
pub gcd-zero : (a : ℕ) → gcd a 0 ≡ a
unfolding gcd
gcd-zero a = refl

-- one turn of Euclid's rule
pub gcd-rest : (a b : ℕ) → gcd b (a % b) ≡ gcd a b
gcd-rest a b =
    let l = gcd_divides b (a % b) in
    let r = gcd_divides a b in
    dvd_antisymm
    (gcd_greatest a b (gcd b (a % b)) ((dvd-mod_iff (gcd b (a % b)) {m = a} {n = b} l.0).0 l.1) l.0)
    (gcd_greatest b (a % b) (gcd a b) r.1 ((dvd-mod_iff (gcd a b) {m = a} {n = b} r.1).1 r.0))
