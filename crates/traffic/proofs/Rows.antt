-- Of any k packets in a row at most m are optional. Assumes nothing.
use Rattle.std.proofs.Common.{◌≡◌, ℕ, zero, suc, ◌+◌, ◌-◌, ◌%◌, ◌<◌, ◌≤◌, Bool, true, ◌&&◌, ltb, leb, sym, refl, ap, ◌∙◌, ⊎_elim, mod-lt, arith}
use native.Mathlib.Nat.{mod-mod, suc-mod}
use Rattle.std.proofs.lemmas.Bool.{and_parts, cases_eq, leb-true}
use Rattle.traffic.specs.Pattern.{pattern, pattern_length, mandatory_number, optionals}

-- a count depends only on where its row begins in the pattern
optionals_again : (m k n i j : ℕ) → i % pattern_length m k ≡ j % pattern_length m k → optionals m k (suc i) n ≡ optionals m k (suc j) n
optionals_again m k zero i j e = refl
optionals_again m k (suc n) i j e =
    let next : suc i % pattern_length m k ≡ suc j % pattern_length m k = suc-mod i (pattern_length m k) ∙ ap (λ (x : ℕ). suc x % pattern_length m k) e ∙ sym (suc-mod j (pattern_length m k)) in
    let a : suc i - 1 ≡ i = omega arith in
    let b : suc j - 1 ≡ j = omega arith in
    let here : mandatory_number m k (suc i) ≡ mandatory_number m k (suc j) = ap (λ (x : ℕ). leb (x + 1) (pattern m k).1) (ap (λ (x : ℕ). x % pattern_length m k) a ∙ e ∙ sym (ap (λ (x : ℕ). x % pattern_length m k) b)) in
    let rest = optionals_again m k n (suc i) (suc j) next in
    cc

-- a test of each number below n
abbrev below : ℕ → (ℕ → Bool) → Bool
below zero f = true
below (suc n) f = f n && below n f

below_at : (n : ℕ) (f : ℕ → Bool) → below n f ≡ true → (i : ℕ) → i < n → f i ≡ true
below_at zero f h i l = absurd (omega arith)
below_at (suc n) f h i l = let both = and_parts (f n) (below n f) h in ⊎_elim (λ (e : i ≡ n). rw e both.0) (λ ne. below_at n f both.1 i (omega arith)) (cases_eq i n)

abbrev row_holds : ℕ → ℕ → Bool
row_holds m k = ltb 0 (pattern_length m k) && below (pattern_length m k) (λ i. leb (optionals m k (suc i) k) m)

-- all m below k up to 20, from each place of the pattern
all_rows : below 21 (λ k. below k (λ m. row_holds m k)) ≡ true
all_rows = refl

pub few_optional : (m k : ℕ) → m < k → k ≤ 20 → (j : ℕ) → 1 ≤ j → optionals m k j k ≤ m
few_optional m k mk k20 zero from_one = absurd (omega arith)
few_optional m k mk k20 (suc i) from_one =
    let table = below_at k (λ m. row_holds m k) (below_at 21 (λ k. below k (λ m. row_holds m k)) all_rows k (omega arith)) m mk in
    let both = and_parts (ltb 0 (pattern_length m k)) (below (pattern_length m k) (λ i. leb (optionals m k (suc i) k) m)) table in
    let some : 0 < pattern_length m k = leb-true 1 (pattern_length m k) both.0 in
    let r = i % pattern_length m k in
    let at-r = leb-true (optionals m k (suc r) k) m (below_at (pattern_length m k) (λ i. leb (optionals m k (suc i) k) m) both.1 r (mod-lt i some)) in
    let same_count = optionals_again m k k i r (sym (mod-mod i (pattern_length m k))) in
    omega arith
