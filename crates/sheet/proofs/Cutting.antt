-- A text cut at its first byte b. Assumes nothing.
use Rattle.std.proofs.Common.{◌≡◌, ℕ, suc, true, false, ◌+◌, ◌<◌, ◌≤◌, cond, eqb, List, [], ◌∷◌, ◌++◌, length, get_or, take, drop, Some, None, Option, sym, refl, ap, append_assoc, append-nil, ⊎_elim, arith}
use Rattle.std.specs.Option.{option_map}
use Rattle.std.specs.List.{position, position_or_len}
use Rattle.std.proofs.lemmas.List.{at_drop_more, take_more}
use Rattle.std.proofs.lemmas.Bool.{cases_Bool, cases_lt, lt-ltb, le-ltb, eq-eqb, ne_eqb}
use Rattle.sheet.specs.Cuts.{cut_at, behind}

-- the two parts at a place
abbrev pub parts_at : List ℕ → ℕ → List ℕ × List ℕ
parts_at xs i = (take i xs, drop (i + 1) xs)

-- at the place of the first b
pub cut-at_position : (b : ℕ) (xs : List ℕ) → cut_at b xs ≡ option_map (parts_at xs) (position (λ x. eqb x b) xs)
cut-at_position b [] = refl
cut-at_position b (x ∷ xs) =
    let m = position_or_len (λ x. eqb x b) xs in
    let some = lt-ltb 0 (length (x ∷ xs)) (omega arith) in
    ⊎_elim
    (λ (e : eqb x b ≡ true). rw (e, some))
    (λ (e : eqb x b ≡ false).
    rw e
    (⊎_elim
    (λ (l : m < length xs).
    let more = lt-ltb (1 + m) (length (x ∷ xs)) (omega arith) in
    let here = lt-ltb m (length xs) l in
    let next : 1 + m ≡ suc m = omega arith in
    let behind-it : suc m + 1 ≡ suc (m + 1) = omega arith in
    rw (cut-at_position b xs, here, more, next, behind-it))
    (λ (l : length xs ≤ m).
    let more = le-ltb (1 + m) (length (x ∷ xs)) (omega arith) in
    let here = le-ltb m (length xs) l in
    rw (cut-at_position b xs, here, more))
    (cases_lt m (length xs))))
    (cases_Bool (eqb x b))

pub behind_none : (o : Option (List ℕ × List ℕ)) → o ≡ behind [] o
behind_none None = refl
behind_none (Some p) = refl

behind-behind : (front more : List ℕ) (o : Option (List ℕ × List ℕ)) → behind front (behind more o) ≡ behind (front ++ more) o
behind-behind front more None = refl
behind-behind front more (Some p) = ap (λ (l : List ℕ). Some (l, p.1)) (sym (append_assoc front more p.0))

-- one byte passed
pub passed : (b i : ℕ) (xs : List ℕ) → i < length xs → (get_or xs i 0 ≡ b → ⊥) → behind (take i xs) (cut_at b (drop i xs)) ≡ behind (take (i + 1) xs) (cut_at b (drop (i + 1) xs))
passed b i xs lt other =
    let step : cut_at b (drop i xs) ≡ cond (eqb (get_or xs i 0) b) (Some ([], drop (i + 1) xs)) (behind (get_or xs i 0 ∷ []) (cut_at b (drop (i + 1) xs))) = at_drop_more (cut_at b) xs i 0 lt in
    let no = ne_eqb (get_or xs i 0) b other in
    let here : cut_at b (drop i xs) ≡ behind (get_or xs i 0 ∷ []) (cut_at b (drop (i + 1) xs)) = rw no at step in
    rw (here, take_more xs i 0 lt) (behind-behind (take i xs) (get_or xs i 0 ∷ []) (cut_at b (drop (i + 1) xs)))

-- the byte found
pub found : (b i : ℕ) (xs : List ℕ) → i < length xs → get_or xs i 0 ≡ b → behind (take i xs) (cut_at b (drop i xs)) ≡ Some (take i xs, drop (i + 1) xs)
found b i xs lt same =
    let step : cut_at b (drop i xs) ≡ cond (eqb (get_or xs i 0) b) (Some ([], drop (i + 1) xs)) (behind (get_or xs i 0 ∷ []) (cut_at b (drop (i + 1) xs))) = at_drop_more (cut_at b) xs i 0 lt in
    let yes = eq-eqb (get_or xs i 0) b same in
    let here : cut_at b (drop i xs) ≡ Some ([], drop (i + 1) xs) = rw yes at step in
    rw (here, append-nil (take i xs))
