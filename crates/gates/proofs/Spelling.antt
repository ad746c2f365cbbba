-- The digits of a number, written from the last to the first.
use Rattle.std.proofs.Common.{◌≡◌, ℕ, ◌+◌, ◌/◌, ◌%◌, ◌^◌, ◌<◌, ◌≤◌, List, [], ◌∷◌, ◌++◌, length, drop, set, decimal, sym, ap, ◌∙◌, ⊎_elim, arith}
use Rattle.std.proofs.lemmas.Bool.{cases_lt}
use Rattle.std.proofs.lemmas.List.{append-nil, append_assoc, drop_all, length-append, length-drop, drop-set}
use Rattle.std.proofs.lemmas.Fmt.{decimal_digit, decimal_step, decimal_nonempty}

-- all but the first digits of n are written, and rest is the number that those spell
pub record Spelling (n rest left : ℕ) (m : List ℕ) : Type 0 where
  pub some : 0 < left
  pub part : decimal n ≡ decimal rest ++ drop left m
  pub least : rest ≤ n

-- as many digits are left as rest has
left-count : (n rest left : ℕ) (m : List ℕ) → length m ≡ length (decimal n) → left ≤ length m → Spelling n rest left m → length (decimal rest) ≡ left
left-count n rest left m long room s = omega (arith, ap length s.part ∙ length-append (decimal rest) (drop left m), length-drop left m)

-- a number from 10 on has more than one
more_digits : (rest : ℕ) → 10 ≤ rest → rest < 2 ^ 32 → 2 ≤ length (decimal rest)
more_digits rest more small =
    let some = decimal_nonempty (rest / 10) (omega arith) in
    omega (arith, ap length (decimal_step rest more (omega arith)) ∙ length-append (decimal (rest / 10)) ((48 + rest % 10) ∷ []))

-- no digit yet
pub spelling_none : (n : ℕ) (m : List ℕ) → length m ≡ length (decimal n) → 0 < length m → Spelling n n (length m) m
spelling_none n m long room = record { some = room; part = sym (ap (λ ds. decimal n ++ ds) (drop_all (length m) m (omega arith)) ∙ append-nil (decimal n)); least = omega arith }

-- a digit more
pub spelling_more : (n rest left : ℕ) (m : List ℕ) → n < 2 ^ 32 → length m ≡ length (decimal n) → left < length m → 0 < left → Spelling n rest (left + 1) m → Spelling n (rest / 10) left (set m left (48 + rest % 10))
spelling_more n rest left m small long room some s =
    let d = 48 + rest % 10 in
    let r = s.least in
    let last = drop-set m left d room in
    let count = left-count n rest (left + 1) m long (omega arith) s in
    ⊎_elim
    (λ (one : rest < 10). let single : length (decimal rest) ≡ 1 = ap length (decimal_digit rest one) in absurd (omega arith))
    (λ (more : 10 ≤ rest).
    let step = decimal_step rest more (omega arith) in
    record {
      some = some;
      part = s.part ∙ ap (λ ds. ds ++ drop (left + 1) m) step ∙ append_assoc (decimal (rest / 10)) (d ∷ []) (drop (left + 1) m) ∙ ap (λ ds. decimal (rest / 10) ++ ds) (sym last);
      least = omega arith;
    })
    (cases_lt rest 10)

-- where one digit is left, rest is it
pub spelling_digit : (n rest left : ℕ) (m : List ℕ) → n < 2 ^ 32 → length m ≡ length (decimal n) → left ≤ length m → left ≤ 1 → Spelling n rest left m → rest < 10
spelling_digit n rest left m small long room last s =
    let r = s.least in
    let count = left-count n rest left m long room s in
    ⊎_elim (λ (one : rest < 10). one) (λ (more : 10 ≤ rest). let two = more_digits rest more (omega arith) in absurd (omega arith)) (cases_lt rest 10)

-- the first digit
pub spelling_all : (n rest left : ℕ) (m : List ℕ) → n < 2 ^ 32 → length m ≡ length (decimal n) → left ≤ length m → left ≤ 1 → Spelling n rest left m → set m 0 (48 + rest) ≡ decimal n
spelling_all n rest left m small long room last s =
    let digit = decimal_digit rest (spelling_digit n rest left m small long room last s) in
    let some = s.some in
    let one : left ≡ 1 = omega arith in
    drop-set m 0 (48 + rest) (omega arith) ∙ ap (λ k. (48 + rest) ∷ drop k m) (sym one) ∙ sym (s.part ∙ ap (λ ds. ds ++ drop left m) digit)
