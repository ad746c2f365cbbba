-- A text has one list.
use Rattle.std.proofs.Common.{◌≡◌, ℕ, ◌+◌, ◌%◌, ◌^◌, ◌<◌, ◌≤◌, List, [], ◌∷◌, ◌++◌, length, decimal, sym, refl, ap, ◌∙◌, arith}
use Rattle.std.proofs.lemmas.List.{append_assoc, length-append}
use Rattle.std.proofs.ByRecursion.{All-push}
use Rattle.std.proofs.lemmas.Fmt.{decimal_by_steps, decimal_injective}
use Rattle.std.specs.List.{AllByRecursion}
use Rattle.gates.specs.declared.entry.Entry.{Entry}
use Rattle.gates.specs.Entries.{FieldsFit}
use Rattle.gates.specs.Text.{field_text, entry_text, list_text, OneText}

-- each byte of a number is a digit, and so not below 48
decimal_high : (n : ℕ) → n < 2 ^ 64 → AllByRecursion (λ c. 48 ≤ c) (decimal n)
decimal_high =
    decimal_by_steps (λ n ds. AllByRecursion (λ c. 48 ≤ c) ds)
    (λ n h. (omega arith, tt))
    (λ n ds h k. All-push (λ c. 48 ≤ c) ds (48 + n % 10) k (omega arith))

-- what stands before the first byte below 48, and what stands behind it
same_parts : (mark : ℕ) (ds es r s : List ℕ) → mark < 48 → AllByRecursion (λ c. 48 ≤ c) ds → AllByRecursion (λ c. 48 ≤ c) es → ds ++ (mark ∷ r) ≡ es ++ (mark ∷ s) → (ds ≡ es) × (r ≡ s)
same_parts mark [] [] r s low a b e = (refl, cc)
same_parts mark [] (y ∷ es) r s low a b e = let z : mark ≡ y = cc in absurd (omega (arith, b.0))
same_parts mark (x ∷ ds) [] r s low a b e = let z : x ≡ mark = cc in absurd (omega (arith, a.0))
same_parts mark (x ∷ ds) (y ∷ es) r s low a b e =
    let head : x ≡ y = cc in
    let tail : ds ++ (mark ∷ r) ≡ es ++ (mark ∷ s) = cc in
    let same = same_parts mark ds es r s low a.1 b.1 tail in
    let front = same.0 in
    (cc, same.1)

-- a field, and what stands behind it
same_field : (m n mark : ℕ) (r s : List ℕ) → m < 2 ^ 64 → n < 2 ^ 64 → mark < 48 → field_text m mark ++ r ≡ field_text n mark ++ s → (m ≡ n) × (r ≡ s)
same_field m n mark r s a b low e =
    let l = append_assoc (decimal m) (mark ∷ []) r in
    let k = append_assoc (decimal n) (mark ∷ []) s in
    let same = same_parts mark (decimal m) (decimal n) r s low (decimal_high m a) (decimal_high n b) (sym l ∙ e ∙ k) in
    (decimal_injective m n a b same.0, same.1)

-- a line, and what stands behind it, field by field
line_parts : (a b c d r : List ℕ) → (a ++ (b ++ (c ++ d))) ++ r ≡ a ++ (b ++ (c ++ (d ++ r)))
line_parts a b c d r = simp append_assoc

-- a line, and what stands behind it
same-entry : (x y : Entry) (r s : List ℕ) → FieldsFit x → FieldsFit y → entry_text x ++ r ≡ entry_text y ++ s → (x ≡ y) × (r ≡ s)
same-entry x y r s f g e =
    let l = line_parts (field_text x.gates 32) (field_text x.interval 32) (field_text x.flow 32) (field_text x.number 10) r in
    let k = line_parts (field_text y.gates 32) (field_text y.interval 32) (field_text y.flow 32) (field_text y.number 10) s in
    let one = same_field x.gates y.gates 32 _ _ (omega arith) (omega arith) (omega arith) (sym l ∙ e ∙ k) in
    let two = same_field x.interval y.interval 32 _ _ (omega arith) (omega arith) (omega arith) one.1 in
    let three = same_field x.flow y.flow 32 _ _ (omega arith) (omega arith) (omega arith) two.1 in
    let four = same_field x.number y.number 10 r s (omega arith) (omega arith) (omega arith) three.1 in
    ((λ i. record { gates = one.0 i; interval = two.0 i; flow = three.0 i; number = four.0 i }), four.1)

-- a line is not empty
some_line : (x : Entry) (r : List ℕ) → 0 < length (entry_text x ++ r)
some_line x r = simp length-append (omega arith)

pub one_text : OneText
one_text [] [] a b e = refl
one_text [] (y ∷ ys) a b e = let l = ap length e in let some = some_line y (list_text ys) in absurd (omega arith)
one_text (x ∷ xs) [] a b e = let l = ap length e in let some = some_line x (list_text xs) in absurd (omega arith)
one_text (x ∷ xs) (y ∷ ys) a b e =
    let same = same-entry x y (list_text xs) (list_text ys) a.0 b.0 e in
    let head = same.0 in
    let tail = one_text xs ys a.1 b.1 same.1 in
    cc
