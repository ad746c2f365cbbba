-- The numbers of a sheet's text, and their one spelling. Assumes nothing.
use Rattle.std.proofs.Common.{◌≡◌, ℕ, ◌^◌, ◌<◌, ◌≤◌, true, false, ◌&&◌, eqb, ltb, leb, List, length, get_or, Ok, Err, decimal, Result, sym, ap, ◌∙◌, ⊎_elim, arith, rules}
use Rattle.std.proofs.lemmas.Str.Parse.{IsNumeralModel, numerals_by_fold, digits_value_short}
use Rattle.std.proofs.lemmas.Fmt.{decimal-digits_value, digits_value-decimal, digits_decimal, length-decimal-le, first_decimal, decimal_nonempty, decimal_digit}
use Rattle.std.proofs.lemmas.Bool.{eqb-false, ltb-false, le-ltb, ne_eqb, and_right, and_parts, and_from, leb-true, le-leb, cases_lt}
use Rattle.std.proofs.lemmas.Bool.Decides.{nat_tests}
use Rattle.std.specs.Str.{all_ascii_digits}
use Rattle.sheet.specs.declared.faults.Cause.{Cause}
use Rattle.sheet.specs.Numbers.{digits_value, read_number, on_line}
use Rattle.sheet.specs.Lines.{in_range, ranged}
use Rattle.sheet.specs.Ranges.{between}
use Rattle.sheet.proofs.Outcomes.{no_fault, not_faulty, met}

-- the words for numerals here
own : IsNumeralModel (λ ds. all_ascii_digits ds ≡ true) (digits_value 0)
own = numerals_by_fold _ (search rules) digits_value (search rules)

-- ten digits fit a word
word : (n : ℕ) → n < 10 ^ 10 → n < 2 ^ 64
word n h = omega arith

-- bytes that are read as a number spell it
read_decimal : (bs : List ℕ) (n : ℕ) → read_number bs ≡ Ok n → bs ≡ decimal n
read_decimal bs n h =
    let a = not_faulty (eqb (length bs) 0) _ _ _ h in
    let b = not_faulty (ltb 10 (length bs)) _ _ _ a.1 in
    let c = not_faulty (ltb 1 (length bs) && eqb (get_or bs 0 0) 48) _ _ _ b.1 in
    let d = met (all_ascii_digits bs) _ _ _ c.1 in
    let some : 0 < length bs = omega (arith, eqb-false (length bs) 0 a.0) in
    let few : length bs ≤ 10 = ltb-false 10 (length bs) b.0 in
    let plain : get_or bs 0 0 ≡ 48 → length bs ≡ 1 = λ z. grind (arith, nat_tests) in
    let is : digits_value 0 bs ≡ n = cc in
    sym (decimal-digits_value own bs d.0 some plain (word _ (digits_value_short own bs 10 d.0 few))) ∙ ap decimal is

-- the digits of a number begin with no zero, unless it is the only one
plain_decimal : (n : ℕ) → n < 2 ^ 64 → (ltb 1 (length (decimal n)) && eqb (get_or (decimal n) 0 0) 48) ≡ false
plain_decimal n w =
    ⊎_elim
    (λ small. rw (decimal_digit n small))
    (λ large. and_right (ltb 1 (length (decimal n))) (eqb (get_or (decimal n) 0 0) 48) (ne_eqb (get_or (decimal n) 0 0) 48 (λ z. omega (arith, first_decimal n (omega arith) w))))
    (cases_lt n 10)

-- and are read as it
decimal_read : (n : ℕ) → n < 10 ^ 10 → read_number (decimal n) ≡ Ok n
decimal_read n h =
    let w = word n h in
    let some = ne_eqb (length (decimal n)) 0 (λ z. omega (arith, decimal_nonempty n w)) in
    let few = le-ltb 10 (length (decimal n)) (length-decimal-le 10 n (omega arith) h w) in
    rw (some, few, plain_decimal n w, digits_decimal own n w) (ap Ok (digits_value-decimal own n w))

-- a number between two
pub between_parts : (low high n : ℕ) → between low high n ≡ true → (low ≤ n) × (n ≤ high)
between_parts low high n h = let p = and_parts (leb low n) (leb n high) h in (leb-true low n p.0, leb-true n high p.1)

-- and back
pub between_from : (low high n : ℕ) → low ≤ n → n ≤ high → between low high n ≡ true
between_from low high n l h = and_from (leb low n) (leb n high) (le-leb low n l) (le-leb n high h)

-- a number of a line in its range
in_range_ok : (m low high : ℕ) (r : Result ℕ Cause) (n : ℕ) → in_range m low high (on_line m r) ≡ Ok n → (r ≡ Ok n) × (between low high n ≡ true)
in_range_ok m low high (Ok v) n h =
    let p = met (between low high v) _ _ _ h in
    let e : v ≡ n = cc in
    (ap Ok e, rw e at p.0)
in_range_ok m low high (Err c) n h = absurd (no_fault _ n h)

-- it spells a number in that range
pub ranged_parts : (m low high : ℕ) (bs : List ℕ) (n : ℕ) → ranged m low high bs ≡ Ok n → (bs ≡ decimal n) × (between low high n ≡ true)
ranged_parts m low high bs n h = let p = in_range_ok m low high (read_number bs) n h in (read_decimal bs n p.0, p.1)

-- and each such number is read
pub ranged-made : (m low high n : ℕ) → high < 10 ^ 10 → between low high n ≡ true → ranged m low high (decimal n) ≡ Ok n
ranged-made m low high n few h = let p = between_parts low high n h in rw (decimal_read n (omega arith), h)

-- it is written in digits
pub digits_of_decimal : (n : ℕ) → n < 10 ^ 10 → all_ascii_digits (decimal n) ≡ true
digits_of_decimal n h = digits_decimal own n (word n h)

-- at most ten
pub length_of_decimal : (n : ℕ) → n < 10 ^ 10 → length (decimal n) ≤ 10
length_of_decimal n h = length-decimal-le 10 n (omega arith) h (word n h)
