-- One digit more.
use Rattle.std.proofs.Common.{◌≡◌, ◌+◌, ◌-◌, ◌*◌, ◌^◌, ◌<◌, ℕ, true, false, ◌&&◌, get_or, drop, inl, inr, sym, ◌∙◌, pow-suc, add-one, arith}
use Rattle.std.proofs.lemmas.Bool.Decides.{nat_tests}
use Rattle.std.proofs.lemmas.List.{at_drop_more}
use Rattle.std.specs.Str.{all_ascii_digits}
use Rattle.std.specs.Char.{is_ascii_digit, IsDigitOf, NotDecimalDigitIn}
use Rattle.sheet.specs.Numbers.{digits_value}
use Rattle.sheet.proofs.digits.decimal.Goals as goal

-- a digit is the number that it shows
shows : (x d : ℕ) → d < 10 → IsDigitOf x d → (is_ascii_digit x ≡ true) × (d ≡ x - 48)
shows x d few (inl h) = (grind (arith, nat_tests), omega arith)
shows x d few (inr (inl h)) = absurd (omega arith)
shows x d few (inr (inr h)) = absurd (omega arith)

-- and no other byte is one
no_digit : (x : ℕ) → NotDecimalDigitIn 10 x → is_ascii_digit x ≡ false
no_digit x h = grind (arith, nat_tests)

pub returns-in_err-n : goal.returns-in_err-n
returns-in_err-n c =
    let xs = c.args.bytes.now in
    let i = c.loop-b.b-index in
    let step : all_ascii_digits (drop i xs) ≡ (is_ascii_digit (get_or xs i 0) && all_ascii_digits (drop (i + 1) xs)) = at_drop_more all_ascii_digits xs i 0 c.loop-b-test.true in
    let bad : is_ascii_digit (get_or xs i 0) ≡ false = no_digit (get_or xs i 0) c.in_err-n.ensures.cases in
    let here : all_ascii_digits (drop i xs) ≡ false = rw bad at step in
    let all : all_ascii_digits xs ≡ false = sym c.loop-b.invariant.0 ∙ here in
    rw (c.from_residual.ensures, all)

pub loop-b-preserved : goal.loop-b-preserved
loop-b-preserved c =
    let xs = c.args.bytes.now in
    let i = c.loop-b.b-index in
    let n = c.loop-b.n in
    let x = get_or xs i 0 in
    let step : all_ascii_digits (drop i xs) ≡ (is_ascii_digit x && all_ascii_digits (drop (i + 1) xs)) = at_drop_more all_ascii_digits xs i 0 c.loop-b-test.true in
    let few : c.in_ok-n.field-0 < 10 = rw c.in_ok-n.ensures.value.1 c.in_ok-n.ensures.value.0 in
    let digit = shows x c.in_ok-n.field-0 few c.in_ok-n.ensures.cases in
    let here : all_ascii_digits (drop i xs) ≡ all_ascii_digits (drop (i + 1) xs) = rw digit.0 at step in
    let val : digits_value n (drop i xs) ≡ digits_value (n * 10 + (x - 48)) (drop (i + 1) xs) = at_drop_more (digits_value n) xs i 0 c.loop-b-test.true in
    let pow : 10 ^ (i + 1) ≡ 10 ^ i * 10 = rw add-one (pow-suc 10 i) in
    let low : n < 10 ^ i = c.loop-b.invariant.2 in
    (sym here ∙ c.loop-b.invariant.0, rw digit.1 (sym val ∙ c.loop-b.invariant.1), omega arith)
