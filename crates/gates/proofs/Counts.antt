-- How many digits a number has.
use Rattle.std.proofs.Common.{◌≡◌, ℕ, ◌+◌, ◌%◌, ◌^◌, ◌<◌, ◌≤◌, length, decimal, ⊎_elim, pow-suc, add-one, arith}
use native.Mathlib.Nat.{pow-le-pow_right}
use Rattle.std.proofs.lemmas.List.{length_push}
use Rattle.std.proofs.lemmas.Bool.{cases_lt}
use Rattle.std.proofs.lemmas.Fmt.{decimal_by_steps, length-decimal-le}

-- as many digits as a number has can write it
pub lt_pow_digits : (n : ℕ) → n < 2 ^ 64 → n < 10 ^ length (decimal n)
lt_pow_digits =
    decimal_by_steps (λ n ds. n < 10 ^ length ds)
    (λ n h. h)
    (λ n ds h k. rw (length_push ds (48 + n % 10), add-one, pow-suc 10 (length ds)) (omega arith))

-- a number from 10 ^ k up to 10 ^ (k + 1) has k + 1 digits
pub count-is : (k n : ℕ) → n < 2 ^ 64 → 10 ^ k ≤ n → n < 10 ^ (k + 1) → k + 1 ≡ length (decimal n)
count-is k n small low high =
    let most = length-decimal-le (k + 1) n (omega arith) high small in
    ⊎_elim
    (λ (h : length (decimal n) < k + 1).
    let l = lt_pow_digits n small in
    let m : 10 ^ length (decimal n) ≤ 10 ^ k = pow-le-pow_right {n = 10} (omega arith) (omega arith) in
    absurd (omega arith))
    (λ (h : k + 1 ≤ length (decimal n)). omega arith)
    (cases_lt (length (decimal n)) (k + 1))
