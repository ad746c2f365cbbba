-- Numbers in base ten. Assumes nothing.
use Rattle.std.specs.Prelude.{ℕ, ◌+◌, ◌-◌, ◌*◌, cond, ◌&&◌, List, [], ◌∷◌, length, Ok, Err, Result, ◌==◌, nat_lt, slice_index}
use Rattle.std.specs.Str.{all_ascii_digits}
use Rattle.sheet.specs.declared.faults.Cause.{Cause}
use Rattle.sheet.specs.declared.faults.Cause.TheVariants.{Empty, TooLong, LeadingZero, NoDigit}
use Rattle.sheet.specs.declared.faults.DigitFault.{DigitFault}

-- the number that digits write behind n
abbrev pub digits_value : ℕ → List ℕ → ℕ
digits_value n [] = n
digits_value n (b ∷ bs) = digits_value (n * 10 + (b - 48)) bs

-- the number that bytes write, one to ten digits without a leading zero, or the first cause why they write none
abbrev pub read_number : List ℕ → Result ℕ Cause
read_number bs =
    cond (length bs == 0) (Err Empty)
    (cond (nat_lt 10 (length bs)) (Err TooLong)
    (cond (nat_lt 1 (length bs) && slice_index bs 0 == 48) (Err LeadingZero)
    (cond (all_ascii_digits bs) (Ok (digits_value 0 bs)) (Err NoDigit))))

-- the cause with its line
abbrev pub on_line : ℕ → Result ℕ Cause → Result ℕ DigitFault
on_line n (Ok v) = Ok v
on_line n (Err c) = Err (record { line = n; cause = c })
