-- What is left of the bytes gives the whole, and the number so far is as short as they.
use Rattle.std.proofs.Common.{◌≡◌, ◌^◌, ◌<◌, drop}
use Rattle.std.specs.Str.{all_ascii_digits}
use Rattle.sheet.specs.Numbers.{digits_value}
use Rattle.sheet.proofs.digits.decimal.Given as goal

abbrev pub invariant-loop-b : goal.invariant-loop-b
invariant-loop-b l =
    (all_ascii_digits (drop l.b-index l.bytes) ≡ all_ascii_digits l.bytes)
    × (digits_value l.n (drop l.b-index l.bytes) ≡ digits_value 0 l.bytes)
    × (l.n < 10 ^ l.b-index)
