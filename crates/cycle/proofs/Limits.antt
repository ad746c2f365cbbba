-- Numbers within a limit. Assumes nothing.
use Rattle.std.proofs.Common.{◌≡◌, ℕ, ◌<◌, ◌≤◌, Some, None, arith}
use Prim.Native.Nat.{◌∣◌}
use native.Mathlib.Nat.{le_of_dvd}
use Rattle.std.proofs.lemmas.Bool.Decides.{nat_tests}
use Rattle.cycle.specs.Multiple.{within, from_one_to}

-- what is given is the number
pub some_within : (limit n v : ℕ) → Some v ≡ within limit n → v ≡ n
some_within limit n v h = grind (arith, nat_tests)

-- where none is given the number passes the limit
pub none_within : (limit n : ℕ) → None ≡ within limit n → limit < n
none_within limit n h = grind (arith, nat_tests)

-- a multiple of what passes the limit passes it or is 0
pub multiple_past : (limit p n : ℕ) → limit < p → p ∣ n → None ≡ from_one_to limit n
multiple_past limit p n l d = let le : 0 < n → p ≤ n = λ some. le_of_dvd some d in grind (arith, nat_tests)
