-- Greatest common divisor and least common multiple. Assumes nothing.
use Rattle.std.specs.Prelude.{ℕ, zero, suc, ◌*◌, ◌/◌, ◌%◌, cond, ◌&&◌, List, [], ◌∷◌, Some, None, Option, nat_le, nat_lt}

-- Euclid's rule in at most so many turns: the greatest common divisor of a and b is that of b and the remainder
abbrev pub euclid : (turns a b : ℕ) → ℕ
euclid zero a b = a
euclid (suc n) a zero = a
euclid (suc n) a (suc b) = euclid n (suc b) (a % suc b)

-- the greatest common divisor: the remainder falls with each turn, so b turns are enough
unfoldable pub gcd : ℕ → ℕ → ℕ
gcd a b = euclid b a b

-- the least common multiple, 0 where one of them is 0
unfoldable pub lcm : ℕ → ℕ → ℕ
lcm a b = a / gcd a b * b

-- the least common multiple of all, 1 of none
abbrev pub lcm_of : List ℕ → ℕ
lcm_of [] = 1
lcm_of (x ∷ xs) = lcm x (lcm_of xs)

-- n where it is at most the limit
abbrev pub within : (limit n : ℕ) → Option ℕ
within limit n = cond (nat_le n limit) (Some n) None

-- n where it is from 1 to the limit
abbrev pub from_one_to : (limit n : ℕ) → Option ℕ
from_one_to limit n = cond (nat_lt 0 n && nat_le n limit) (Some n) None
