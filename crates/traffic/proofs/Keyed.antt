-- Orders by one key and then by the rest. Assumes nothing.
use Rattle.std.proofs.Common.{◌≡◌, ℕ, Bool, true, false, not, arith}
use Rattle.std.proofs.lemmas.Bool.Decides.{nat_tests}
use Rattle.traffic.specs.Orders.{then_by}

-- where the keys are equal, none is before itself if the rest says so
pub then_never : (a : ℕ) (p : Bool) → p ≡ false → then_by a a p ≡ false
then_never a p h = grind (arith, nat_tests)

-- transitive where the rest is
pub then_chained : (a b c : ℕ) (p q r : Bool) → (p ≡ true → q ≡ true → r ≡ true) → then_by a b p ≡ true → then_by b c q ≡ true → then_by a c r ≡ true
then_chained a b c p q r h x y = grind (arith, nat_tests)

-- decided by the key, or else by the rest
pub then_decides : (a b : ℕ) (p q : Bool) → (a ≡ b → p ≡ not q) → then_by a b p ≡ not (then_by b a q)
then_decides a b p q h = grind (arith, nat_tests)

-- the same with the greater first
pub then_chained_down : (a b c : ℕ) (p q r : Bool) → (p ≡ true → q ≡ true → r ≡ true) → then_by b a p ≡ true → then_by c b q ≡ true → then_by c a r ≡ true
then_chained_down a b c p q r h x y = grind (arith, nat_tests)
