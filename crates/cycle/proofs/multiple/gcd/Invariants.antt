-- Euclid's turns keep the greatest common divisor.
use Rattle.std.proofs.Common.{◌≡◌}
use Rattle.cycle.specs.Multiple.{gcd}
use Rattle.cycle.proofs.multiple.gcd.Given as goal

abbrev pub invariant-loop-y : goal.invariant-loop-y
invariant-loop-y l = gcd l.x l.y ≡ gcd l.a l.b

abbrev pub decreases-loop-y : goal.decreases-loop-y
decreases-loop-y l = l.y
