-- A sheet without flows has the cycle 1.
use Rattle.sheet.proofs.Wholes.{no_cycle}
use Rattle.sheet.proofs.sheet.Sheet.clear.Goals as goal

pub invariant_of-self-clause-round : goal.invariant_of-self-clause-round
invariant_of-self-clause-round c = rw c.forget.ensures.items no_cycle
