-- A sheet without flows has the cycle 1.
use Rattle.sheet.proofs.Wholes.{no_cycle}
use Rattle.sheet.proofs.sheet.Sheet.new.Goals as goal

pub invariant_of-result-clause-round : goal.invariant_of-result-clause-round
invariant_of-result-clause-round c = rw c.new.ensures.items no_cycle
