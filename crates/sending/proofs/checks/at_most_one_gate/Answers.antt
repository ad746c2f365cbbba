-- At most one gate.
use Rattle.sending.proofs.Single.{at_most_one_gate}
use Rattle.sending.proofs.checks.at_most_one_gate.Goals as goal

pub returns : goal.returns
returns c = at_most_one_gate
