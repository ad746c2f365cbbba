-- The worked run.
use Rattle.sending.proofs.Examples.{worked_run}
use Rattle.sending.proofs.worked.worked_run.Goals as goal

pub returns : goal.returns
returns c = worked_run
