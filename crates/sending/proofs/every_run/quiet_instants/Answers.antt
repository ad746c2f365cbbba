-- Quiet instants.
use Rattle.sending.proofs.Jumping.{quiet_instants}
use Rattle.sending.proofs.every_run.quiet_instants.Goals as goal

pub returns : goal.returns
returns c = quiet_instants
