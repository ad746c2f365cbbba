-- One queue alone.
use Rattle.sending.proofs.Alone.{queue-alone}
use Rattle.sending.proofs.every_run.queue_alone.Goals as goal

pub returns : goal.returns
returns c = queue-alone
