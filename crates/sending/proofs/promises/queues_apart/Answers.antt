-- Queues are independent.
use Rattle.sending.proofs.Kept.{queues_apart}
use Rattle.sending.proofs.promises.queues_apart.Goals as goal

pub returns : goal.returns
returns c = queues_apart
