-- Queues stand in order.
use Rattle.sending.proofs.Laws.{waits_in_order}
use Rattle.sending.proofs.every_run.waits_in_order.Goals as goal

pub returns : goal.returns
returns c = waits_in_order
