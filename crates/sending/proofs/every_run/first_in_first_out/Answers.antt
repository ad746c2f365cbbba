-- Queues keep their order.
use Rattle.sending.proofs.Laws.{first_in_first_out}
use Rattle.sending.proofs.every_run.first_in_first_out.Goals as goal

pub returns : goal.returns
returns c = first_in_first_out
