-- What comes to a queue.
use Rattle.sending.proofs.Laws.{arriving_exactly}
use Rattle.sending.proofs.every_run.arriving_exactly.Goals as goal

pub returns : goal.returns
returns c = arriving_exactly
