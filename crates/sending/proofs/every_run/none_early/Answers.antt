-- What starts has arrived.
use Rattle.sending.proofs.Laws.{none_early}
use Rattle.sending.proofs.every_run.none_early.Goals as goal

pub returns : goal.returns
returns c = none_early
