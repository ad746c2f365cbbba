-- One packet at a time.
use Rattle.sending.proofs.Laws.{no_overlap}
use Rattle.sending.proofs.every_run.no_overlap.Goals as goal

pub returns : goal.returns
returns c = no_overlap
