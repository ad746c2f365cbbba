-- What starts was admitted.
use Rattle.sending.proofs.Laws.{only_admitted}
use Rattle.sending.proofs.every_run.only_admitted.Goals as goal

pub returns : goal.returns
returns c = only_admitted
