-- Few are lost.
use Rattle.sending.proofs.Row.{few_lost}
use Rattle.sending.proofs.promises.few_lost.Goals as goal

pub returns : goal.returns
returns c = few_lost
