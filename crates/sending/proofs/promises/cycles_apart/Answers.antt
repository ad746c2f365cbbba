-- Cycles do not touch.
use Rattle.sending.proofs.Apart.{cycles_apart}
use Rattle.sending.proofs.promises.cycles_apart.Goals as goal

pub returns : goal.returns
returns c = cycles_apart
