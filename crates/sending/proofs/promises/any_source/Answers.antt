-- Any source.
use Rattle.sending.proofs.Anyhow.{any_source}
use Rattle.sending.proofs.promises.any_source.Goals as goal

pub returns : goal.returns
returns c = any_source
