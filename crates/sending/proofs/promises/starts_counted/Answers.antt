-- Starts are counted.
use Rattle.sending.proofs.Tally.{starts_counted}
use Rattle.sending.proofs.promises.starts_counted.Goals as goal

pub returns : goal.returns
returns c = starts_counted
