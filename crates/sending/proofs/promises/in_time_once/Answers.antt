-- In time, once.
use Rattle.sending.proofs.Cycles.{in_time_once}
use Rattle.sending.proofs.promises.in_time_once.Goals as goal

pub returns : goal.returns
returns c = in_time_once
