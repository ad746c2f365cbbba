-- As the three steps.
use Rattle.sending.proofs.Bridge.{as_three_steps}
use Rattle.sending.proofs.promises.as_three_steps.Goals as goal

pub returns : goal.returns
returns c = as_three_steps
