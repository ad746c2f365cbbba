-- What waits is the latest.
use Rattle.sending.proofs.Waiting.{latest_waits}
use Rattle.sending.proofs.promises.latest_waits.Goals as goal

pub returns : goal.returns
returns c = latest_waits
