-- The promise, whole.
use Rattle.sending.proofs.Kept.{port_punctual, queues_apart}
use Rattle.sending.proofs.promises.promise_kept.Goals as goal

pub returns : goal.returns
returns c = (port_punctual, queues_apart)
