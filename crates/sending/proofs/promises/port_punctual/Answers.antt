-- Ports are punctual.
use Rattle.sending.proofs.Kept.{port_punctual}
use Rattle.sending.proofs.promises.port_punctual.Goals as goal

pub returns : goal.returns
returns c = port_punctual
