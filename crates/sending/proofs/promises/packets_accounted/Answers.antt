-- Packets are accounted for.
use Rattle.sending.proofs.Account.{packets_accounted}
use Rattle.sending.proofs.promises.packets_accounted.Goals as goal

pub returns : goal.returns
returns c = packets_accounted
