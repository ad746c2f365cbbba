-- Gates stay open.
use Rattle.sending.proofs.Laws.{gate_open}
use Rattle.sending.proofs.every_run.gate_open.Goals as goal

pub returns : goal.returns
returns c = gate_open
