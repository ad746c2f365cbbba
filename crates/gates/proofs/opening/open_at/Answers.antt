-- The gate that is found is the only one.
use Rattle.gates.proofs.Bits.{one_gate_open}
use Rattle.gates.proofs.opening.open_at.Goals as goal

pub returns-clause-alone : goal.returns-clause-alone
returns-clause-alone c = one_gate_open
