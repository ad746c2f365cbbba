-- The exponent of the power.
use Rattle.std.proofs.Common.{rules, ◌∙◌, arith}
use Rattle.gates.proofs.Bits.{gate_from_bits}
use Rattle.gates.proofs.opening.gate_of.Goals as goal

pub returns : goal.returns
returns c = gate_from_bits c.args.gates c.then.result (omega arith) (c.then.ensures.variant ∙ c.is_power_of_two.ensures) (search rules)
