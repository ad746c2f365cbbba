-- A power of two opens one gate.
use Rattle.std.proofs.Common.{◌∙◌, sym, arith}
use Rattle.list_check.proofs.Gating.{one_gate}
use Rattle.list_check.proofs.front.is_well_gated.Goals as goal

pub returns-else-entry-eq0 : goal.returns-else-entry-eq0
returns-else-entry-eq0 c = c.is_power_of_two.ensures ∙ sym (one_gate c.args.entry.now c.if-entry-ge1.true c.if-entry-eq0.false (omega arith))
