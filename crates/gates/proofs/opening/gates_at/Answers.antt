-- The gates of the entry there.
use Rattle.std.proofs.Common.{rules}
use Rattle.gates.proofs.Stays.{gates_from_entry}
use Rattle.gates.proofs.opening.gates_at.Goals as goal

pub returns : goal.returns
returns c = gates_from_entry c.args.list.now c.args.offset c.map_or.result (search rules)
