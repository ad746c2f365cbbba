-- `take_first`: the others move one place up.
use Rattle.table.proofs.Moves.{taken_from}
use Rattle.table.proofs.table.take_first.Goals as goal

pub returns : goal.returns
returns g c = taken_from g.T.Ordered.before _ _ _ c.args.table.now _ c.in_ok-first.ensures c.min-count.ensures c.copy_within.ensures.after
