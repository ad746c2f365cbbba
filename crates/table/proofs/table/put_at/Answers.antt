-- `put_at`: the records behind the place of x move one place back, and x goes there.
use Rattle.table.proofs.Places.{put_from}
use Rattle.table.proofs.table.put_at.Goals as goal

pub returns : goal.returns
returns g c = put_from g.met.T.Ordered.asym g.met.T.Ordered.behind c.args.x _ _ c.args.table.now _ c.if-len-table.false c.requires c.copy_within.ensures.after
