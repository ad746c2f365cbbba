-- One entry written.
use Rattle.search.proofs.Entries.{wrote_one}
use Rattle.search.proofs.drawing.write.Goals as goal

pub returns : goal.returns
returns c = wrote_one c.args.list.now c.args.n c.args.e c.requires
