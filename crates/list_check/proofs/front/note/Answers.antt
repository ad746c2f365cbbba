-- One more entry.
use Rattle.std.proofs.Common.{arith}
use Rattle.list_check.proofs.Naming.{known_more}
use Rattle.list_check.proofs.front.note.Goals as goal

pub returns : goal.returns
returns c front k =
    let most = c.max.ensures in
    known_more c.args.latest.now front c.args.entry.now c.max.result (omega arith) (omega arith) (omega arith) k
