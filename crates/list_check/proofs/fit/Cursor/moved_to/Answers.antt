-- One entry after another.
use Rattle.std.proofs.Common.{[], ◌∷◌, ◌++◌, arith}
use Rattle.list_check.proofs.Fitting.{moved_more, moved_total}
use Rattle.list_check.proofs.fit.Cursor.moved_to.Goals as goal

pub loop-next-preserved : goal.loop-next-preserved
loop-next-preserved c =
    let i = c.loop-next.invariant in
    let n = c.in-Some.ensures in
    let more = moved_total i.1.0 n.0 in
    let begins = i.1.2 in
    let opened = n.2 in
    (omega arith, (i.1.0 ++ (n.0 ∷ []), moved_more i.1.0 _ _ n.0 _ i.1.1 n.1, omega arith))
