-- The first of the next packets is the first of all that are still to come.
use Rattle.std.proofs.Common.{sym, ◌∙◌}
use Rattle.sheet.specs.Contents.{traffic_of}
use Rattle.coming.specs.Coming.{held}
use Rattle.coming.proofs.Lefts.{left-first, same_first}
use Rattle.coming.proofs.coming.Packets.first.Goals as goal

pub returns : goal.returns
returns c =
    let s = c.self.inside.sheet.now in
    rw (← c.self.view_is) (c.first.ensures ∙ sym (same_first _ _ (left-first (traffic_of s) s.cycle c.self.inside.queue s.kept (held c.self.inside.next) c.self.invariant.lined)))
