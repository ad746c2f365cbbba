-- What is left after a step of the queue.
use Rattle.sheet.specs.Contents.{traffic_of}
use Rattle.coming.specs.Coming.{held}
use Rattle.coming.proofs.Lefts.{left_steps, progress}
use Rattle.coming.proofs.coming.PacketsIterator.next.Goals as goal

pub returns-clause-steps : goal.returns-clause-steps
returns-clause-steps c =
    let s = c.self.inside.sheet.now in
    rw (← c.self.view_is) (left_steps (traffic_of s) s.cycle c.self.inside.queue s.kept c.take.result (held c.self.inside.next) (held c.take.new.self) c.self.invariant.lined c.take.ensures.took)

pub returns-clause-goes : goal.returns-clause-goes
returns-clause-goes c = progress c.take.result _ _ (returns-clause-steps c)
