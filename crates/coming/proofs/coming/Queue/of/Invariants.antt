-- The flows so far have joined.
use Rattle.std.proofs.Common.{◌-◌, ◌≤◌}
use Rattle.sheet.specs.Contents.{traffic_of}
use Rattle.coming.specs.Coming.{Built, held}
use Rattle.coming.proofs.coming.Queue.of.Given as goal

abbrev pub invariant-loop-index : goal.invariant-loop-index
invariant-loop-index l = Built (traffic_of l.lane.sheet.now) l.lane.sheet.now.cycle l.lane.queue (l.index - 1) (held l.made) × (l.made.len ≤ l.index - 1) × (1 ≤ l.index)
