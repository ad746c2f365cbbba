-- The cursors of the flows so far.
use Rattle.std.specs.Slice.Iter.{iter_rest}
use Rattle.arrivals.proofs.Beginning.{Begun}
use Rattle.arrivals.proofs.cursors.first_cursors.Given as goal

abbrev pub invariant-loop-index : goal.invariant-loop-index
invariant-loop-index l =
    (goal.iterator-loop-index).can_next l.index-iterator ×
    (goal.iterator-loop-index).is_finite l.index-iterator ×
    Begun l.sort l.flows l.end l.index-iterator.a.start (iter_rest l.index-iterator.b) l.cursors
