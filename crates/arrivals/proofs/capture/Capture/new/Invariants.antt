-- Of the first 4,096 records those in front of the place can be captured, and the windows from the last of them on are left.
use Rattle.std.proofs.Common.{◌≡◌, ◌-◌, ◌≤◌, true, take, drop}
use Rattle.arrivals.specs.Captures.{capturable}
use Rattle.arrivals.proofs.capture.Capture.new.Given as goal

abbrev pub invariant-loop-place : goal.invariant-loop-place
invariant-loop-place l =
    (goal.iterator-loop-place).can_next l.place-iterator ×
    (goal.iterator-loop-place).is_finite l.place-iterator ×
    (2 ≤ l.place-iterator.a.start) × (l.place-iterator.a.start ≤ 4097) ×
    (l.place-iterator.b.parts.rest.now ≡ drop (l.place-iterator.a.start - 2) (take 4096 l.packets)) ×
    (capturable (take (l.place-iterator.a.start - 1) (take 4096 l.packets)) ≡ true)
