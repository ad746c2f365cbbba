-- What is counted, and what is left to count, is the whole.
use Rattle.std.proofs.Common.{◌≡◌, ◌+◌, ◌-◌, ◌^◌, ◌<◌, min, drop}
use Rattle.gates.specs.Open.{open_for}
use Rattle.gates.proofs.opening.open_for.Given as goal

abbrev pub invariant-loop-entry : goal.invariant-loop-entry
invariant-loop-entry l =
    (min (l.time + open_for (drop l.entry-index l.list) l.queue l.ahead) (2 ^ 64 - 1) ≡ min (open_for l.list l.queue l.offset) (2 ^ 64 - 1))
    × (l.time < 2 ^ 64)
