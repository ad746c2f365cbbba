-- What is left of the list has the entry at what is left of the offset.
use Rattle.std.proofs.Common.{◌≡◌, drop}
use Rattle.gates.specs.Open.{entry_at}
use Rattle.gates.proofs.opening.entry_at.Given as goal

abbrev pub invariant-loop-entry : goal.invariant-loop-entry
invariant-loop-entry l = entry_at (drop l.entry-index l.list) l.ahead ≡ entry_at l.list l.offset
