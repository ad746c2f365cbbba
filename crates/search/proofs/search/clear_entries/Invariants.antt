-- Zero so far.
use Rattle.std.proofs.Common.{◌≡◌, take, replicate}
use Rattle.search.specs.Memory.{no_entry}
use Rattle.search.proofs.search.clear_entries.Given as goal

abbrev pub invariant-loop-entry : goal.invariant-loop-entry
invariant-loop-entry l = take l.entry-index l.list ≡ replicate l.entry-index no_entry
