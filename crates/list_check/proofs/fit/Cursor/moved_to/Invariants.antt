-- The entries passed so far end by the instant.
use Rattle.std.proofs.Common.{◌≡◌, ◌+◌, ◌≤◌, List, ◌++◌, length}
use Rattle.gates.specs.declared.entry.Entry.{Entry}
use Rattle.sending.specs.Rules.{total}
use Rattle.list_check.proofs.fit.Cursor.moved_to.Given as goal

abbrev pub invariant-loop-next : goal.invariant-loop-next
invariant-loop-next l =
    (l.cursor.opened ≤ l.from)
    × ((front : List Entry) × (l.fn.self.rest.now ≡ front ++ l.cursor.rest.now) × (l.cursor.opened ≡ l.fn.self.opened + total front))

abbrev pub decreases-loop-next : goal.decreases-loop-next
decreases-loop-next l = length l.cursor.rest.now
