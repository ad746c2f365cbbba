-- What is left of the search finds what the whole does.
use Rattle.std.proofs.Common.{◌≡◌, ◌+◌, ◌≤◌, max, take, drop}
use Rattle.sending.specs.Rules.{total}
use Rattle.list_check.specs.Fit.{fit_from}
use Rattle.list_check.proofs.fit.Cursor.first_fit.Given as goal

abbrev pub invariant-loop-entry : goal.invariant-loop-entry
invariant-loop-entry l =
    (fit_from (drop l.entry-index l.self.rest.now) l.queue l.wire l.start l.end ≡ fit_from l.self.rest.now l.queue l.wire l.from l.self.opened)
    × (l.end ≡ l.self.opened + total (take l.entry-index l.self.rest.now))
    × (l.from ≤ l.start)
    × (l.start ≤ max l.from 1000000000)
