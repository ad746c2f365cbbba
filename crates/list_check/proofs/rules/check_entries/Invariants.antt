-- What is left breaks what the whole breaks.
use Rattle.std.proofs.Common.{◌≡◌, true, [], length, take, drop}
use Rattle.sheet.specs.Contents.{traffic_of}
use Rattle.sending.specs.Rules.{entries_broken}
use Rattle.list_check.specs.Named.{known}
use Rattle.list_check.proofs.rules.check_entries.Given as goal

abbrev pub invariant-loop-at : goal.invariant-loop-at
invariant-loop-at l =
    (entries_broken (traffic_of l.sheet) (take l.at l.list) (drop l.at l.list) ≡ entries_broken (traffic_of l.sheet) [] l.list)
    × (known l.latest (take l.at l.list) ≡ true)
    × (length l.latest ≡ 256)
