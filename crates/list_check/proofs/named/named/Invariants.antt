-- The packets that the entries so far name are gathered.
use Rattle.std.proofs.Common.{◌≤◌, length, take}
use Rattle.sheet.specs.Contents.{traffic_of}
use Rattle.list_check.proofs.Gathering.{Gathered}
use Rattle.list_check.proofs.named.named.Given as goal

abbrev pub invariant-loop-entry : goal.invariant-loop-entry
invariant-loop-entry l = Gathered (traffic_of l.lawful.sheet.now) l.lawful.list.now (take l.entry-index l.lawful.list.now) l.named × (length l.named ≤ l.entry-index)
