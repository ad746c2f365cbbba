-- The flows still to come, behind those read, are all the flows.
use Rattle.std.proofs.Common.{◌≡◌, ◌-◌, [], length, vec_items, vec_len}
use Rattle.sheet.specs.Reading.{flows_from}
use Rattle.sheet.specs.Readers.{cursor}
use Rattle.sheet.proofs.reader.Reader.flows.Given as goal

abbrev pub invariant-loop-self : goal.invariant-loop-self
invariant-loop-self l = flows_from (64 - length (vec_items l.flows)) l.rate (vec_items l.flows) (cursor l.self) ≡ flows_from 64 l.rate [] (cursor l.initial.self)

abbrev pub decreases-loop-self : goal.decreases-loop-self
decreases-loop-self l = 64 - vec_len l.flows
