-- What is left of the packets, and what is known of the rest.
use Rattle.std.proofs.Common.{ℕ, List}
use Rattle.std.specs.Iterator.{AlwaysYields}
use Rattle.traffic.specs.declared.packet.Packet.{Packet}
use Rattle.traffic.specs.declared.packet.Job.{Job}
use Rattle.sheet.specs.Contents.{traffic_of}
use Rattle.list_check.specs.Lateness.{Covered}
use Rattle.list_check.specs.Queued.{QueueComes}
use Rattle.list_check.proofs.Progress.{Progress}
use Rattle.list_check.proofs.Looking.{StandsIn, until}
use Rattle.list_check.proofs.queues.look_at.Given as goal

abbrev pub invariant-loop-x : goal.invariant-loop-x
invariant-loop-x g l =
    (goal.iterator-loop-x g).can_next l.x-iterator
    × (goal.iterator-loop-x g).is_finite l.x-iterator
    × StandsIn l.lawful.list.now l.service
    × ((q : ℕ) → QueueComes (goal.iterator-loop-x g).next_gives l.fn.packets (traffic_of l.lawful.sheet.now) l.lawful.list.now q →
    (rest : List Job) × AlwaysYields (goal.iterator-loop-x g).next_gives (λ y. y) l.x-iterator rest × Progress (traffic_of l.lawful.sheet.now) l.lawful.list.now q rest (until l.service) l.late)
    × ((p : Packet) → Covered (traffic_of l.lawful.sheet.now) l.lawful.list.now l.initial.late p → Covered (traffic_of l.lawful.sheet.now) l.lawful.list.now l.late p)
