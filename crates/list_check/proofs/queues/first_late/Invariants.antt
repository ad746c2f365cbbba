-- The queues looked through are covered.
use Rattle.std.proofs.Common.{◌<◌}
use Rattle.traffic.specs.declared.packet.Packet.{Packet}
use Rattle.sheet.specs.Contents.{traffic_of}
use Rattle.sending.specs.Sheet.{queue}
use Rattle.sending.specs.InTime.{InFirstCycle}
use Rattle.list_check.specs.Lateness.{KnownLate, Covered}
use Rattle.list_check.proofs.queues.first_late.Given as goal

abbrev pub invariant-loop-queue : goal.invariant-loop-queue
invariant-loop-queue l =
    KnownLate (traffic_of l.lawful.sheet.now) l.lawful.list.now l.late
    × ((p : Packet) → InFirstCycle (traffic_of l.lawful.sheet.now) l.lawful.list.now p → queue (traffic_of l.lawful.sheet.now) p < l.queue → Covered (traffic_of l.lawful.sheet.now) l.lawful.list.now l.late p)
