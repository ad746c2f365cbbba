-- What the eight queues stand for, and what their calls leave. Assumes nothing.
use Rattle.std.specs.Prelude.{◌≡◌, ℕ, Bool, true, ◌&&◌, List, [], map, length, drop, ◌==◌, ◌≢◌, slice_index_or}
use Rattle.std.specs.List.{list_all}
use Rattle.traffic.specs.declared.packet.Packet.{Packet}
use Rattle.traffic.specs.declared.packet.Job.{Job}
use Rattle.traffic.specs.Packets.{Traffic, packet_of}
use Rattle.traffic.specs.Orders.{queue_before}
use Rattle.table.specs.Order.{in_order, placed}
use Rattle.sending.specs.Sheet.{job_of}
use Rattle.sending.specs.Calls.{of_sheet}
use Rattle.port.specs.declared.lanes.Lanes.{Lanes}

-- a queue of the eight: what waits there
abbrev pub queue_at : Lanes → ℕ → List Job
queue_at l q = slice_index_or l.queues q []

-- the packets that wait in each queue
abbrev pub waiting_of : Lanes → ℕ → List Packet
waiting_of l q = map packet_of (queue_at l q)

-- nothing waits in any queue
abbrev pub nothing_waits : Lanes → Bool
nothing_waits l = list_all (λ jobs. length jobs == 0) l.queues

-- a packet has joined its queue, where it has its place among those that waited, and the others are as they were
pub record LaneJoined (job : Job) (entry exit : Lanes) : Type 0 where
  pub here : queue_at exit job.queue ≡ placed queue_before job (queue_at entry job.queue)
  pub ordered : in_order queue_before (queue_at exit job.queue) ≡ true
  pub others : (q : ℕ) → (q ≢ job.queue) → queue_at exit q ≡ queue_at entry q

-- the first has left a queue, and the others are as they were
pub record LaneLeft (queue : ℕ) (entry exit : Lanes) : Type 0 where
  pub here : queue_at exit queue ≡ drop 1 (queue_at entry queue)
  pub ordered : in_order queue_before (queue_at exit queue) ≡ true
  pub others : (q : ℕ) → (q ≢ queue) → queue_at exit q ≡ queue_at entry q

-- the sheet says the same of two packets
abbrev pub same_job : Job → Job → Bool
same_job x y = x.queue == y.queue && (x.arrival == y.arrival && (x.deadline == y.deadline && (x.wire == y.wire && x.weight == y.weight)))

-- a packet of the sheet waits with what the sheet says of it
abbrev pub as_sheet : Traffic → Job → Bool
as_sheet s job = of_sheet s (packet_of job) && same_job job (job_of s (packet_of job))

-- in a queue packets of the sheet wait in order
abbrev pub lined : Traffic → List Job → Bool
lined s jobs = in_order queue_before jobs && list_all (as_sheet s) jobs

-- and so in each queue
abbrev pub Lined : Traffic → Lanes → Type 0
Lined s l = (q : ℕ) → lined s (queue_at l q) ≡ true
