-- The packets of a sheet: which there are, when they arrive, and in which order they wait. Assumes nothing.
use Rattle.std.specs.Prelude.{◌≡◌, ℕ, ◌+◌, ◌-◌, ◌/◌, ◌<◌, ◌≤◌, Bool, true, cond, ◌&&◌, List, [], ◌∷◌, length, ◌==◌}
use Rattle.std.specs.Int.{◌∣◌}
use Rattle.traffic.specs.declared.flow.Flow.{Flow}
use Rattle.traffic.specs.declared.packet.Packet.{Packet}
use Rattle.traffic.specs.declared.packet.Job.{Job}
use Rattle.traffic.specs.Wire.{wire_time}
use Rattle.traffic.specs.Pattern.{mandatory_at}
use Rattle.traffic.specs.Packets.{Traffic, flow_at, arrival, job}
use Rattle.traffic.specs.Orders.{queue_before}
use Rattle.cycle.specs.Cycle.{cycle_of, pattern_time}
use Rattle.sheet.specs.Ranges.{all_kept}

-- A, the cycle of a sheet
abbrev pub cycle : Traffic → ℕ
cycle s = cycle_of s.flows

-- flow i of a sheet, from 1
abbrev pub flow : Traffic → ℕ → Flow
flow s i = flow_at s.flows i

-- what is true of a flow of a sheet that was read
pub record FlowFits (s : Traffic) (f : Flow) : Type 0 where
  pub own_queue : 1 ≤ f.queue
  pub last_queue : f.queue ≤ 7
  pub some_wire : 1 ≤ wire_time s.rate f.octets
  pub can_end : wire_time s.rate f.octets ≤ f.deadline
  pub one_waits : f.deadline ≤ f.period
  pub some_kept : f.miss < f.among
  pub few : f.among ≤ 20
  pub whole_patterns : pattern_time f ∣ cycle s

-- what is true of a sheet that was read: its cycle takes some time, and each flow fits
pub record Fits (s : Traffic) : Type 0 where
  pub some_time : 0 < cycle s
  pub each : (i : ℕ) → 1 ≤ i → i ≤ length s.flows → FlowFits s (flow s i)

-- a sheet whose numbers keep their ranges is such a sheet
abbrev pub ReadSheetsFit : Type 0
ReadSheetsFit = (s : Traffic) → all_kept s.rate s.flows ≡ true → Fits s

-- what the sheet says of a packet
abbrev pub job_of : Traffic → Packet → Job
job_of s p = job s.rate p.flow (flow s p.flow) p.number

-- how long a packet takes on the wire
abbrev pub wire : Traffic → Packet → ℕ
wire s p = (job_of s p).wire

-- when it must have ended
abbrev pub deadline : Traffic → Packet → ℕ
deadline s p = (job_of s p).deadline

-- the last instant at which it can start in time
abbrev pub last_start : Traffic → Packet → ℕ
last_start s p = deadline s p - wire s p

-- the queue in which it waits
abbrev pub queue : Traffic → Packet → ℕ
queue s p = (job_of s p).queue

-- is it mandatory
abbrev pub mandatory : Traffic → Packet → Bool
mandatory s p = mandatory_at (flow s p.flow) p.number

-- packet j of flow i
abbrev pub packet : Traffic → (i j : ℕ) → Packet
packet s i j = record { flow = i; number = j; arrival = arrival (flow s i) j }

-- a packet of the sheet: its flow is there, its number counts from 1, and it arrives when that packet does
pub record OfSheet (s : Traffic) (p : Packet) : Type 0 where
  pub from_one : 1 ≤ p.flow
  pub to_last : p.flow ≤ length s.flows
  pub numbered : 1 ≤ p.number
  pub on_time : p.arrival ≡ arrival (flow s p.flow) p.number

-- the number of the latest packet of a flow at t, from its arrivals
abbrev pub number_at : Flow → ℕ → ℕ
number_at f t = t / f.period + 1

-- the packet of flow i that arrives at t, where one does
abbrev pub packet_at : Traffic → (i t : ℕ) → Packet
packet_at s i t = record { flow = i; number = number_at (flow s i) t; arrival = t }

-- does a packet of flow i arrive at t
abbrev pub arrives : Traffic → (i t : ℕ) → Bool
arrives s i t = arrival (flow s i) (number_at (flow s i) t) == t

-- one and the same packet
abbrev pub same : Packet → Packet → Bool
same p r = p.flow == r.flow && (p.number == r.number && p.arrival == r.arrival)

-- queue order
abbrev pub waits_before : Traffic → Packet → Packet → Bool
waits_before s x y = queue_before (job_of s x) (job_of s y)

-- x in front of the first that it is before
abbrev pub placed : {P : Type 0} → (P → P → Bool) → P → List P → List P
placed before x [] = x ∷ []
placed before x (y ∷ ys) = cond (before x y) (x ∷ y ∷ ys) (y ∷ placed before x ys)
