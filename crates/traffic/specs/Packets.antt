-- The packets of a sheet, with what the sheet says of each. Assumes nothing.
use Rattle.std.specs.Prelude.{ℕ, zero, suc, ◌+◌, ◌-◌, ◌*◌, Bool, cond, ◌&&◌, List, length, nat_le, slice_index_or}
use Rattle.traffic.specs.declared.rate.Rate.{Rate}
use Rattle.traffic.specs.declared.flow.Flow.{Flow}
use Rattle.traffic.specs.declared.packet.Job.{Job}
use Rattle.traffic.specs.declared.packet.Packet.{Packet}
use Rattle.traffic.specs.Wire.{wire_time}
use Rattle.traffic.specs.Pattern.{mandatory_at}

-- what a sheet says: the rate of the line, and its flows, which count from 1
pub record Traffic : Type 0 where
  pub rate : Rate
  pub flows : List Flow

-- stands for a flow that is not there
abbrev pub no_flow : Flow
no_flow = record { queue = 0; octets = 0; period = 0; deadline = 0; miss = 0; among = 0; weight = 0 }

-- flow i, from 1
abbrev pub flow_at : List Flow → ℕ → Flow
flow_at fs zero = no_flow
flow_at fs (suc i) = slice_index_or fs i no_flow

-- flow i is there
abbrev pub listed : List Flow → ℕ → Bool
listed fs i = nat_le 1 i && nat_le i (length fs)

-- when packet j of a flow arrives
abbrev pub arrival : Flow → ℕ → ℕ
arrival f j = (j - 1) * f.period

-- the queue in which packet j of a flow waits: optional packets wait in queue 0
abbrev pub queue_of : Flow → ℕ → ℕ
queue_of f j = cond (mandatory_at f j) f.queue 0

-- packet j of flow i
abbrev pub job : Rate → ℕ → Flow → ℕ → Job
job r i f j = record {
  flow = i;
  number = j;
  queue = queue_of f j;
  arrival = arrival f j;
  deadline = arrival f j + f.deadline;
  wire = wire_time r f.octets;
  weight = f.weight;
}

-- the packet of which the sheet says this
abbrev pub packet_of : Job → Packet
packet_of x = record { flow = x.flow; number = x.number; arrival = x.arrival }

-- sent from this instant on, the packet ends by its deadline
abbrev pub in_time : Job → ℕ → Bool
in_time x start = nat_le (start + x.wire) x.deadline
