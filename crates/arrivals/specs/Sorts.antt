-- The packets of one sort, and the calendar of a sort.
use Rattle.std.specs.Prelude.{◌≡◌, ℕ, zero, suc, ◌+◌, ◌/◌, ◌%◌, ◌≤◌, Bool, true, cond, ◌&&◌, List, [], ◌∷◌, ◌++◌, length, ◌==◌, nat_le, nat_lt}
use Rattle.std.specs.List.{ContainsAt}
use Rattle.traffic.specs.declared.flow.Flow.{Flow}
use Rattle.traffic.specs.declared.packet.Packet.{Packet}
use Rattle.traffic.specs.Packets.{arrival, flow_at}
use Rattle.traffic.specs.declared.sort.Sort.{Sort}
use Rattle.traffic.specs.declared.sort.Sort.TheVariants.{Mandatory, Optional}
use Rattle.traffic.specs.Sorts.{of_sort}
use Rattle.arrivals.specs.Sources.{Rises, times}

-- the sort of the other packets
abbrev pub other_sort : Sort → Sort
other_sort Mandatory = Optional
other_sort Optional = Mandatory

-- the flow has a packet of the sort at t: one of its packets arrives at each multiple of its period
abbrev pub comes_at : Sort → Flow → ℕ → Bool
comes_at s f t = t % f.period == 0 && of_sort s f (t / f.period + 1)

-- the packet of flow i that arrives at t
abbrev pub packet_at : ℕ → Flow → ℕ → Packet
packet_at i f t = record { flow = i; number = t / f.period + 1; arrival = t }

-- the packets of the sort that arrive at t, of these flows in their order, which count from i
abbrev pub arriving : Sort → ℕ → List Flow → ℕ → List Packet
arriving s i [] t = []
arriving s i (f ∷ fs) t = cond (comes_at s f t) (packet_at i f t ∷ arriving s (suc i) fs t) (arriving s (suc i) fs t)

-- the calendar: the packets of the sort that arrive before the end, instant by instant
unfoldable pub calendar : Sort → List Flow → (end : ℕ) → List Packet
calendar s fs zero = []
calendar s fs (suc t) = calendar s fs t ++ arriving s 1 fs t

-- p is a packet of the sheet: of one of its flows, numbered from 1, of the sort, arriving when that packet does, before the end
abbrev pub belongs : Sort → List Flow → (end : ℕ) → Packet → Bool
belongs s fs end p =
    (nat_le 1 p.flow && nat_le p.flow (length fs)) && (nat_le 1 p.number && (p.arrival == arrival (flow_at fs p.flow) p.number
    && (of_sort s (flow_at fs p.flow) p.number && nat_lt p.arrival end)))

-- the list holds each packet of the sheet, of the sort and before the end, once and no other, and rises strictly in delivery order
pub record Exactly (s : Sort) (fs : List Flow) (end : ℕ) (ps : List Packet) : Type 0 where
  pub all : (p : Packet) → belongs s fs end p ≡ true → ContainsAt ps p
  pub once : (p : Packet) → times p ps ≤ 1
  pub only : (p : Packet) → ContainsAt ps p → belongs s fs end p ≡ true
  pub ordered : Rises ps
