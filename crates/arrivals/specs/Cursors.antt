-- Cursors: of each flow the packet of the calendar that comes next, and what they stand for.
use Rattle.std.specs.Prelude.{◌≡◌, ℕ, Bool, true, not, ◌&&◌, List, [], ◌∷◌, filter, ◌==◌, nat_le}
use Rattle.std.specs.List.{list_any}
use Rattle.traffic.specs.declared.flow.Flow.{Flow}
use Rattle.traffic.specs.declared.packet.Packet.{Packet}
use Rattle.traffic.specs.declared.sort.Sort.{Sort}
use Rattle.traffic.specs.Orders.{delivered_before}
use Rattle.table.specs.Order.{in_order}
use Rattle.arrivals.specs.Sorts.{calendar, belongs}

-- the cursor is at a packet of the flow
abbrev pub at_flow : ℕ → Packet → Bool
at_flow i c = c.flow == i

-- the cursors are packets of the calendar, at most one of each flow
abbrev pub standing : Sort → List Flow → (end : ℕ) → List Packet → Bool
standing s fs end [] = true
standing s fs end (c ∷ cs) = belongs s fs end c && (not (list_any (at_flow c.flow) cs) && standing s fs end cs)

-- the cursor is at p, or at a packet of its flow in front of it
abbrev pub leads_to : Packet → Packet → Bool
leads_to p c = at_flow p.flow c && nat_le c.number p.number

-- what is to come from the cursors on: the packets of the calendar that a cursor leads to
abbrev pub from_cursors : Sort → List Flow → (end : ℕ) → List Packet → List Packet
from_cursors s fs end cs = filter (λ p. list_any (leads_to p) cs) (calendar s fs end)

-- the cursors of a calendar of which nothing was taken: they lead to each of its packets
pub record FirstCursors (s : Sort) (fs : List Flow) (end : ℕ) (cs : List Packet) : Type 0 where
  pub ordered : in_order delivered_before cs ≡ true
  pub stands : standing s fs end cs ≡ true
  pub whole : (p : Packet) → belongs s fs end p ≡ true → list_any (leads_to p) cs ≡ true
