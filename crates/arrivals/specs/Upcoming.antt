-- The packet of a flow that comes next.
use Rattle.std.specs.Prelude.{◌≡◌, ℕ, ◌<◌, ◌≤◌, true}
use Rattle.traffic.specs.declared.flow.Flow.{Flow}
use Rattle.traffic.specs.declared.packet.Packet.{Packet}
use Rattle.traffic.specs.Packets.{arrival}
use Rattle.traffic.specs.declared.sort.Sort.{Sort}
use Rattle.traffic.specs.Sorts.{of_sort, FirstFrom}

-- from packet `from` on none of the sort arrives before the end
abbrev pub NoPacket : Sort → Flow → ℕ → ℕ → Type 0
NoPacket s f from end = (j : ℕ) → from ≤ j → of_sort s f j ≡ true → end ≤ arrival f j

-- p is flow i's first packet of the sort from packet `from` on, and arrives before the end
pub record NextPacket (s : Sort) (f : Flow) (i from end : ℕ) (p : Packet) : Type 0 where
  pub flow : p.flow ≡ i
  pub first : FirstFrom (of_sort s f) from p.number
  pub time : p.arrival ≡ arrival f p.number
  pub early : p.arrival < end
