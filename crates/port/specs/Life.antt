-- What may still happen to a port, and that it has places enough for it. Assumes nothing.
use Rattle.std.specs.Prelude.{ℕ, ◌≤◌, List, [], ◌∷◌, length, Option}
use Rattle.traffic.specs.declared.packet.Packet.{Packet}
use Rattle.traffic.specs.Packets.{Traffic}
use Rattle.gates.specs.declared.entry.Entry.{Entry}
use Rattle.sending.specs.InTime.{Accepted}
use Rattle.sending.specs.Calls.{Port, decide, pend, taken}
use Rattle.port.specs.declared.station.Station.{Station}
use Rattle.port.specs.Counting.{counts_of}
use Rattle.port.specs.Station.{state_of}

-- a port by its parts
abbrev pub port_of : (clock : ℕ) → List Entry → Option (List Entry) → Station → Port
port_of clock es pending x = record { state = state_of x; clock = clock; list = es; pending = pending; last = x.last; counts = counts_of x.counts }

-- what happens to a port: an instant is decided, with some source, or a list is taken over
pub data Event : Type 0 where
  instant : List Packet → Event
  over : List Entry → Event

-- the port after it
abbrev pub lived : Traffic → List Event → Port → Port
lived s [] p = p
lived s (instant source ∷ life) p = lived s life (decide s p source).port
lived s (over es ∷ life) p = lived s life (pend es p)

-- lists taken over are accepted ones
abbrev pub Lawful : Traffic → List Event → Type 0
Lawful s [] = Unit {0}
Lawful s (instant source ∷ life) = Lawful s life
Lawful s (over es ∷ life) = Accepted s es × Lawful s life

-- whatever comes, and whatever lists are taken over, no queue ever has to hold more than 64 packets
abbrev pub Ample : Traffic → Port → Type 0
Ample s p = (life : List Event) → Lawful s life → (source : List Packet) (q : ℕ) → length ((taken s (lived s life p) source).state.waiting q) ≤ 64
