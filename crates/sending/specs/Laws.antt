-- What holds of every run of a port. Assumes nothing.
use Rattle.std.specs.Prelude.{◌≡◌, ℕ, ◌+◌, ◌/◌, ◌%◌, ◌<◌, ◌≤◌, Bool, true, List, [], ◌∷◌, length, Some}
use Rattle.std.specs.List.{AllByRecursion}
use Rattle.traffic.specs.declared.packet.Packet.{Packet}
use Rattle.traffic.specs.Packets.{Traffic}
use Rattle.gates.specs.declared.entry.Entry.{Entry}
use Rattle.gates.specs.Open.{opens, gates_at}
use Rattle.sending.specs.Sheet.{Fits, OfSheet, cycle, queue, waits_before, wire}
use Rattle.sending.specs.Rules.{total, admitted}
use Rattle.sending.specs.Port.{arriving, holds, list_at, run, starts}

-- each packet is before all behind it, in queue order
abbrev pub InOrder : Traffic → List Packet → Type 0
InOrder s [] = Unit {0}
InOrder s (y ∷ ys) = AllByRecursion (λ z. waits_before s y z ≡ true) ys × InOrder s ys

-- what comes to a queue at t: the admitted packets of the sheet that arrive then and wait there, and no others, in queue order
abbrev pub ArrivingExactly : Type 0
ArrivingExactly =
    (s : Traffic) → Fits s → (es : List Entry) (q t : ℕ) →
    InOrder s (arriving s es q t (length s.flows)) ×
    ((p : Packet) → OfSheet s p → p.arrival ≡ t → queue s p ≡ q → admitted s es p ≡ true → holds (arriving s es q t (length s.flows)) p ≡ true) ×
    ((p : Packet) → holds (arriving s es q t (length s.flows)) p ≡ true → OfSheet s p × (p.arrival ≡ t) × (queue s p ≡ q) × (admitted s es p ≡ true))

-- what waits always stands in queue order
abbrev pub WaitsInOrder : Type 0
WaitsInOrder =
    (s : Traffic) → Fits s → (in_force : ℕ → List Entry) → ((n : ℕ) → total (in_force n) ≡ cycle s) → (up : Packet → Bool) (t q : ℕ) →
    InOrder s ((run s in_force up t).waiting q)

-- a start never precedes the arrival
abbrev pub NoneEarly : Type 0
NoneEarly = (s : Traffic) (in_force : ℕ → List Entry) (up : Packet → Bool) (t : ℕ) (p : Packet) → starts s in_force up t ≡ Some p → p.arrival ≤ t

-- only packets of the sheet that turned up start, and only admitted ones
abbrev pub OnlyAdmitted : Type 0
OnlyAdmitted =
    (s : Traffic) (in_force : ℕ → List Entry) (up : Packet → Bool) (t : ℕ) (p : Packet) → starts s in_force up t ≡ Some p →
    OfSheet s p × (up p ≡ true) × (admitted s (in_force (p.arrival / cycle s)) p ≡ true)

-- two packets never overlap on the wire
abbrev pub NoOverlap : Type 0
NoOverlap =
    (s : Traffic) (in_force : ℕ → List Entry) (up : Packet → Bool) (t u : ℕ) (p r : Packet) →
    starts s in_force up t ≡ Some p → starts s in_force up u ≡ Some r → t < u → t + wire s p ≤ u

-- over the whole of every packet the gate of its queue is open, in the cycle in which it starts
abbrev pub GateOpen : Type 0
GateOpen =
    (s : Traffic) → Fits s → (in_force : ℕ → List Entry) → ((n : ℕ) → total (in_force n) ≡ cycle s) → (up : Packet → Bool) (t : ℕ) (p : Packet) → starts s in_force up t ≡ Some p →
    (u : ℕ) → t ≤ u → u < t + wire s p → (opens (queue s p) (gates_at (list_at s in_force u) (u % cycle s)) ≡ true) × (u / cycle s ≡ t / cycle s)

-- each queue is first in, first out: before a packet starts, those before it in its queue have started
abbrev pub FirstInFirstOut : Type 0
FirstInFirstOut =
    (s : Traffic) → Fits s → (in_force : ℕ → List Entry) → ((n : ℕ) → total (in_force n) ≡ cycle s) → (up : Packet → Bool) →
    (p r : Packet) → OfSheet s p → up p ≡ true → admitted s (in_force (p.arrival / cycle s)) p ≡ true → queue s p ≡ queue s r → waits_before s p r ≡ true →
    (u : ℕ) → starts s in_force up u ≡ Some r → (t : ℕ) × (t < u) × (starts s in_force up t ≡ Some p)
