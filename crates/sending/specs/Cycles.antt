-- What a port does, cycle after cycle, for the packets that turned up. Assumes nothing.
use Rattle.std.specs.Prelude.{◌≡◌, ℕ, suc, ◌+◌, ◌*◌, ◌/◌, ◌<◌, ◌≤◌, Bool, true, false, List, [], length, Some}
use Rattle.std.specs.List.{AllByRecursion}
use Rattle.traffic.specs.declared.packet.Packet.{Packet}
use Rattle.traffic.specs.Packets.{Traffic}
use Rattle.gates.specs.declared.entry.Entry.{Entry}
use Rattle.sending.specs.Sheet.{Fits, OfSheet, cycle, flow, deadline, last_start, queue, mandatory, packet, number_at}
use Rattle.sending.specs.Rules.{total, admitted}
use Rattle.sending.specs.Port.{join, joining, holds, run, starts, lost, losses}
use Rattle.sending.specs.InTime.{StartsInTime, first_cycle, InFirstCycle, Accepted}

-- a queue's starts hang on nothing but its own packets and the lists in force
abbrev pub QueueAlone : Type 0
QueueAlone =
    (s : Traffic) → Fits s →
    (in_force in_force' : ℕ → List Entry) → ((n : ℕ) → total (in_force n) ≡ cycle s) → ((n : ℕ) → total (in_force' n) ≡ cycle s) →
    (up up' : Packet → Bool) (q clock : ℕ) →
    ((p : Packet) → OfSheet s p → queue s p ≡ q → up p ≡ up' p) →
    ((n : ℕ) → n * cycle s < clock → in_force n ≡ in_force' n) →
    (t : ℕ) → t < clock → (p : Packet) → queue s p ≡ q →
    (starts s in_force up t ≡ Some p → starts s in_force' up' t ≡ Some p) × (starts s in_force' up' t ≡ Some p → starts s in_force up t ≡ Some p)

-- each mandatory or admitted packet that turned up starts exactly once, in time
abbrev pub InTimeOnce : Type 0
InTimeOnce =
    (s : Traffic) → Fits s → (in_force : ℕ → List Entry) → ((n : ℕ) → Accepted s (in_force n)) → (up : Packet → Bool) →
    (p : Packet) → OfSheet s p → admitted s (in_force (p.arrival / cycle s)) p ≡ true → up p ≡ true →
    (t : ℕ) × StartsInTime s in_force up p t × ((u : ℕ) → starts s in_force up u ≡ Some p → u ≡ t)

-- of any k in a row a flow loses at most m, if the mandatory among them turned up
abbrev pub FewLost : Type 0
FewLost =
    (s : Traffic) → Fits s → (in_force : ℕ → List Entry) → ((n : ℕ) → Accepted s (in_force n)) → (up : Packet → Bool) →
    (i j : ℕ) → 1 ≤ i → i ≤ length s.flows → 1 ≤ j →
    ((n : ℕ) → j ≤ n → n < j + (flow s i).among → mandatory s (packet s i n) ≡ true → up (packet s i n) ≡ true) →
    losses s (lost s in_force up) i j (flow s i).among ≤ (flow s i).miss

-- cycles do not touch: at each multiple of the cycle nothing waits and the wire is free
abbrev pub CyclesApart : Type 0
CyclesApart =
    (s : Traffic) → Fits s → (in_force : ℕ → List Entry) → ((n : ℕ) → Accepted s (in_force n)) → (up : Packet → Bool) → (n : ℕ) →
    ((q : ℕ) → (run s in_force up (n * cycle s)).waiting q ≡ []) × ((run s in_force up (n * cycle s)).free ≤ n * cycle s)

-- what waits at t is its flow's latest packet, so a queue has at most one place for each flow
abbrev pub LatestWaits : Type 0
LatestWaits =
    (s : Traffic) → Fits s → (in_force : ℕ → List Entry) → ((n : ℕ) → Accepted s (in_force n)) → (up : Packet → Bool) → (t q : ℕ) →
    AllByRecursion (λ p. p ≡ packet s p.flow (number_at (flow s p.flow) t)) ((join (joining s in_force up t) (run s in_force up t)).waiting q) ×
    (length ((join (joining s in_force up t) (run s in_force up t)).waiting q) ≤ length s.flows)

-- a list that may be bad: until a deadline is missed no queue needs more than a place for each flow
abbrev pub SimulationFits : Type 0
SimulationFits =
    (s : Traffic) → Fits s → (es : List Entry) → total es ≡ cycle s → (t q : ℕ) →
    ((p : Packet) → InFirstCycle s es p → deadline s p ≤ t → (u : ℕ) × (u < t) × (starts s (λ _. es) (first_cycle s) u ≡ Some p)) →
    length ((join (joining s (λ _. es) (first_cycle s) t) (run s (λ _. es) (first_cycle s) t)).waiting q) ≤ length s.flows

-- a packet is late exactly if it still waits when its last chance to start is over
abbrev pub LateWaits : Type 0
LateWaits =
    (s : Traffic) → Fits s → (es : List Entry) → total es ≡ cycle s → (p : Packet) → InFirstCycle s es p →
    (holds ((run s (λ _. es) (first_cycle s) (suc (last_start s p))).waiting (queue s p)) p ≡ false → (t : ℕ) × StartsInTime s (λ _. es) (first_cycle s) p t) ×
    (holds ((run s (λ _. es) (first_cycle s) (suc (last_start s p))).waiting (queue s p)) p ≡ true → (t : ℕ) → StartsInTime s (λ _. es) (first_cycle s) p t → ⊥)
