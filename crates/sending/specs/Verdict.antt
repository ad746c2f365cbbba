-- What a check says of a list. Assumes nothing.
use Rattle.std.specs.Prelude.{◌≡◌, ℕ, ◌<◌, ◌≤◌, ◌⊎◌, List, Some, None, Option}
use Rattle.traffic.specs.declared.packet.Packet.{Packet}
use Rattle.traffic.specs.Packets.{Traffic}
use Rattle.gates.specs.declared.entry.Entry.{Entry}
use Rattle.sending.specs.Sheet.{Fits, deadline, packet}
use Rattle.sending.specs.Rules.{Broken, first_broken}
use Rattle.sending.specs.InTime.{StartsInTime, InFirstCycle, Accepted, first_cycle}

-- an admitted packet of the cycle never starts in time
pub record Late (s : Traffic) (es : List Entry) (p : Packet) : Type 0 where
  pub there : InFirstCycle s es p
  pub never : (t : ℕ) → StartsInTime s (λ _. es) (first_cycle s) p t → ⊥

-- of all late packets it has the least deadline, and of several such the smaller flow
pub record FirstLate (s : Traffic) (es : List Entry) (p : Packet) : Type 0 where
  pub late : Late s es p
  pub least : (r : Packet) → Late s es r → (deadline s p < deadline s r) ⊎ ((deadline s p ≡ deadline s r) × (p.flow ≤ r.flow))

-- why a list is refused: a rule that it breaks, or a packet that is not in time by its flow and number in the cycle
pub data Fault : Type 0 where
  broken : Broken → Fault
  not_in_time : (flow number : ℕ) → Fault

-- what a check says: nothing of an accepted list; else the first rule broken, or where none is the first late packet
abbrev pub Verdict : Traffic → List Entry → Option Fault → Type 0
Verdict s es None = Accepted s es
Verdict s es (Some (broken b)) = first_broken s es ≡ Some b
Verdict s es (Some (not_in_time i n)) = (first_broken s es ≡ None) × FirstLate s es (packet s i n)

-- no list has two verdicts
abbrev pub OneVerdict : Type 0
OneVerdict = (s : Traffic) → Fits s → (es : List Entry) (v w : Option Fault) → Verdict s es v → Verdict s es w → v ≡ w
