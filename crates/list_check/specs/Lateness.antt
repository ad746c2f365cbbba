-- Which packets are late, and which of them is due first. Assumes nothing.
use Rattle.std.specs.Prelude.{◌≡◌, ℕ, false, ◌⊎◌, List, Some, None, Option}
use Rattle.traffic.specs.declared.packet.Packet.{Packet}
use Rattle.traffic.specs.declared.packet.Job.{Job}
use Rattle.traffic.specs.Packets.{Traffic}
use Rattle.gates.specs.declared.entry.Entry.{Entry}
use Rattle.sending.specs.Sheet.{job_of, queue}
use Rattle.sending.specs.InTime.{StartsInTime, InFirstCycle, first_cycle}
use Rattle.list_check.specs.Serving.{Late}
use Rattle.list_check.specs.Service.{due_before}

-- p is sent in time
abbrev pub InTimeAt : Traffic → List Entry → Packet → Type 0
InTimeAt s es p = (t : ℕ) × StartsInTime s (λ _. es) (first_cycle s) p t

-- a late packet is known that is due no later than x
abbrev pub NoLater : Option Job → Job → Type 0
NoLater None x = ⊥
NoLater (Some w) x = due_before x w ≡ false

-- p is in time, or a late packet is known that is due no later
abbrev pub Covered : Traffic → List Entry → Option Job → Packet → Type 0
Covered s es worst p = InTimeAt s es p ⊎ NoLater worst (job_of s p)

-- the known packet is a late one of the cycle
abbrev pub KnownLate : Traffic → List Entry → Option Job → Type 0
KnownLate s es None = Unit {0}
KnownLate s es (Some w) = (p : Packet) × ((job_of s p ≡ w) × (InFirstCycle s es p × Late s es p))

-- after one more look: the known late packet is one, and what was covered still is
pub record Looked (s : Traffic) (es : List Entry) (q : ℕ) (before after : Option Job) : Type 0 where
  pub known : KnownLate s es after
  pub still : (p : Packet) → Covered s es before p → Covered s es after p
  pub covered : (p : Packet) → InFirstCycle s es p → queue s p ≡ q → Covered s es after p
