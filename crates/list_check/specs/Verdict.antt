-- When a list is accepted for a sheet, and why it is not. Assumes nothing.
use Rattle.std.specs.Prelude.{◌≡◌, ℕ, ◌<◌, true, List, length, Some}
use Rattle.traffic.specs.declared.packet.Packet.{Packet}
use Rattle.traffic.specs.Packets.{Traffic}
use Rattle.gates.specs.declared.entry.Entry.{Entry}
use Rattle.sending.specs.Sheet.{job_of}
use Rattle.sending.specs.Rules.{Rules, wrong_size, wrong_gates, wrong_name, wrong_total, first_broken}
use Rattle.sending.specs.InTime.{InFirstCycle}
use Rattle.list_check.specs.declared.fault.CheckFault.{CheckFault}
use Rattle.list_check.specs.declared.fault.CheckFault.TheVariants.{EmptySheet, Size, Gates, Name, Total, Late as late_packet}
use Rattle.list_check.specs.Serving.{Late}
use Rattle.list_check.specs.Service.{due_before}
use Rattle.list_check.specs.Lateness.{InTimeAt}

-- of the packets of the cycle that are not in time, the one with the least deadline, then the smaller flow
pub record LeastLate (s : Traffic) (es : List Entry) (p : Packet) : Type 0 where
  pub early : InFirstCycle s es p
  pub late : Late s es p
  pub first : (r : Packet) → InFirstCycle s es r → due_before (job_of s r) (job_of s p) ≡ true → InTimeAt s es r

-- that packet is number n of flow i in the cycle
abbrev pub LateAt : Traffic → List Entry → (i n : ℕ) → Type 0
LateAt s es i n = (p : Packet) × ((p.flow ≡ i) × ((p.number ≡ n) × LeastLate s es p))

-- the sheet has flows
abbrev pub HasFlows : Traffic → Type 0
HasFlows s = 0 < length s.flows

-- why a list is not accepted: the sheet has no flows, or the first rule that the list breaks, or, where it keeps them, a packet that is not in time
abbrev pub Refused : Traffic → List Entry → CheckFault → Type 0
Refused s es EmptySheet = length s.flows ≡ 0
Refused s es Size = HasFlows s × (first_broken s es ≡ Some wrong_size)
Refused s es (Gates place) = HasFlows s × (first_broken s es ≡ Some (wrong_gates place))
Refused s es (Name place) = HasFlows s × (first_broken s es ≡ Some (wrong_name place))
Refused s es Total = HasFlows s × (first_broken s es ≡ Some wrong_total)
Refused s es (late_packet i n) = HasFlows s × (Rules s es × LateAt s es i n)
