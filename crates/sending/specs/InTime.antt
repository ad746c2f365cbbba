-- When a list sends every packet in time, and which lists are accepted. Assumes nothing.
use Rattle.std.specs.Prelude.{◌≡◌, ℕ, zero, suc, ◌+◌, ◌<◌, ◌≤◌, Bool, true, false, not, ◌&&◌, ◌||◌, List, length, Some, None, Option, nat_lt}
use Rattle.traffic.specs.declared.packet.Packet.{Packet}
use Rattle.traffic.specs.Packets.{Traffic, in_time}
use Rattle.cycle.specs.Cycle.{packets_in}
use Rattle.gates.specs.declared.entry.Entry.{Entry}
use Rattle.gates.specs.Open.{open_at, stays_open}
use Rattle.sending.specs.Sheet.{Fits, OfSheet, cycle, flow, packet, job_of, wire, deadline, queue, waits_before}
use Rattle.sending.specs.Rules.{total, admitted, Rules, Broken, first_broken}
use Rattle.sending.specs.Port.{starts, sent_whole}

-- the packet starts at t, not before its arrival, and ends in time
pub record StartsInTime (s : Traffic) (in_force : ℕ → List Entry) (up : Packet → Bool) (p : Packet) (t : ℕ) : Type 0 where
  pub there : starts s in_force up t ≡ Some p
  pub arrived : p.arrival ≤ t
  pub ends : in_time (job_of s p) t ≡ true

-- it arrives in the first cycle
abbrev pub first_cycle : Traffic → Packet → Bool
first_cycle s p = nat_lt p.arrival (cycle s)

-- a packet of the first cycle that the list admits
pub record InFirstCycle (s : Traffic) (es : List Entry) (p : Packet) : Type 0 where
  pub ours : OfSheet s p
  pub early : p.arrival < cycle s
  pub let_in : admitted s es p ≡ true

-- from an empty port, each mandatory or admitted packet of one cycle ends in time, with no others
abbrev pub InTime : Traffic → List Entry → Type 0
InTime s es = (p : Packet) → InFirstCycle s es p → (t : ℕ) × StartsInTime s (λ _. es) (first_cycle s) p t

-- an accepted list keeps the list rules and sends every packet in time
pub record Accepted (s : Traffic) (es : List Entry) : Type 0 where
  pub rules : Rules s es
  pub in_time : InTime s es

-- is packet j of flow i sent in time, over one cycle from an empty port, if the list admits it
abbrev pub packet_in_time : Traffic → List Entry → (i j : ℕ) → Bool
packet_in_time s es i j = not (admitted s es (packet s i j)) || sent_whole s (λ _. es) (first_cycle s) (packet s i j) (deadline s (packet s i j))

-- are the first n packets of flow i
abbrev pub flow_in_time : Traffic → List Entry → (i n : ℕ) → Bool
flow_in_time s es i zero = true
flow_in_time s es i (suc n) = packet_in_time s es i (suc n) && flow_in_time s es i n

-- are the packets of the cycle of the first n flows
abbrev pub flows_in_time : Traffic → List Entry → (n : ℕ) → Bool
flows_in_time s es zero = true
flows_in_time s es (suc n) = flow_in_time s es (suc n) (packets_in (cycle s) (flow s (suc n))) && flows_in_time s es n

-- no rule
abbrev pub unbroken : Option Broken → Bool
unbroken None = true
unbroken (Some b) = false

-- is a list accepted: it breaks no rule, and sends every packet in time
abbrev pub accepts : Traffic → List Entry → Bool
accepts s es = unbroken (first_broken s es) && flows_in_time s es (length s.flows)

-- this test tells the accepted lists
abbrev pub AcceptsExactly : Type 0
AcceptsExactly = (s : Traffic) → Fits s → (es : List Entry) → (accepts s es ≡ true → Accepted s es) × (Accepted s es → accepts s es ≡ true)

-- a window for each admitted packet of the cycle: after its arrival, in time, under its open gate, behind those before it in its queue
pub record Windows (s : Traffic) (es : List Entry) (window : Packet → ℕ) : Type 0 where
  pub arrived : (p : Packet) → InFirstCycle s es p → p.arrival ≤ window p
  pub ends : (p : Packet) → InFirstCycle s es p → in_time (job_of s p) (window p) ≡ true
  pub opens : (p : Packet) → InFirstCycle s es p → open_at es (window p) ≡ Some (queue s p)
  pub stays : (p : Packet) → InFirstCycle s es p → stays_open es (queue s p) (window p) (wire s p) ≡ true
  pub apart : (p r : Packet) → InFirstCycle s es p → InFirstCycle s es r → queue s p ≡ queue s r → waits_before s p r ≡ true → window p + wire s p ≤ window r

-- a list with such windows sends every packet in time
abbrev pub WindowsInTime : Type 0
WindowsInTime = (s : Traffic) → Fits s → (es : List Entry) → total es ≡ cycle s → (window : Packet → ℕ) → Windows s es window → InTime s es
