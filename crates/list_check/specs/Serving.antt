-- When the packets of a queue are sent, one after another. Assumes nothing.
use Rattle.std.specs.Prelude.{◌≡◌, ℕ, ◌+◌, ◌<◌, ◌≤◌, max, true, false, ◌⊎◌, List, Some, Option}
use Rattle.std.specs.List.{AllByRecursion}
use Rattle.traffic.specs.declared.packet.Packet.{Packet}
use Rattle.traffic.specs.Packets.{Traffic}
use Rattle.gates.specs.declared.entry.Entry.{Entry}
use Rattle.gates.specs.Open.{stays_open}
use Rattle.sending.specs.Sheet.{Fits, cycle, deadline, wire, queue, waits_before}
use Rattle.sending.specs.Rules.{total, well_gated}
use Rattle.sending.specs.Port.{starts}
use Rattle.sending.specs.InTime.{StartsInTime, InFirstCycle, first_cycle}

-- what starts at t, from an empty port, with the packets of one cycle and no others
abbrev pub sent_at : Traffic → List Entry → ℕ → Option Packet
sent_at s es = starts s (λ _. es) (first_cycle s)

-- t is the first instant from an instant on at which gate q stays open for e instants
pub record FirstFit (es : List Entry) (q from e t : ℕ) : Type 0 where
  pub onward : from ≤ t
  pub stays : stays_open es q t e ≡ true
  pub first : (u : ℕ) → from ≤ u → u < t → stays_open es q u e ≡ false

-- there is none
abbrev pub NoFit : List Entry → (q from e : ℕ) → Type 0
NoFit es q from e = (u : ℕ) → from ≤ u → stays_open es q u e ≡ false

-- r is sent, and ends by an instant
pub record SentBy (s : Traffic) (es : List Entry) (r : Packet) (free : ℕ) : Type 0 where
  pub start : ℕ
  pub there : sent_at s es start ≡ Some r
  pub ends : start + wire s r ≤ free

-- r is in front of p in its queue
pub record InFront (s : Traffic) (es : List Entry) (p r : Packet) : Type 0 where
  pub early : InFirstCycle s es r
  pub same_queue : queue s r ≡ queue s p
  pub before : waits_before s r p ≡ true

-- all that are in front of p in its queue are sent by the instant `free`, at which the last of them ends
pub record Cleared (s : Traffic) (es : List Entry) (p : Packet) (free : ℕ) : Type 0 where
  pub all_sent : (r : Packet) → InFront s es p r → SentBy s es r free
  pub last_ends : (free ≡ 0) ⊎ ((r : Packet) × (u : ℕ) × InFront s es p r × (sent_at s es u ≡ Some r) × (u + wire s r ≡ free))

-- the list takes the cycle, and no entry opens two gates
pub record Gated (s : Traffic) (es : List Entry) : Type 0 where
  pub fits : Fits s
  pub whole : total es ≡ cycle s
  pub gating : AllByRecursion (λ e. well_gated e ≡ true) es

-- a packet is sent at its first fit, once it has arrived and those in front of it in its queue have ended
abbrev pub SentAtFirstFit : Type 0
SentAtFirstFit =
    (s : Traffic) (es : List Entry) → Gated s es → (p : Packet) → InFirstCycle s es p → (free t : ℕ) → Cleared s es p free →
    FirstFit es (queue s p) (max p.arrival free) (wire s p) t → sent_at s es t ≡ Some p

-- p is late: it is not sent in time
abbrev pub Late : Traffic → List Entry → Packet → Type 0
Late s es p = (t : ℕ) → StartsInTime s (λ _. es) (first_cycle s) p t → ⊥

-- a packet is late where its first fit ends behind its deadline
abbrev pub LateFit : Type 0
LateFit =
    (s : Traffic) (es : List Entry) → Gated s es → (p : Packet) → InFirstCycle s es p → (free t : ℕ) → Cleared s es p free →
    FirstFit es (queue s p) (max p.arrival free) (wire s p) t → deadline s p < t + wire s p → Late s es p

-- and where it has none
abbrev pub LateWithoutFit : Type 0
LateWithoutFit =
    (s : Traffic) (es : List Entry) → Gated s es → (p : Packet) → InFirstCycle s es p → (free : ℕ) → Cleared s es p free →
    NoFit es (queue s p) (max p.arrival free) (wire s p) → Late s es p

-- behind a late packet those with no later deadline are late
abbrev pub LateBehind : Type 0
LateBehind =
    (s : Traffic) (es : List Entry) → Gated s es → (p r : Packet) → InFront s es p r → Late s es r → deadline s p ≤ deadline s r → Late s es p
