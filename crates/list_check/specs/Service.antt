-- How a queue is served, packet by packet. Assumes nothing.
use Rattle.std.specs.Prelude.{◌≡◌, ℕ, ◌+◌, ◌<◌, ◌≤◌, max, Bool, false, cond, ◌⊎◌, List, Some, None, Option, nat_le, nat_lt}
use Rattle.traffic.specs.declared.packet.Job.{Job}
use Rattle.traffic.specs.Orders.{then_by}
use Rattle.gates.specs.declared.entry.Entry.{Entry}
use Rattle.list_check.specs.Serving.{FirstFit, NoFit}

-- a packet of a cycle that is no longer than a second
pub record Bounded (x : Job) : Type 0 where
  pub arrives : x.arrival ≤ 1000000000
  pub due : x.deadline ≤ 2000000000
  pub some : 0 < x.wire
  pub counted : x.number ≤ 1000000000

-- behind the instant a the packet is sent at its first fit t, and ends at b, in time
pub record Sends (es : List Entry) (x : Job) (a b t : ℕ) : Type 0 where
  pub fit : FirstFit es x.queue (max x.arrival a) x.wire t
  pub ends : t + x.wire ≤ x.deadline
  pub free : b ≡ t + x.wire

-- it has no fit, or ends too late
abbrev pub Misses : List Entry → Job → ℕ → Type 0
Misses es x free =
    NoFit es x.queue (max x.arrival free) x.wire
    ⊎ ((t : ℕ) × (FirstFit es x.queue (max x.arrival free) x.wire t × (x.deadline < t + x.wire)))

-- x is due before y: the earlier deadline, then the smaller flow
abbrev pub due_before : Job → Job → Bool
due_before x y = then_by x.deadline y.deadline (nat_lt x.flow y.flow)

-- of the late packet that was due first and another, the one that is
abbrev pub least_due : Option Job → Job → Job
least_due None x = x
least_due (Some w) x = cond (due_before x w) x w

-- x arrives when that packet is due, or later
abbrev pub past : Option Job → Job → Bool
past None x = false
past (Some w) x = nat_le w.deadline x.arrival
