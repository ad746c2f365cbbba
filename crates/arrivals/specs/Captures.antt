-- What a capture takes, and where it refuses.
use Rattle.std.specs.Prelude.{◌≡◌, ℕ, ◌-◌, ◌≤◌, Bool, true, false, ◌&&◌, List, length, take, nat_le}
use Rattle.traffic.specs.declared.packet.Packet.{Packet}
use Rattle.arrivals.specs.Sources.{rises, Rises}

-- at most 4,096 packets, which rise strictly in delivery order
abbrev pub capturable : List Packet → Bool
capturable ps = nat_le (length ps) 4096 && rises ps

-- a capture of the table ps: all of it is to come, in order
pub record Captured (ps left : List Packet) : Type 0 where
  pub taken : capturable ps ≡ true
  pub whole : left ≡ ps
  pub ordered : Rises left

-- the record at the place, counted from 1, is the first with which the table cannot be captured
pub record FirstFault (ps : List Packet) (place : ℕ) : Type 0 where
  pub counts : 1 ≤ place
  pub within : place ≤ length ps
  pub before : capturable (take (place - 1) ps) ≡ true
  pub after : capturable (take place ps) ≡ false
