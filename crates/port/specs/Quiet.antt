-- Instants at which nothing happens to a port. Assumes nothing.
use Rattle.std.specs.Prelude.{◌≡◌, ℕ, ◌+◌, ◌-◌, ◌%◌, ◌<◌, ◌≤◌, min, cond, if◌then◌else◌, List, Some, None, Option, nat_lt}
use Rattle.std.specs.List.{slice_get}
use Rattle.std.specs.Option.{is_some, option_map, unwrap_or}
use Rattle.traffic.specs.declared.packet.Packet.{Packet}
use Rattle.traffic.specs.declared.packet.Job.{Job}
use Rattle.traffic.specs.Packets.{Traffic}
use Rattle.gates.specs.declared.entry.Entry.{Entry}
use Rattle.gates.specs.Open.{entry_at, open_at, stays_open}
use Rattle.sending.specs.Sheet.{cycle}
use Rattle.sending.specs.Port.{State, idle}
use Rattle.port.specs.declared.station.Station.{Station}
use Rattle.port.specs.declared.lanes.Lanes.{Lanes}
use Rattle.port.specs.Lanes.{queue_at, nothing_waits}
use Rattle.port.specs.Station.{sheet_of, third_step}

-- from the clock up to r, which is not past the end, something holds at each instant
pub record Lasts (P : ℕ → Type 0) (clock end r : ℕ) : Type 0 where
  pub low : clock ≤ r
  pub high : r ≤ end
  pub each : (i : ℕ) → clock ≤ i → i < r → P i

-- the head of a source has not arrived by i
abbrev pub NotArrived : Option Packet → ℕ → Type 0
NotArrived None i = Unit {0}
NotArrived (Some p) i = i < p.arrival

-- no list comes into force at i
abbrev pub Unswitched : Traffic → Option (List Entry) → ℕ → Type 0
Unswitched s pending i = i % cycle s ≡ 0 → pending ≡ None

-- nothing starts at i
abbrev pub Unsent : Traffic → List Entry → State Packet → ℕ → Type 0
Unsent s es x i = third_step s es i (i % cycle s) x ≡ idle x

-- how long the gates stay as they are from an offset on, within its entry: 0 past the end of the list
abbrev pub steady : List Entry → ℕ → ℕ
steady es o = unwrap_or (option_map (λ a. a.1) (entry_at es o)) 0

-- of the first in queue q: it with its queue, if the gate stays open for it
abbrev pub fitting : List Entry → (q o : ℕ) → Option Job → Option (ℕ × Job)
fitting es q o None = None
fitting es q o (Some x) = if stays_open es q o x.wire then Some (q, x) else None

-- what can start at an offset, with its queue: the first behind the open gate, if there is one and the gate stays open for it
abbrev pub can_start : Lanes → List Entry → (o : ℕ) → Option ℕ → Option (ℕ × Job)
can_start l es o None = None
can_start l es o (Some q) = fitting es q o (slice_get (queue_at l q) 0)

-- how long nothing can start from the clock on, if nothing comes, as far as the end: to the end where nothing waits, else as long as the wire
-- is taken; not at all where something can start, else to the end of the list's entry or of the cycle
abbrev pub rests_until : Station → List Entry → (clock end : ℕ) → ℕ
rests_until x es clock end =
    let o = clock % cycle (sheet_of x) in
    cond (nothing_waits x.lanes) end
    (cond (nat_lt clock x.free) (min x.free end)
    (cond (is_some (can_start x.lanes es o (open_at es o))) clock
    (min (clock + min (steady es o) (cycle (sheet_of x) - o)) end)))
