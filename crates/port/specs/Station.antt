-- What a port has at hand stands for, and what its steps leave. Assumes nothing.
use Rattle.std.specs.Prelude.{◌≡◌, ℕ, ◌≤◌, cond, List, [], ◌∷◌, length, Some, None, Option, nat_le}
use Rattle.traffic.specs.declared.packet.Packet.{Packet}
use Rattle.traffic.specs.Packets.{Traffic}
use Rattle.sheet.specs.Contents.{traffic_of}
use Rattle.gates.specs.declared.entry.Entry.{Entry}
use Rattle.gates.specs.Open.{open_at, stays_open}
use Rattle.sending.specs.Sheet.{wire}
use Rattle.sending.specs.Port.{State, Turn, send}
use Rattle.sending.specs.Calls.{Taken, take_in, tallied, takes, with_start}
use Rattle.port.specs.declared.station.Station.{Station}
use Rattle.port.specs.Counting.{counts_of}
use Rattle.port.specs.Lanes.{waiting_of}

-- what waits in each queue, and up to when the wire is taken
abbrev pub state_of : Station → State Packet
state_of x = record { waiting = waiting_of x.lanes; free = x.free }

-- what the sheet says
abbrev pub sheet_of : Station → Traffic
sheet_of x = traffic_of x.sheet.now

-- a packet was taken at t
pub record TookIn (es : List Entry) (t : ℕ) (p : Packet) (entry exit : Station) : Type 0 where
  pub sheet : exit.sheet ≡ entry.sheet
  pub state : state_of exit ≡ take_in (sheet_of entry) es t entry.last (state_of entry) p
  pub last : exit.last ≡ Some p
  pub counts : counts_of exit.counts ≡ tallied (sheet_of entry) es t entry.last (state_of entry) p (counts_of entry.counts)

-- the head of a source, if it has arrived by t
abbrev pub arrived_head : ℕ → List Packet → Option Packet
arrived_head t [] = None
arrived_head t (x ∷ xs) = cond (nat_le x.arrival t) (Some x) None

-- the source without it
abbrev pub behind_arrived : ℕ → List Packet → List Packet
behind_arrived t [] = []
behind_arrived t (x ∷ xs) = cond (nat_le x.arrival t) xs (x ∷ xs)

-- the second step at t, from what is at hand
abbrev pub taking : List Entry → ℕ → Station → List Packet → Taken
taking es t x source = takes (sheet_of x) es t (counts_of x.counts) x.last (state_of x) source

-- whatever comes at t, no queue has to hold more than 64 packets
abbrev pub Room : List Entry → ℕ → Station → Type 0
Room es t x = (source : List Packet) (q : ℕ) → length ((taking es t x source).state.waiting q) ≤ 64

-- every packet that had arrived by t was taken
pub record TookAll (es : List Entry) (t : ℕ) (source : List Packet) (entry exit : Station) (rest : List Packet) : Type 0 where
  pub sheet : exit.sheet ≡ entry.sheet
  pub state : state_of exit ≡ (taking es t entry source).state
  pub last : exit.last ≡ (taking es t entry source).last
  pub counts : counts_of exit.counts ≡ (taking es t entry source).counts
  pub left : rest ≡ (taking es t entry source).left

-- the third step at t, where the list is at the offset o
abbrev pub third_step : Traffic → List Entry → (t o : ℕ) → State Packet → Turn Packet
third_step s es t o x = send (wire s) (λ q e. stays_open es q o e) t (open_at es o) x

-- the third step was done
pub record Sent (es : List Entry) (t o : ℕ) (r : Option Packet) (entry exit : Station) : Type 0 where
  pub sheet : exit.sheet ≡ entry.sheet
  pub start : r ≡ (third_step (sheet_of entry) es t o (state_of entry)).start
  pub state : state_of exit ≡ (third_step (sheet_of entry) es t o (state_of entry)).after
  pub counts : counts_of exit.counts ≡ with_start (sheet_of entry) r (counts_of entry.counts)
  pub last : exit.last ≡ entry.last
