-- Where an optional packet may be sent. Assumes nothing.
use Rattle.std.specs.Prelude.{◌≡◌, ℕ, ◌+◌, ◌<◌, ◌≤◌, max, List, length, take, drop}
use Rattle.std.specs.List.{AllByRecursion}
use Rattle.traffic.specs.declared.packet.Job.{Job}
use Rattle.search.specs.declared.window.Window.{Window}
use Rattle.search.specs.declared.trials.Room.{Room}
use Rattle.search.specs.declared.trials.Trials.{Trials}
use Rattle.search.specs.Windows.{end, last_end, first_start, latest}
use Rattle.search.specs.Search.{room, admitted_end}

-- the window ends by the instant t
abbrev pub EndsBy : ℕ → Window → Type 0
EndsBy t w = end w ≤ t

-- the first n windows end by the instant t
pub record Passed (t n : ℕ) (ws : List Window) : Type 0 where
  pub within : n ≤ length ws
  pub ended : AllByRecursion (EndsBy t) (take n ws)

-- the packet's room from the instant low on, behind the first n windows
pub record HasRoom (low n : ℕ) (x : Job) (ws : List Window) (m : Room) : Type 0 where
  pub start : m.start ≡ room low x.wire (drop n ws)
  pub in_time : m.start + x.wire ≤ x.deadline
  pub within : m.place ≤ length ws
  pub front : last_end 0 (take m.place ws) ≤ m.start
  pub back : m.start + x.wire ≤ first_start (drop m.place ws) latest
  pub onward : n ≤ m.place

-- from there on it would be late
abbrev pub NoRoom : ℕ → ℕ → Job → List Window → Type 0
NoRoom low n x ws = x.deadline < room low x.wire (drop n ws) + x.wire

-- the trials so far, of packets that arrived by a
pub record Tried (a : ℕ) (ws : List Window) (t : Trials) : Type 0 where
  pub last : t.last ≡ admitted_end ws
  pub passed : Passed (max a t.last) t.passed ws
