-- The windows so far, and what is known of them. Assumes nothing.
use Rattle.std.specs.Prelude.{◌≡◌, ℕ, ◌<◌, ◌≤◌, List, length, take, drop}
use Rattle.std.specs.List.{AllByRecursion}
use Rattle.traffic.specs.declared.packet.Job.{Job}
use Rattle.search.specs.declared.window.Window.{Window}
use Rattle.search.specs.Windows.{Fits, Apart, end, last_end, first_start, latest}
use Rattle.search.specs.Drawn.{drawn}
use Rattle.search.specs.Search.{most_entries}

-- the windows so far, and how long the cycle is
pub record Plan : Type 0 where
  pub windows : List Window
  pub long : ℕ

-- the numbers of a packet fit a window
pub record FitsJob (x : Job) : Type 0 where
  pub early : x.deadline ≤ latest
  pub queued : x.queue < 8
  pub numbered : x.number ≤ 1000000000
  pub some_wire : 0 < x.wire

-- the first n windows of the memory stand one after the other, and the list drawn from them has so many entries
pub record Tallied (long : ℕ) (ms : List Window) (n entries : ℕ) : Type 0 where
  pub memory : most_entries ≤ length ms
  pub short : long ≤ latest
  pub within : n ≤ length ms
  pub fit : AllByRecursion Fits (take n ms)
  pub apart : Apart 0 (take n ms) latest
  pub count : entries ≡ length (drawn 0 (take n ms) long)
  pub few : entries ≤ most_entries

-- a window goes to place i: those in front end by its start, and those behind start at its end or later
pub record GoesAt (i : ℕ) (w : Window) (ws : List Window) : Type 0 where
  pub fits : FitsJob w.packet
  pub in_time : end w ≤ w.packet.deadline
  pub within : i ≤ length ws
  pub front : last_end 0 (take i ws) ≤ w.start
  pub back : end w ≤ first_start (drop i ws) latest
