-- Packets on the wire. Assumes nothing.
use Rattle.std.specs.Prelude.{ℕ, ◌+◌, ◌<◌, ◌≤◌, Bool, List, [], ◌∷◌, nat_lt}
use Rattle.search.specs.declared.window.Window.{Window}

-- the first instant after it
abbrev pub end : Window → ℕ
end w = w.start + w.packet.wire

-- the order of windows
abbrev pub starts_before : Window → Window → Bool
starts_before v w = nat_lt v.start w.start

-- one after the other, none before the instant a and none beyond b
abbrev pub Apart : ℕ → List Window → ℕ → Type 0
Apart a [] b = a ≤ b
Apart a (w ∷ ws) b = (a ≤ w.start) × Apart (end w) ws b

-- where the last of the windows ends, or a where there is none
abbrev pub last_end : ℕ → List Window → ℕ
last_end a [] = a
last_end a (w ∷ ws) = last_end (end w) ws

-- where the first of the windows starts, or b where there is none
abbrev pub first_start : List Window → ℕ → ℕ
first_start [] b = b
first_start (w ∷ ws) b = w.start

-- no window ends past this instant: twice the longest cycle
abbrev pub latest : ℕ
latest = 2000000000

-- the numbers of a window fit an entry
pub record Fits (w : Window) : Type 0 where
  pub early : end w ≤ latest
  pub queued : w.packet.queue < 8
  pub numbered : w.packet.number ≤ 1000000000
