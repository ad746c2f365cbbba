-- The list drawn from windows. Assumes nothing.
use Rattle.std.specs.Prelude.{◌≡◌, ℕ, ◌+◌, ◌-◌, ◌^◌, cond, List, [], ◌∷◌, ◌++◌, length, take, drop, ◌==◌, nat_lt}
use Rattle.gates.specs.declared.entry.Entry.{Entry}
use Rattle.search.specs.declared.window.Window.{Window}
use Rattle.search.specs.Windows.{end}

-- an entry with every gate shut, for the stretch from a to b unless that is empty
abbrev pub closed : ℕ → ℕ → List Entry → List Entry
closed a b rest = cond (nat_lt a b) (record { gates = 0; interval = b - a; flow = 0; number = 0 } ∷ rest) rest

-- the entry of a window: an optional packet is named
abbrev pub entry : Window → Entry
entry w = record { gates = 2 ^ w.packet.queue; interval = w.packet.wire; flow = cond (w.packet.queue == 0) w.packet.flow 0; number = cond (w.packet.queue == 0) w.packet.number 0 }

-- the list from the instant a to b: one entry a window, one closed entry for each non-empty stretch before, between and after
abbrev pub drawn : ℕ → List Window → ℕ → List Entry
drawn a [] b = closed a b []
drawn a (w ∷ ws) b = closed a w.start (entry w ∷ drawn (end w) ws b)

-- a window at a place among the others
abbrev pub inserted_at : ℕ → Window → List Window → List Window
inserted_at i w ws = take i ws ++ (w ∷ drop i ws)

-- these entries were written from n on; what stood in front and behind stayed
pub record Wrote (es : List Entry) (n m : ℕ) (before after : List Entry) : Type 0 where
  pub count : m ≡ n + length es
  pub front : take m after ≡ take n before ++ es
  pub behind : drop m after ≡ drop m before
