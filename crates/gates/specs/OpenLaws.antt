-- What holds of open gates. Assumes nothing.
use Rattle.std.specs.Prelude.{◌≡◌, ℕ, ◌+◌, ◌^◌, ◌<◌, true, List, ◌∷◌, ◌++◌, Some, nat_le}
use Rattle.gates.specs.declared.entry.Entry.{Entry}
use Rattle.gates.specs.Open.{opens, gates_at, open_at, stays_open, open_for}

-- queue q is the open one just where its gate is open and no other is
abbrev pub OneGateOpen : Type 0
OneGateOpen =
    (list : List Entry) (o q : ℕ) → gates_at list o < 2 ^ 8
    → (open_at list o ≡ Some q → (opens q (gates_at list o) ≡ true) × ((r : ℕ) → opens r (gates_at list o) ≡ true → r ≡ q))
    × (opens q (gates_at list o) ≡ true → ((r : ℕ) → opens r (gates_at list o) ≡ true → r ≡ q) → open_at list o ≡ Some q)

-- a gate stays open for e instants just where e is no more than the time that it stays open
abbrev pub StaysFor : Type 0
StaysFor = (list : List Entry) (q o e : ℕ) → stays_open list q o e ≡ nat_le e (open_for list q o)

-- two entries as one: the gates of the first for the time of both
abbrev pub merged : Entry → Entry → Entry
merged x y = record { gates = x.gates; interval = x.interval + y.interval; flow = x.flow; number = x.number }

-- neighbouring entries with the same gates are one stretch: at each instant, and for how long a gate stays open
abbrev pub OneStretch : Type 0
OneStretch =
    (front rest : List Entry) (x y : Entry) (o : ℕ) → x.gates ≡ y.gates
    → (gates_at (front ++ (x ∷ (y ∷ rest))) o ≡ gates_at (front ++ (merged x y ∷ rest)) o)
    × ((q : ℕ) → open_for (front ++ (x ∷ (y ∷ rest))) q o ≡ open_for (front ++ (merged x y ∷ rest)) q o)
