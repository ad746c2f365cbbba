-- Which gates of a list are open when. Offsets count from the beginning of the list. Assumes nothing.
use Rattle.std.specs.Prelude.{ℕ, zero, suc, ◌+◌, ◌-◌, ◌/◌, ◌%◌, ◌^◌, Bool, true, cond, ◌&&◌, List, [], ◌∷◌, Some, None, Option, ◌==◌, nat_lt}
use Rattle.gates.specs.declared.entry.Entry.{Entry}

-- gate q is open: bit q of the gates
abbrev pub opens : ℕ → ℕ → Bool
opens q gates = gates / 2 ^ q % 2 == 1

-- the entry at an offset, and how much of its interval is left there: none past the end of the list
abbrev pub entry_at : List Entry → ℕ → Option (Entry × ℕ)
entry_at [] o = None
entry_at (x ∷ xs) o = cond (nat_lt o x.interval) (Some (x, x.interval - o)) (entry_at xs (o - x.interval))

-- the gates at an offset: none past the end of the list
abbrev pub gates_at : List Entry → ℕ → ℕ
gates_at [] o = 0
gates_at (x ∷ xs) o = cond (nat_lt o x.interval) x.gates (gates_at xs (o - x.interval))

-- the gate below n that is open alone, if one is
abbrev pub alone_below : ℕ → ℕ → Option ℕ
alone_below zero gates = None
alone_below (suc n) gates = cond (gates == 2 ^ n) (Some n) (alone_below n gates)

-- the queue whose gate is open alone, if one is
abbrev pub gate_of : ℕ → Option ℕ
gate_of gates = alone_below 8 gates

-- the queue whose gate is open alone at an offset: none where all are shut, and past the end of the list
abbrev pub open_at : List Entry → ℕ → Option ℕ
open_at list o = gate_of (gates_at list o)

-- gate q is open at each of the offsets o, .., o + e - 1
abbrev pub stays_open : List Entry → ℕ → ℕ → ℕ → Bool
stays_open list q o zero = true
stays_open list q o (suc e) = opens q (gates_at list o) && stays_open list q (o + 1) e

-- how long gate q stays open from the offset o on: 0 where it is shut
abbrev pub open_for : List Entry → ℕ → ℕ → ℕ
open_for [] q o = 0
open_for (x ∷ xs) q o =
    cond (nat_lt o x.interval) (cond (opens q x.gates) ((x.interval - o) + open_for xs q 0) 0)
    (open_for xs q (o - x.interval))
