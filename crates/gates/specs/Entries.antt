-- Single entries of a gate list. Assumes nothing.
use Rattle.std.specs.Prelude.{ℕ, ◌^◌, ◌<◌, Bool, ◌&&◌, List, ◌==◌}
use Rattle.std.specs.List.{list_any}
use Rattle.gates.specs.declared.entry.Entry.{Entry}

-- the entry of a memory that is all zero
abbrev pub no_entry : Entry
no_entry = record { gates = 0; interval = 0; flow = 0; number = 0 }

-- the fields of an entry have 8, 32, 8 and 32 bits
abbrev pub FieldsFit : Entry → Type 0
FieldsFit e = (e.gates < 2 ^ 8) × (e.interval < 2 ^ 32) × (e.flow < 2 ^ 8) × (e.number < 2 ^ 32)

-- does the list name number n of flow i
abbrev pub names : List Entry → (i n : ℕ) → Bool
names es i n = list_any (λ e. e.flow == i && e.number == n) es
