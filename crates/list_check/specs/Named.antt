-- The greatest number named of each flow. Assumes nothing.
use Rattle.std.specs.Prelude.{ℕ, Bool, List, nat_le, slice_index}
use Rattle.std.specs.List.{list_all}
use Rattle.gates.specs.declared.entry.Entry.{Entry}

-- no entry of the front has a number above the one kept for its flow
abbrev pub known : List ℕ → List Entry → Bool
known latest front = list_all (λ e. nat_le e.number (slice_index latest e.flow)) front
