-- The text of a gate list. Assumes nothing.
use Rattle.std.specs.Prelude.{◌≡◌, ℕ, List, [], ◌∷◌, ◌++◌, decimal}
use Rattle.std.specs.List.{AllByRecursion}
use Rattle.gates.specs.declared.entry.Entry.{Entry}
use Rattle.gates.specs.Entries.{FieldsFit}

-- a number in base ten, without leading zeros, and the byte behind it
abbrev pub field_text : ℕ → ℕ → List ℕ
field_text n mark = decimal n ++ (mark ∷ [])

-- the line of an entry: gates, interval, flow and number, a space between, byte 10 at the end
abbrev pub entry_text : Entry → List ℕ
entry_text e = field_text e.gates 32 ++ (field_text e.interval 32 ++ (field_text e.flow 32 ++ field_text e.number 10))

-- the text of a list: one line an entry
abbrev pub list_text : List Entry → List ℕ
list_text [] = []
list_text (e ∷ es) = entry_text e ++ list_text es

-- no two lists share a text
abbrev pub OneText : Type 0
OneText = (xs ys : List Entry) → AllByRecursion FieldsFit xs → AllByRecursion FieldsFit ys → list_text xs ≡ list_text ys → xs ≡ ys
