-- The text of a part of a list.
use Rattle.std.proofs.Common.{◌≡◌, ℕ, ◌+◌, ◌^◌, ◌<◌, ◌≤◌, List, [], ◌∷◌, ◌++◌, ◌⊎◌, ⊎_elim, length, get_or, take, drop, decimal, sym, refl, ap, ◌∙◌, arith}
use Rattle.std.proofs.lemmas.List.{append-nil, append_assoc, length-append, length_push, take_more, take-append-drop}
use Rattle.std.proofs.lemmas.Fmt.{length-decimal-le}
use Rattle.std.proofs.lemmas.List.Recursion.{is_sum_by}
use Rattle.std.specs.List.{sum_by}
use Rattle.gates.specs.declared.entry.Entry.{Entry}
use Rattle.gates.specs.Entries.{no_entry}
use Rattle.gates.specs.Text.{field_text, entry_text, list_text}
use Rattle.gates.specs.Writes.{WrittenAt}
use Rattle.gates.proofs.Writing.{written_room}

pub list_text-append : (xs ys : List Entry) → list_text (xs ++ ys) ≡ list_text xs ++ list_text ys
list_text-append [] ys = refl
list_text-append (x ∷ xs) ys = ap (λ l. entry_text x ++ l) (list_text-append xs ys) ∙ sym (append_assoc (entry_text x) (list_text xs) (list_text ys))

-- the text is as long as its lines together
pub length-list_text : (xs : List Entry) → length (list_text xs) ≡ sum_by (λ e. length (entry_text e)) xs
length-list_text = is_sum_by (λ xs. length (list_text xs)) (λ e. length (entry_text e)) refl (λ e es. length-append (entry_text e) (list_text es))

-- one line more
pub list_text_more : (xs : List Entry) (i : ℕ) → i < length xs → list_text (take (i + 1) xs) ≡ list_text (take i xs) ++ entry_text (get_or xs i no_entry)
list_text_more xs i h =
    let x = get_or xs i no_entry in
    ap list_text (take_more xs i no_entry h) ∙ list_text-append (take i xs) (x ∷ []) ∙ ap (λ l. list_text (take i xs) ++ l) (append-nil (entry_text x))

-- the first lines are no longer than all
pub length_front_text : (i : ℕ) (xs : List Entry) → length (list_text (take i xs)) ≤ length (list_text xs)
length_front_text i xs =
    let e : length (list_text xs) ≡ length (list_text (take i xs)) + length (list_text (drop i xs)) =
    ap (λ l. length (list_text l)) (sym (take-append-drop i xs)) ∙ ap length (list_text-append (take i xs) (drop i xs)) ∙ length-append (list_text (take i xs)) (list_text (drop i xs)) in
    omega arith

-- the room behind a field
pub field_room : (n mark at end more : ℕ) (m m' : List ℕ) → WrittenAt (field_text n mark) at end m m' → at + length (decimal n) + 1 + more ≤ length m → end + more ≤ length m'
field_room n mark at end more m m' w room = written_room _ at end more m m' w (omega (arith, length_push (decimal n) mark))

-- the number of bytes of a line
pub length-entry_text : (e : Entry) → length (entry_text e) ≡ length (decimal e.gates) + length (decimal e.interval) + (length (decimal e.flow) + length (decimal e.number)) + 4
length-entry_text e = simp length-append (omega arith)

-- a line has at most 30 bytes: a number of 8 bits has at most 3 digits, one of 32 bits at most 10
pub length-entry_text_le : (e : Entry) → e.gates < 2 ^ 8 → e.interval < 2 ^ 32 → e.flow < 2 ^ 8 → e.number < 2 ^ 32 → length (entry_text e) ≤ 30
length-entry_text_le e a b c d =
    let whole = length-entry_text e in
    let i = length-decimal-le 3 e.gates (omega arith) (omega arith) (omega arith) in
    let j = length-decimal-le 10 e.interval (omega arith) (omega arith) (omega arith) in
    let k = length-decimal-le 3 e.flow (omega arith) (omega arith) (omega arith) in
    let l = length-decimal-le 10 e.number (omega arith) (omega arith) (omega arith) in
    omega arith

-- room for a line, where there is room for it or for any line
pub line_room : (at size : ℕ) (e : Entry) → e.gates < 2 ^ 8 → e.interval < 2 ^ 32 → e.flow < 2 ^ 8 → e.number < 2 ^ 32 → (at + length (entry_text e) ≤ size) ⊎ (at + 30 ≤ size) → at + length (decimal e.gates) + length (decimal e.interval) + length (decimal e.flow) + length (decimal e.number) + 4 ≤ size
line_room at size e a b c d h =
    let whole = length-entry_text e in
    let few = length-entry_text_le e a b c d in
    ⊎_elim (λ (l : at + length (entry_text e) ≤ size). omega arith) (λ (l : at + 30 ≤ size). omega arith) h
