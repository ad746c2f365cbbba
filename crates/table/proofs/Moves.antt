-- Memory whose records move by one place: back, to make room, and up, to close the first place.
use Rattle.std.proofs.Common.{◌≡◌, ℕ, ◌+◌, ◌-◌, ◌<◌, ◌≤◌, min, Bool, List, Some, [], ◌∷◌, ◌++◌, length, get_or, length-take, take, drop, set, sym, ap, ◌∙◌, append_assoc, arith}
use Rattle.std.proofs.lemmas.List.{take_min, take_at, drop_at, take_more, set_at, length-take-le, drop-take, take-take, length-drop}
use Rattle.std.proofs.lemmas.Bool.{and_parts}
use Rattle.std.specs.List.{copy_within, slice_get}
use Rattle.std.proofs.lemmas.Option.{slice_get_within}
use Rattle.table.specs.Order.{none_before, in_order}
use Rattle.table.specs.Calls.{Taken}

-- x is put at the place `at` of the first len records, those behind it moving one place back
pub put_at : {X : Type 0} (e : List X) (len at : ℕ) (x : X) → len < length e → at ≤ len → set (copy_within e at len (at + 1)) at x ≡ (take at (take len e) ++ (x ∷ drop at (take len e))) ++ drop (len + 1) e
put_at e len at x room within =
    let more : take (at + 1) e ≡ take at e ++ (get_or e at x ∷ []) = take_more e at x (omega arith) in
    let all : at + (len - at) ≡ len = omega arith in
    let moved : take (len - at) (drop at e) ≡ drop at (take len e) = sym (drop-take at (len - at) e) ∙ ap (λ k. drop at (take k e)) all in
    let end : (at + 1) + (len - at) ≡ len + 1 = omega arith in
    let front : take at (take len e) ≡ take at e = take-take at len e within in
    let long : length (take at e) ≡ at = length-take-le at e (omega arith) in
    rw (more, moved, end, front) (simp append_assoc (set_at (take at e) (get_or e at x) _ x at long))

-- the first record, and the others
first_rest : {X : Type 0} (xs : List X) (x : X) → Some x ≡ slice_get xs 0 → xs ≡ x ∷ drop 1 xs
first_rest [] x h = cc
first_rest (y ∷ ys) x h = cc

-- what `take_first` ensures, from the memory that it leaves
pub taken_from : {X : Type 0} (b : X → X → Bool) (x : X) (len n : ℕ) (e exit : List X) → Some x ≡ slice_get (take len e) 0 → n ≡ min len (length e) → exit ≡ copy_within e 1 n 0 → Taken b x len e exit (n - 1)
taken_from b x len n e exit read is left =
    let i = n - 1 in
    let some : 0 < length (take len e) = slice_get_within (take len e) 0 x (sym read) in
    let more : n ≡ 1 + i = omega (arith, length-take len e) in
    let long : length (take i (drop 1 e)) ≡ i = length-take-le i (drop 1 e) (simp length-drop (omega arith)) in
    let same : 0 + i ≡ i = omega arith in
    let moved : exit ≡ take i (drop 1 e) ++ drop i e = left ∙ rw same in
    let rest : take i exit ≡ take i (drop 1 e) = ap (take i) moved ∙ take_at _ _ _ long in
    let cut : drop 1 (take len e) ≡ take i (drop 1 e) = ap (drop 1) (sym (take_min len e) ∙ ap (λ k. take k e) (sym is ∙ more)) ∙ drop-take 1 i e in
    let held : take len e ≡ x ∷ take i exit = first_rest (take len e) x read ∙ ap (λ l. x ∷ l) (cut ∙ sym rest) in
    record {
      count = omega arith;
      held = held;
      beyond = ap (drop i) moved ∙ drop_at _ _ _ long;
      ordered = λ h. (and_parts (none_before b x (take i exit)) (in_order b (take i exit)) (sym (ap (in_order b) held) ∙ h)).1;
    }
