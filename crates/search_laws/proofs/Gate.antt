-- The list drawn from windows. Assumes nothing.
use Rattle.std.proofs.Common.{◌≡◌, ℕ, ◌+◌, ◌-◌, ◌<◌, ◌≤◌, ltb, List, [], ◌∷◌, length, sym, refl, ◌∙◌, arith}
use Rattle.std.proofs.lemmas.Bool.{cond_both, both_ways, ltb-true, ltb-false}
use Rattle.std.specs.List.{AllByRecursion}
use Rattle.search.specs.declared.window.Window.{Window}
use Rattle.search.specs.Windows.{end, Apart}
use Rattle.gates.specs.declared.entry.Entry.{Entry}
use Rattle.gates.proofs.Bits.{one_gate}
use Rattle.gates.proofs.Stays.{zero_shut}
use Rattle.search.specs.Drawn.{closed, entry, drawn}
use Rattle.search_laws.specs.Laws.{whole, Sound}

-- the lengths add up
whole-closed : (a c : ℕ) (rest : List Entry) → a ≤ c → whole (closed a c rest) ≡ (c - a) + whole rest
whole-closed a c rest h = cond_both (ltb a c) _ rest (λ l. whole l ≡ (c - a) + whole rest) (λ on. refl) (λ off. let k = ltb-false _ _ off in omega arith)

pub whole-drawn : (a b : ℕ) (ws : List Window) → Apart a ws b → a + whole (drawn a ws b) ≡ b
whole-drawn a b [] s = let e = whole-closed a b [] s in omega arith
whole-drawn a b (w ∷ ws) s =
    let e = whole-closed a w.start (entry w ∷ drawn (end w) ws b) s.0 in
    let r = whole-drawn (end w) b ws s.1 in
    omega arith

sound_closed : (a c : ℕ) (rest : List Entry) → AllByRecursion Sound rest → AllByRecursion Sound (closed a c rest)
sound_closed a c rest r =
    cond_both (ltb a c) _ rest (AllByRecursion Sound)
    (λ on. let k = ltb-true _ _ on in ((omega arith, λ q _ h _. absurd (both_ways _ (zero_shut q) h)), r))
    (λ off. r)

pub sound_drawn : (a b : ℕ) (ws : List Window) → AllByRecursion (λ w. 0 < w.packet.wire) ws → AllByRecursion Sound (drawn a ws b)
sound_drawn a b [] s = sound_closed a b [] tt
sound_drawn a b (w ∷ ws) s =
    sound_closed a w.start _ ((s.0, λ q r h k. one_gate q _ h ∙ sym (one_gate r _ k)), sound_drawn (end w) b ws s.1)

pub some_entry : (list : List Entry) → 0 < whole list → 0 < length list
some_entry [] h = h
some_entry (x ∷ xs) h = omega arith
