-- The trial start is the least one. Assumes nothing.
use Rattle.std.proofs.Common.{◌+◌, ◌≤◌, max, leb, ◌⊎◌, [], ◌∷◌, inl, inr, ⊎_elim, arith}
use Rattle.std.proofs.lemmas.Bool.{cond_both, leb-true, leb-false}
use Rattle.std.proofs.ByRecursion.{All-weaker}
use Rattle.search.specs.Windows.{end}
use Rattle.search.specs.Search.{room}
use Rattle.search_laws.specs.Laws.{LeastStart, LeastRoom}
use Rattle.search_laws.proofs.Lists.{apart_after}

pub least-room : LeastRoom
least-room s e a b [] h = record { from = omega arith; clear = tt; least = λ r k _. k }
least-room s e a b (w ∷ ws) h =
    let ih = least-room (max s (end w)) e (end w) b ws h.1 in
    cond_both (leb (s + e) w.start) s (room (max s (end w)) e ws) (LeastStart s e (w ∷ ws))
    (λ on.
    let k = leb-true _ _ on in
    let beyond = apart_after (s + e) (end w) b ws (omega arith) h.1 in
    record { from = omega arith; clear = (inl k, All-weaker (λ v. s + e ≤ v.start) (λ v. (s + e ≤ v.start) ⊎ (end v ≤ s)) (λ v x. inl x) ws beyond); least = λ r k _. k })
    (λ off.
    let k = leb-false _ _ off in
    record {
      from = let f = ih.from in omega arith;
      clear = (inr (let f = ih.from in omega arith), ih.clear);
      least = λ r l c. ih.least r (⊎_elim (λ (x : r + e ≤ w.start). omega arith) (λ (x : end w ≤ r). omega arith) c.0) c.1;
    })
