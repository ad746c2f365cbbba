-- The walk by what is left of the queues. Assumes nothing.
use Rattle.std.proofs.Common.{◌≡◌, ℕ, zero, suc, ◌<◌, ◌≤◌, Bool, cond, List, [], ◌∷◌, length, drop, Some, None, Ok, Err, Option, Result, sym, refl, ap, ◌∙◌, subst, ⊎_elim, arith}
use Rattle.std.proofs.lemmas.Bool.{cases_eq, eq-eqb, ne_eqb}
use Rattle.traffic.specs.declared.packet.Job.{Job}
use Rattle.search.specs.declared.window.Window.{Window}
use Rattle.search.specs.declared.fault.SearchFault.{SearchFault}
use Rattle.search.specs.Faults.{InWalk}
use Rattle.search.specs.Windows.{end}
use Rattle.search.specs.Drawn.{drawn}
use Rattle.search.proofs.Inserts.{placed-err}
use Rattle.search.specs.Search.{firsts, next, without, placed_next, and_then, turn, walked, walked_over, count, admitted, Cycle, planned_list}

-- the walk hangs on the queues 1 to 7 alone
abbrev pub Like : (ℕ → List Job) → (ℕ → List Job) → Type 0
Like f g = (q : ℕ) → 0 < q → q ≤ 7 → f q ≡ g q

firsts_like : (f g : ℕ → List Job) (n : ℕ) → n ≤ 7 → Like f g → firsts f n ≡ firsts g n
firsts_like f g zero h e = refl
firsts_like f g (suc n) h e = let a = e (suc n) (omega arith) h in let b = firsts_like f g n (omega arith) e in rw (a, b)

count_like : (f g : ℕ → List Job) (n : ℕ) → n ≤ 7 → Like f g → count f n ≡ count g n
count_like f g zero h e = refl
count_like f g (suc n) h e = let a = e (suc n) (omega arith) h in let b = count_like f g n (omega arith) e in rw (a, b)

without_like : (f g : ℕ → List Job) (q : ℕ) → Like f g → Like (without q f) (without q g)
without_like f g q e r h k = let a = e r h k in rw a

pub walk_like : (before : Job → Job → Bool) (long n t : ℕ) (f g : ℕ → List Job) (ws : List Window) → Like f g → walked before long n t f ws ≡ walked before long n t g ws
walk_like before long zero t f g ws e = refl
walk_like before long (suc n) t f g ws e =
    ap (λ (l : List Job). turn (next before t l) ws (on f)) (firsts_like f g 7 (omega arith) e)
    ∙ ap (turn (next before t (firsts g 7)) ws) (λ i w. and_then (placed_next long ws w) (λ zs. walk_like before long n (end w) (without w.packet.queue f) (without w.packet.queue g) zs (without_like f g w.packet.queue e) i))
  where
    on : (ℕ → List Job) → Window → Result (List Window) SearchFault
    on l w = and_then (placed_next long ws w) (walked before long n (end w) (without w.packet.queue l))

pub walked_like : (before : Job → Job → Bool) (long t : ℕ) (f g : ℕ → List Job) (ws : List Window) → Like f g → walked_over before long t f ws ≡ walked_over before long t g ws
walked_like before long t f g ws e = ap (λ (n : ℕ). walked before long n t f ws) (count_like f g 7 (omega arith) e) ∙ walk_like before long (count g 7) t f g ws e

count_other : (f : ℕ → List Job) (q n : ℕ) → n < q → count (without q f) n ≡ count f n
count_other f q zero h = refl
count_other f q (suc m) h =
    let here : without q f (suc m) ≡ f (suc m) = ap (λ (t : Bool). cond t (drop 1 (f (suc m))) (f (suc m))) (ne_eqb (suc m) q (λ e. omega arith)) in
    let rest = count_other f q m (omega arith) in
    let long = ap length here in
    omega arith

length_rest : {X : Type 0} (xs : List X) → 0 < length xs → length xs ≡ suc (length (drop 1 xs))
length_rest [] h = absurd (omega arith)
length_rest (x ∷ xs) h = refl

-- one packet fewer
pub count-without : (f : ℕ → List Job) (q n : ℕ) → 0 < q → q ≤ n → 0 < length (f q) → count f n ≡ suc (count (without q f) n)
count-without f q zero some h has = absurd (omega arith)
count-without f q (suc m) some h has =
    ⊎_elim
    (λ (e : suc m ≡ q).
    let here : without q f (suc m) ≡ drop 1 (f (suc m)) = ap (λ (t : Bool). cond t (drop 1 (f (suc m))) (f (suc m))) (eq-eqb (suc m) q e) in
    let long = ap length here in
    let has_here : 0 < length (f (suc m)) = subst (λ (k : ℕ). 0 < length (f k)) (sym e) has in
    let more = length_rest (f (suc m)) has_here in
    let rest = count_other f q m (omega arith) in
    omega arith)
    (λ ne.
    let here : without q f (suc m) ≡ f (suc m) = ap (λ (t : Bool). cond t (drop 1 (f (suc m))) (f (suc m))) (ne_eqb (suc m) q ne) in
    let long = ap length here in
    let rest = count-without f q m some (omega arith) has in
    omega arith)
    (cases_eq (suc m) q)

module _ (b : Job → Job → Bool) (long : ℕ) where
  -- with no packet left the windows stand
  pub walked_end : (n t : ℕ) (f : ℕ → List Job) (ws : List Window) → next b t (firsts f 7) ≡ None → walked b long n t f ws ≡ Ok ws
  walked_end zero t f ws e = refl
  walked_end (suc n) t f ws e = ap (λ (o : Option Window). turn o ws (λ w. and_then (placed_next long ws w) (walked b long n (end w) (without w.packet.queue f)))) e

  walked-turn : (n t : ℕ) (f : ℕ → List Job) (ws : List Window) (w : Window) (r : Result (List Window) SearchFault) → next b t (firsts f 7) ≡ Some w → placed_next long ws w ≡ r → walked b long (suc n) t f ws ≡ and_then r (walked b long n (end w) (without w.packet.queue f))
  walked-turn n t f ws w r e p =
      ap (λ (o : Option Window). turn o ws (λ v. and_then (placed_next long ws v) (walked b long n (end v) (without v.packet.queue f)))) e
      ∙ ap (λ (z : Result (List Window) SearchFault). and_then z (walked b long n (end w) (without w.packet.queue f))) p

  -- one turn of the walk
  pub walked_ok : (t : ℕ) (f : ℕ → List Job) (ws zs : List Window) (w : Window) → next b t (firsts f 7) ≡ Some w → 0 < w.packet.queue → w.packet.queue ≤ 7 → 0 < length (f w.packet.queue) → placed_next long ws w ≡ Ok zs →
      walked b long (count f 7) t f ws ≡ walked b long (count (without w.packet.queue f) 7) (end w) (without w.packet.queue f) zs
  walked_ok t f ws zs w e some most has p =
      ap (λ (n : ℕ). walked b long n t f ws) (count-without f w.packet.queue 7 some most has) ∙ walked-turn (count (without w.packet.queue f) 7) t f ws w (Ok zs) e p

  pub walked_err : (t : ℕ) (f : ℕ → List Job) (ws : List Window) (w : Window) (x : SearchFault) → next b t (firsts f 7) ≡ Some w → 0 < w.packet.queue → w.packet.queue ≤ 7 → 0 < length (f w.packet.queue) → placed_next long ws w ≡ Err x →
      walked b long (count f 7) t f ws ≡ Err x
  walked_err t f ws w x e some most has p =
      ap (λ (n : ℕ). walked b long n t f ws) (count-without f w.packet.queue 7 some most has) ∙ walked-turn (count (without w.packet.queue f) 7) t f ws w (Err x) e p

-- why a walk stops
placed_fault : (long : ℕ) (ws : List Window) (w : Window) (e : SearchFault) → placed_next long ws w ≡ Err e → InWalk e
placed_fault long ws w e h = ⊎_elim (λ p. subst InWalk (sym p.0) tt) (λ p. subst InWalk (sym p.0) tt) (placed-err long ws w e h)

then_fault : (long : ℕ) (ws : List Window) (w : Window) (e : SearchFault) (k : List Window → Result (List Window) SearchFault) → ((zs : List Window) → k zs ≡ Err e → InWalk e) →
    (r : Result (List Window) SearchFault) → placed_next long ws w ≡ r → and_then r k ≡ Err e → InWalk e
then_fault long ws w e k rest (Ok zs) is h = rest zs h
then_fault long ws w e k rest (Err x) is h = placed_fault long ws w e (is ∙ h)

pub walked_fault : (b : Job → Job → Bool) (long n t : ℕ) (f : ℕ → List Job) (ws : List Window) (e : SearchFault) → walked b long n t f ws ≡ Err e → InWalk e
walked_fault b long zero t f ws e h = let bad : ◌≡◌ {A = ℕ} 0 1 = cc in absurd (omega arith)
walked_fault b long (suc n) t f ws e h = go (λ w zs. walked_fault b long n (end w) (without w.packet.queue f) zs e) (next b t (firsts f 7)) h
  where
    go : ((w : Window) (zs : List Window) → walked b long n (end w) (without w.packet.queue f) zs ≡ Err e → InWalk e) → (o : Option Window) → turn o ws (λ w. and_then (placed_next long ws w) (walked b long n (end w) (without w.packet.queue f))) ≡ Err e → InWalk e
    go rest None k = let bad : ◌≡◌ {A = ℕ} 0 1 = cc in absurd (omega arith)
    go rest (Some w) k = then_fault long ws w e (walked b long n (end w) (without w.packet.queue f)) (rest w) (placed_next long ws w) refl k

pub planned_fault : (b : Job → Job → Bool) (c : Cycle) (e : SearchFault) → planned_list b c ≡ Err e → InWalk e
planned_fault b c e h = go (walked_over b c.long 0 c.mandatory []) refl h
  where
    go : (r : Result (List Window) SearchFault) → walked_over b c.long 0 c.mandatory [] ≡ r → and_then (and_then r (λ ws. Ok (admitted c.long c.optional ws))) (λ ws. Ok (drawn 0 ws c.long)) ≡ Err e → InWalk e
    go (Ok ws) is k = let bad : ◌≡◌ {A = ℕ} 0 1 = cc in absurd (omega arith)
    go (Err x) is k = let same : x ≡ e = cc in walked_fault b c.long (count c.mandatory 7) 0 c.mandatory [] e (is ∙ ap Err same)
