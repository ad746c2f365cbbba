-- The walk. Assumes nothing.
use Rattle.std.proofs.Common.{◌≡◌, ℕ, zero, suc, ◌+◌, ◌<◌, ◌≤◌, Bool, true, false, cond, eqb, ltb, ◌⊎◌, List, [], ◌∷◌, ◌++◌, length, take, Some, None, Ok, Option, sym, refl, ap, ◌∙◌, subst, inl, inr, ⊎_elim, append_assoc, append-nil, arith}
use Rattle.std.proofs.lemmas.Bool.{cases_Bool, cases_lt, cond_both, eqb-true, eqb-false, eq-eqb, ne_eqb}
use Rattle.std.proofs.ByRecursion.{All-push}
use Rattle.std.specs.List.{AllByRecursion}
use Rattle.traffic.specs.declared.packet.Job.{Job}
use Rattle.search.specs.declared.window.Window.{Window}
use Rattle.search.specs.Windows.{end, Apart}
use Rattle.search_laws.specs.Words.{packets, windows_of, OnTime}
use Rattle.search.specs.Drawn.{drawn}
use Rattle.search.specs.Search.{Cycle, most_entries, firsts, next, without, placed_next, and_then, turn, walked, count}
use Rattle.search_laws.specs.Laws.{In, WaitsIn, Given}
use Rattle.std.proofs.lemmas.List.Elements.{filter-append}
use Rattle.search_laws.proofs.Lists.{all_right, packets-append, apart_append, apart_to}
use Rattle.search_laws.proofs.Steps.{went_on}
use Rattle.search.proofs.Inserts.{placed-is}
use Rattle.search_laws.proofs.Next.{next_none, next_some}

-- a window that a search may set
abbrev pub Fine : ℕ → Window → Type 0
Fine long w = OnTime w × (0 < w.packet.wire) × (w.packet.deadline ≤ long)

-- of which queue a first packet is
pub first_from : (left : ℕ → List Job) (n : ℕ) (p : Job) → In p (firsts left n) → (q : ℕ) × (0 < q) × (q ≤ n) × ((rest : List Job) × (left q ≡ p ∷ rest))
first_from left zero p i = absurd i
first_from left (suc n) p i = go (left (suc n)) refl i (first_from left n p)
  where
    go : (ps : List Job) → left (suc n) ≡ ps → In p (take 1 ps ++ firsts left n) → (In p (firsts left n) → (q : ℕ) × (0 < q) × (q ≤ n) × ((rest : List Job) × (left q ≡ p ∷ rest))) →
        (q : ℕ) × (0 < q) × (q ≤ suc n) × ((rest : List Job) × (left q ≡ p ∷ rest))
    go [] e k ih = let r = ih k in (r.0, r.1, (let h = r.2 in omega arith), r.3)
    go (x ∷ xs) e k ih =
        ⊎_elim
        (λ (d : p ≡ x). (suc n, omega arith, omega arith, (xs, e ∙ ap (λ (y : Job). y ∷ xs) (sym d))))
        (λ (j : In p (firsts left n)). let r = ih j in (r.0, r.1, (let h = r.2 in omega arith), r.3))
        k

-- the same number where queue q lies beyond, one less where it does not
count_beyond : (left : ℕ → List Job) (q n : ℕ) → n < q → count (without q left) n ≡ count left n
count_beyond left q zero h = refl
count_beyond left q (suc n) h =
    let off : eqb (suc n) q ≡ false = ne_eqb _ _ (omega arith) in
    rw (off, count_beyond left q n (omega arith))

pub count_less : (left : ℕ → List Job) (q n : ℕ) (p : Job) (rest : List Job) → 0 < q → q ≤ n → left q ≡ p ∷ rest → count left n ≡ suc (count (without q left) n)
count_less left q zero p rest h k e = absurd (omega arith)
count_less left q (suc n) p rest h k e = go (cases_lt n q) (count_less left q n p rest h)
  where
    go : (n < q) ⊎ (q ≤ n) → (q ≤ n → left q ≡ p ∷ rest → count left n ≡ suc (count (without q left) n)) → count left (suc n) ≡ suc (count (without q left) (suc n))
    go (inl l) ih =
        let same : suc n ≡ q = omega arith in
        let on : eqb (suc n) q ≡ true = eq-eqb _ _ same in
        let here : left (suc n) ≡ p ∷ rest = ap left same ∙ e in
        let b = count_beyond left q n l in
        rw (on, here, b) (omega arith)
    go (inr l) ih =
        let off : eqb (suc n) q ≡ false = ne_eqb _ _ (omega arith) in
        let i = ih l e in
        rw off (omega arith)

pub count_none : (left : ℕ → List Job) (n q : ℕ) → count left n ≡ 0 → 0 < q → q ≤ n → left q ≡ []
count_none left zero q e h k = absurd (omega arith)
count_none left (suc n) q e h k = ⊎_elim
    (λ (l : n < q). let same : q ≡ suc n = omega arith in let z : length (left (suc n)) ≡ 0 = omega arith in ap left same ∙ empty (left (suc n)) z)
    (λ (l : q ≤ n). count_none left n q (omega arith) h l)
    (cases_lt n q)
  where
    empty : (ps : List Job) → length ps ≡ 0 → ps ≡ []
    empty [] z = refl
    empty (p ∷ ps) z = absurd (omega arith)

pub no_firsts : (left : ℕ → List Job) (n : ℕ) → firsts left n ≡ [] → count left n ≡ 0
no_firsts left zero e = refl
no_firsts left (suc n) e = go (left (suc n)) e (no_firsts left n)
  where
    go : (ps : List Job) → take 1 ps ++ firsts left n ≡ [] → (firsts left n ≡ [] → count left n ≡ 0) → length ps + count left n ≡ 0
    go [] d ih = let k = ih d in omega arith
    go (p ∷ ps) d ih = let z : ◌≡◌ {A = ℕ} 0 1 = cc in absurd (omega arith)

-- before each turn of the walk
record Walking (c : Cycle) (n t : ℕ) (left : ℕ → List Job) (ws : List Window) : Type 0 where
  apart : Apart 0 ws t
  within : t ≤ c.long
  fine : AllByRecursion (Fine c.long) ws
  placed : (q : ℕ) → packets (windows_of q ws) ++ left q ≡ c.mandatory q
  unnamed : windows_of 0 ws ≡ []
  short : length (drawn 0 ws c.long) ≤ most_entries
  number : count left 7 ≡ n

-- after it
pub record Walked (c : Cycle) (ws : List Window) : Type 0 where
  pub apart : Apart 0 ws c.long
  pub fine : AllByRecursion (Fine c.long) ws
  pub placed : (q : ℕ) → 0 < q → q ≤ 7 → packets (windows_of q ws) ≡ c.mandatory q
  pub unnamed : windows_of 0 ws ≡ []
  pub short : length (drawn 0 ws c.long) ≤ most_entries

-- a queue whose first packet moves among the windows, or not
placed_on : (left : ℕ → List Job) (ws : List Window) (w : Window) (rest : List Job) (r : ℕ) → left w.packet.queue ≡ w.packet ∷ rest →
    packets (windows_of r (ws ++ (w ∷ []))) ++ without w.packet.queue left r ≡ packets (windows_of r ws) ++ left r
placed_on left ws w rest r e =
    let xs = windows_of r ws in
    let more : windows_of r (ws ++ (w ∷ [])) ≡ xs ++ cond (eqb w.packet.queue r) (w ∷ []) [] = filter-append (λ v. eqb v.packet.queue r) ws (w ∷ []) in
    ⊎_elim
    (λ (on : eqb w.packet.queue r ≡ true).
    let same = eqb-true _ _ on in
    let no : eqb r w.packet.queue ≡ true = eq-eqb _ _ (sym same) in
    let here : left r ≡ w.packet ∷ rest = ap left (sym same) ∙ e in
    rw (more, on, no, here, packets-append xs (w ∷ [])) (append_assoc (packets xs) (w.packet ∷ []) rest))
    (λ (off : eqb w.packet.queue r ≡ false).
    let apart = eqb-false _ _ off in
    let no : eqb r w.packet.queue ≡ false = ne_eqb _ _ (λ d. apart (sym d)) in
    rw (more, off, no, append-nil xs))
    (cases_Bool (eqb w.packet.queue r))

module _ (before : Job → Job → Bool) (c : Cycle) (given : Given c) where
  placing_from : (n t : ℕ) (left : ℕ → List Job) (ws : List Window) (w : Window) → Walking c (suc n) t left ws →
      (q : ℕ) (rest : List Job) → 0 < q → q ≤ 7 → left q ≡ w.packet ∷ rest → w.packet.arrival ≤ w.start → t ≤ w.start →
      end w ≤ w.packet.deadline → length (drawn 0 (ws ++ (w ∷ [])) c.long) ≤ most_entries → Walking c n (end w) (without w.packet.queue left) (ws ++ (w ∷ []))
  placing_from n t left ws w g q rest q1 q7 here come onward on_time short =
      let all : packets (windows_of q ws) ++ (w.packet ∷ rest) ≡ c.mandatory q = ap (λ (l : List Job). packets (windows_of q ws) ++ l) (sym here) ∙ g.placed q in
      let waits : AllByRecursion (WaitsIn c.long q) (w.packet ∷ rest) =
      all_right (WaitsIn c.long q) (packets (windows_of q ws)) (w.packet ∷ rest) (rw all (given.mandatory_waits q)) in
      let same : w.packet.queue ≡ q = waits.0.0 in
      let first : left w.packet.queue ≡ w.packet ∷ rest = ap left same ∙ here in
      let wide = waits.0.1 in
      let due = waits.0.3 in
      let off : eqb w.packet.queue 0 ≡ false = ne_eqb _ _ (omega arith) in
      let fewer = count_less left w.packet.queue 7 w.packet rest (omega arith) (omega arith) first in
      let sum = g.number in
      record {
        apart = apart_append 0 t (end w) ws (w ∷ []) g.apart (onward, omega arith);
        within = omega arith;
        fine = All-push (Fine c.long) ws w g.fine ((come, on_time), wide, due);
        placed = λ r. placed_on left ws w rest r first ∙ g.placed r;
        unnamed = filter-append (λ v. eqb v.packet.queue 0) ws (w ∷ []) ∙ rw (off, append-nil (windows_of 0 ws)) g.unnamed;
        short = short;
        number = omega arith;
      }

  placing : (n t : ℕ) (left : ℕ → List Job) (ws : List Window) (w : Window) → Walking c (suc n) t left ws → next before t (firsts left 7) ≡ Some w →
      end w ≤ w.packet.deadline → length (drawn 0 (ws ++ (w ∷ [])) c.long) ≤ most_entries → Walking c n (end w) (without w.packet.queue left) (ws ++ (w ∷ []))
  placing n t left ws w g e on_time short =
      let s = next_some before t (firsts left 7) w e in
      let f = first_from left 7 w.packet s.0 in
      placing_from n t left ws w g f.0 f.3.0 f.1 f.2 f.3.1 s.1 s.2 on_time short

  done : (t : ℕ) (left : ℕ → List Job) (ws : List Window) → Walking c 0 t left ws → Walked c ws
  done t left ws g =
      let h = g.within in
      record {
        apart = apart_to 0 t c.long ws (omega arith) g.apart;
        fine = g.fine;
        placed = λ q k l. sym (append-nil (packets (windows_of q ws))) ∙ ap (λ (x : List Job). packets (windows_of q ws) ++ x) (sym (count_none left 7 q g.number k l)) ∙ g.placed q;
        unnamed = g.unnamed;
        short = g.short;
      }

  nothing_left : (n t : ℕ) (left : ℕ → List Job) (ws : List Window) → Walking c (suc n) t left ws → firsts left 7 ≡ [] → ⊥
  nothing_left n t left ws g e = let k = no_firsts left 7 e in let h = g.number in omega arith

  walk_goes : (n t : ℕ) (left : ℕ → List Job) (ws vs : List Window) → Walking c n t left ws → walked before c.long n t left ws ≡ Ok vs → Walked c vs
  walk_goes zero t left ws vs g e = let same : ws ≡ vs = cc in subst (Walked c) same (done t left ws g)
  walk_goes (suc n) t left ws vs g e = go (next before t (firsts left 7)) refl e (walk_goes n)
    where
      go : (o : Option Window) → next before t (firsts left 7) ≡ o → turn o ws (λ w. and_then (placed_next c.long ws w) (walked before c.long n (end w) (without w.packet.queue left))) ≡ Ok vs →
          ((t : ℕ) (left : ℕ → List Job) (ws vs : List Window) → Walking c n t left ws → walked before c.long n t left ws ≡ Ok vs → Walked c vs) → Walked c vs
      go None f d ih = absurd (nothing_left n t left ws g (next_none before t (firsts left 7) f))
      go (Some w) f d ih =
          let on = went_on (placed_next c.long ws w) (walked before c.long n (end w) (without w.packet.queue left)) vs d in
          let p = placed-is c.long ws on.0 w on.1 in
          ih (end w) (without w.packet.queue left) on.0 vs (subst (Walking c n (end w) (without w.packet.queue left)) (sym p.0) (placing n t left ws w g f p.1 p.2)) on.2

  pub walk_from : (ws : List Window) → walked before c.long (count c.mandatory 7) 0 c.mandatory [] ≡ Ok ws → Walked c ws
  walk_from ws e = walk_goes (count c.mandatory 7) 0 c.mandatory [] ws
      (record {
        apart = omega arith;
        within = omega arith;
        fine = tt;
        placed = λ q. refl;
        unnamed = refl;
        short = cond_both (ltb 0 c.long) _ [] (λ l. length l ≤ most_entries) (λ _. omega arith) (λ _. omega arith);
        number = refl;
      }) e
