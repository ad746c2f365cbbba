-- The walk's next window. Assumes nothing.
use Rattle.std.proofs.Common.{◌≡◌, ℕ, ◌≤◌, max, Bool, true, false, not, leb, ◌⊎◌, List, [], ◌∷◌, Some, None, filter, Option, sym, refl, ap, ◌∙◌, subst, inl, inr, ⊎_elim, arith}
use Rattle.std.proofs.lemmas.Bool.{cases_Bool, cond_both, both_ways, le-leb, leb-true, leb-false}
use Rattle.std.proofs.ByRecursion.{all_kept_by, All-weaker}
use Rattle.std.specs.List.{AllByRecursion}
use Rattle.traffic.specs.declared.packet.Job.{Job}
use Rattle.search.specs.declared.window.Window.{Window}
use Rattle.traffic.specs.Orders.{JobsDiffer}
use Rattle.search_laws.specs.Words.{Serving}
use Rattle.search.specs.Search.{arrived, least_arrival, sooner, first_of, window_at, next}
use Rattle.search_laws.specs.Laws.{In, Differing, NeverIdle, NextOnce}
use Rattle.search_laws.proofs.Lists.{in_kept, all_in, all_both, all_kept}

least_all : (x : Job) (xs : List Job) → AllByRecursion (λ p. least_arrival x xs ≤ p.arrival) (x ∷ xs)
least_all x [] = (omega arith, tt)
least_all x (y ∷ ys) =
    (omega arith, All-weaker (λ p. least_arrival y ys ≤ p.arrival) (λ p. least_arrival x (y ∷ ys) ≤ p.arrival) (λ p h. omega arith) (y ∷ ys) (least_all y ys))

-- at the least arrival one has arrived
some_arrived : (u : ℕ) (x : Job) (xs : List Job) → least_arrival x xs ≤ u → arrived u (x ∷ xs) ≡ [] → ⊥
some_arrived u x [] h e = let on : leb x.arrival u ≡ true = le-leb _ _ h in let d : x ∷ [] ≡ [] = rw on at e in let z : ◌≡◌ {A = ℕ} 0 1 = cc in omega arith
some_arrived u x (y ∷ ys) h e =
    ⊎_elim
    (λ (on : leb x.arrival u ≡ true). let d : x ∷ arrived u (y ∷ ys) ≡ [] = rw on at e in let z : ◌≡◌ {A = ℕ} 0 1 = cc in omega arith)
    (λ (off : leb x.arrival u ≡ false). let k = leb-false _ _ off in let d : arrived u (y ∷ ys) ≡ [] = rw off at e in some_arrived u y ys (omega arith) d)
    (cases_Bool (leb x.arrival u))

none_first : (before : Job → Job → Bool) (ps : List Job) → first_of before ps ≡ None → ps ≡ []
none_first before [] e = refl
none_first before (p ∷ ps) e = let z : ◌≡◌ {A = ℕ} 0 1 = cc in absurd (omega arith)

sooner_in : (before : Job → Job → Bool) (p : Job) (ps : List Job) (o : Option Job) → ((x : Job) → o ≡ Some x → In x ps) → In (sooner before p o) (p ∷ ps)
sooner_in before p ps None h = inl refl
sooner_in before p ps (Some x) h = cond_both (before x p) x p (λ r. In r (p ∷ ps)) (λ _. inr (h x refl)) (λ _. inl refl)

first_in : (before : Job → Job → Bool) (ps : List Job) (r : Job) → first_of before ps ≡ Some r → In r ps
first_in before [] r e = let z : ◌≡◌ {A = ℕ} 0 1 = cc in absurd (omega arith)
first_in before (p ∷ ps) r e =
    let same : sooner before p (first_of before ps) ≡ r = cc in
    let P : Job → Type 0 = λ x. In x (p ∷ ps) in
    subst P same (sooner_in before p ps (first_of before ps) (first_in before ps))

window_some : (u : ℕ) (o : Option Job) (w : Window) → window_at u o ≡ Some w → (o ≡ Some w.packet) × (w.start ≡ u)
window_some u None w e = let z : ◌≡◌ {A = ℕ} 0 1 = cc in absurd (omega arith)
window_some u (Some p) w e =
    let same : record { start = u; packet = p } ≡ w = cc in
    let p-same : p ≡ w.packet = ap (λ (v : Window). v.packet) same in
    (ap {B = Option Job} Some p-same, ap (λ (v : Window). v.start) (sym same))

window_none : (u : ℕ) (o : Option Job) → window_at u o ≡ None → o ≡ None
window_none u None e = refl
window_none u (Some p) e = let z : ◌≡◌ {A = ℕ} 0 1 = cc in absurd (omega arith)

-- where there is no next window, no packet is left
pub next_none : (before : Job → Job → Bool) (t : ℕ) (hs : List Job) → next before t hs ≡ None → hs ≡ []
next_none before t [] e = refl
next_none before t (x ∷ xs) e =
    let u = max t (least_arrival x xs) in
    absurd (some_arrived u x xs (omega arith) (none_first before (arrived u (x ∷ xs)) (window_none u _ e)))

-- what needs no law of the order
pub next_some : (before : Job → Job → Bool) (t : ℕ) (hs : List Job) (w : Window) → next before t hs ≡ Some w →
    In w.packet hs × (w.packet.arrival ≤ w.start) × (t ≤ w.start) × AllByRecursion (λ p. w.start ≤ max t p.arrival) hs × (first_of before (arrived w.start hs) ≡ Some w.packet)
next_some before t [] w e = let z : ◌≡◌ {A = ℕ} 0 1 = cc in absurd (omega arith)
next_some before t (x ∷ xs) w e =
    let u = max t (least_arrival x xs) in
    let k = window_some u _ w e in
    let at = k.1 in
    let i = in_kept (λ p. leb p.arrival u) w.packet (x ∷ xs) (first_in before (arrived u (x ∷ xs)) w.packet k.0) in
    let h = leb-true _ _ i.1 in (
      i.0,
      omega arith,
      omega arith,
      All-weaker (λ p. least_arrival x xs ≤ p.arrival) (λ p. w.start ≤ max t p.arrival) (λ p l. omega arith) (x ∷ xs) (least_all x xs),
      ap (λ (n : ℕ). first_of before (arrived n (x ∷ xs))) at ∙ k.0,
    )

differ_sym : (x y : Job) → JobsDiffer x y → JobsDiffer y x
differ_sym x y d = ⊎_elim (λ (h : x.flow ≡ y.flow → ⊥). inl (λ e. h (sym e))) (λ (h : x.arrival ≡ y.arrival → ⊥). inr (λ e. h (sym e))) d

-- each is r or differs from it
same_or_differ : (r : Job) (ps : List Job) → In r ps → Differing ps → AllByRecursion (λ x. (x ≡ r) ⊎ JobsDiffer x r) ps
same_or_differ r [] i d = tt
same_or_differ r (p ∷ ps) i d =
    ⊎_elim
    (λ (e : r ≡ p). (inl (sym e), All-weaker (JobsDiffer p) (λ x. (x ≡ r) ⊎ JobsDiffer x r) (λ x h. let k : JobsDiffer x r = rw e (differ_sym p x h) in inr k) ps d.0))
    (λ (k : In r ps). (inr (all_in (JobsDiffer p) r ps d.0 k), same_or_differ r ps k d.1))
    i

differing_kept : (f : Job → Bool) (ps : List Job) → Differing ps → Differing (filter f ps)
differing_kept f [] d = tt
differing_kept f (p ∷ ps) d = cond_both (f p) (p ∷ filter f ps) (filter f ps) Differing (λ _. (all_kept_by f (JobsDiffer p) ps d.0, differing_kept f ps d.1)) (λ _. differing_kept f ps d.1)

module _ (before : Job → Job → Bool) (laws : Serving before) where
  asym : (x y : Job) → before x y ≡ true → before y x ≡ false
  asym x y h = ⊎_elim (λ (k : before y x ≡ true). absurd (both_ways _ (laws.never x) (laws.chained x y x h k))) (λ k. k) (cases_Bool (before y x))

  behind : (x r p : Job) → JobsDiffer x r → before x r ≡ false → before r p ≡ false → before x p ≡ false
  behind x r p d h k =
      ⊎_elim
      (λ (l : before x p ≡ true).
      let turned : before r x ≡ true = laws.decides r x (differ_sym x r d) ∙ ap not h in
      absurd (both_ways _ k (laws.chained r x p turned l)))
      (λ l. l)
      (cases_Bool (before x p))

  sooner-first : (p : Job) (ps : List Job) (o : Option Job) → (o ≡ None → ps ≡ []) → ((r : Job) → o ≡ Some r → AllByRecursion (λ x. (x ≡ r) ⊎ JobsDiffer x r) ps × AllByRecursion (λ x. before x r ≡ false) ps) →
      AllByRecursion (λ x. before x (sooner before p o) ≡ false) (p ∷ ps)
  sooner-first p ps None n h = rw (n refl) (laws.never p, tt)
  sooner-first p ps (Some r) n h =
      let k = h r refl in
      cond_both (before r p) r p (λ y. AllByRecursion (λ x. before x y ≡ false) (p ∷ ps))
      (λ on. (asym r p on, k.1))
      (λ off. (
        laws.never p,
        all_both (λ x. (x ≡ r) ⊎ JobsDiffer x r) (λ x. before x r ≡ false) (λ x. before x p ≡ false)
            (λ x c b. ⊎_elim (λ (e : x ≡ r). rw e off) (λ (d : JobsDiffer x r). behind x r p d b off) c) ps k.0 k.1,
      ))

  -- none is before the first one
  first-least : (ps : List Job) (r : Job) → Differing ps → first_of before ps ≡ Some r → AllByRecursion (λ x. before x r ≡ false) ps
  first-least [] r d e = tt
  first-least (p ∷ ps) r d e =
      let same : sooner before p (first_of before ps) ≡ r = cc in
      let P : Job → Type 0 = λ y. AllByRecursion (λ x. before x y ≡ false) (p ∷ ps) in
      subst P same (sooner-first p ps (first_of before ps) (none_first before ps) (λ x f. (same_or_differ x ps (first_in before ps x f) d.1, first-least ps x d.1 f)))

pub never_idle : NeverIdle
never_idle before t hs w laws d e =
    let n = next_some before t hs w e in
    record {
      among = n.0;
      arrived = n.1;
      onward = n.2;
      busy = n.3;
      first = All-weaker (λ p. leb p.arrival w.start ≡ true → before p w.packet ≡ false) (λ p. p.arrival ≤ w.start → before p w.packet ≡ false) (λ p h l. h (le-leb _ _ l)) hs
          (all_kept (λ p. before p w.packet ≡ false) (λ p. leb p.arrival w.start) hs (first-least before laws (arrived w.start hs) w.packet (differing_kept _ hs d) n.4));
    }

pub next_once : NextOnce
next_once before t hs v w laws d m n =
    let p = all_in _ w.packet hs m.busy n.among in
    let q = all_in _ v.packet hs n.busy m.among in
    let a = m.arrived in let b = n.arrived in let c = m.onward in let f = n.onward in
    let at : v.start ≡ w.start = omega arith in
    let vw : before w.packet v.packet ≡ false = all_in _ w.packet hs m.first n.among (omega arith) in
    let wv : before v.packet w.packet ≡ false = all_in _ v.packet hs n.first m.among (omega arith) in
    let same : v.packet ≡ w.packet =
    ⊎_elim (λ (e : v.packet ≡ w.packet). e)
    (λ (k : JobsDiffer v.packet w.packet). absurd (both_ways _ wv (laws.decides v.packet w.packet k ∙ ap not vw)))
    (all_in _ v.packet hs (same_or_differ w.packet hs n.among d) m.among) in
    let joined : ◌≡◌ {A = Window} (record { start = v.start; packet = v.packet }) (record { start = w.start; packet = w.packet }) = rw (at, same) in
    joined
