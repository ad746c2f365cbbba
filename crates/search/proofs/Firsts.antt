-- The first packets of the queues, queue by queue. Assumes nothing.
use Rattle.std.proofs.Common.{◌≡◌, ℕ, zero, suc, ◌<◌, ◌≤◌, min, max, Bool, cond, leb, List, [], ◌∷◌, ◌++◌, map, length, get_or, take, Some, None, Option, sym, refl, ap, ◌∙◌, subst, ⊎_elim, add-one, arith}
use Rattle.std.specs.List.{slice_get, reduce, FoldsTo}
use Rattle.std.specs.Iterator.{ActsAsOnTwo, FoldTurn, ReducesItems}
use Rattle.std.proofs.lemmas.Bool.{cases_Bool}
use Rattle.std.proofs.lemmas.Iterator.{YieldsList}
use Rattle.std.proofs.lemmas.Iterator.Consumers.{reduce_from_yields_List}
use Rattle.std.proofs.lemmas.List.{take_more, take_all, map-append, append-nil}
use Rattle.std.proofs.lemmas.List.Elements.{filter_map-append, filter-append}
use Rattle.std.proofs.lemmas.List.Sums.{fold-append}
use denote.Param.Members.{Mut}
use Rattle.traffic.specs.declared.packet.Job.{Job}
use Rattle.search.specs.Search.{firsts, first_of, sooner, arrived, least_arrival, window_at, next}
use Rattle.search.specs.Queues.{heads, served_first, left_in}

-- `reduce` by a closure that computes h
folded : {F A : Type 0} (g : Mut F (A × (A × Unit {0})) A) (f : F) (h : A → A → A) → ActsAsOnTwo g f h → (xs : List A) (a : A) (q : F × A) → FoldsTo {P = F × A} (FoldTurn g) (f, a) xs q → FoldsTo (λ p z c. c ≡ h p z) a xs q.1
folded g f h k [] a q c = ap (λ (v : _ × _). v.1) c
folded {F} {A} g f h k (x ∷ xs) a q c =
    let m : (c.0.0 ≡ f) × (c.0.1 ≡ h a x) = k a x c.0.1 c.0.0 c.1 in
    (h a x, refl, folded g f h k xs (h a x) q (subst (λ (v : F × A). FoldsTo {P = F × A} (FoldTurn g) v xs q) {x = c.0} {y = (f, h a x)} (λ i. (m.0 i, m.1 i)) c.2))

pub reduced : {S A F : Type 0} {steps : S → Option A → S → Type 0} (g : Mut F (A × (A × Unit {0})) A) (h : A → A → A) (s : S) (f : F) (r : Option A) (all : List A) → ReducesItems steps g s f r → YieldsList steps (λ x. x) s all → ActsAsOnTwo g f h → r ≡ reduce h all
reduced g h s f None all d e k = reduce_from_yields_List h s None d e
reduced g h s f (Some y) all d e k = reduce_from_yields_List h s (Some y) (d.0, d.1, d.3, folded g f h k d.1 d.0 (d.2, y) d.4) e

-- one item more, behind the others
abbrev more : {X : Type 0} → (X → X → X) → Option X → X → X
more f None y = y
more f (Some x) y = f x y

reduce-push : {X : Type 0} (f : X → X → X) (xs : List X) (y : X) → reduce f (xs ++ (y ∷ [])) ≡ Some (more f (reduce f xs) y)
reduce-push f [] y = refl
reduce-push f (x ∷ xs) y = ap Some (fold-append f x xs (y ∷ []))

-- the heads of one queue more
heads_more : (qs : List (List Job)) (n : ℕ) → n < length qs → heads (take (suc n) qs) ≡ heads (take n qs) ++ heads (get_or qs n [] ∷ [])
heads_more qs n h =
    ap (λ (k : ℕ). heads (take k qs)) (sym (add-one n)) ∙ ap heads (take_more qs n [] h) ∙ filter_map-append (λ (q : List Job). slice_get q 0) (take n qs) (get_or qs n [] ∷ [])

-- the least arrival of these, if there are any
abbrev pub least : List Job → Option ℕ
least [] = None
least (x ∷ xs) = Some (least_arrival x xs)

least_more : (x : Job) (ps : List Job) (o : Option ℕ) → least ps ≡ o → least (x ∷ ps) ≡ Some (more min o x.arrival)
least_more x [] None e = refl
least_more x [] (Some a) e = let z : ◌≡◌ {A = ℕ} 0 1 = cc in absurd (omega arith)
least_more x (p ∷ ps) None e = let z : ◌≡◌ {A = ℕ} 0 1 = cc in absurd (omega arith)
least_more x (p ∷ ps) (Some a) e =
    let is : least_arrival p ps ≡ a = cc in
    let both : min x.arrival (least_arrival p ps) ≡ min a x.arrival = omega arith in
    ap (λ (k : ℕ). Some k) both

-- one queue more
least_queue : (q rest hs : List Job) → least rest ≡ reduce min (map (λ p. p.arrival) hs) → least (take 1 q ++ rest) ≡ reduce min (map (λ p. p.arrival) (hs ++ heads (q ∷ [])))
least_queue [] rest hs e = e ∙ ap (λ (ps : List Job). reduce min (map (λ p. p.arrival) ps)) (sym (append-nil hs))
least_queue (x ∷ xs) rest hs e =
    least_more x rest (reduce min (map (λ p. p.arrival) hs)) e ∙ sym (ap (reduce min) (map-append (λ p. p.arrival) hs (x ∷ [])) ∙ reduce-push min (map (λ p. p.arrival) hs) x.arrival)

pub least_heads : (qs : List (List Job)) (n : ℕ) → n ≤ length qs → least (firsts (left_in qs) n) ≡ reduce min (map (λ p. p.arrival) (heads (take n qs)))
least_heads qs zero h = refl
least_heads qs (suc n) h =
    least_queue (get_or qs n []) (firsts (left_in qs) n) (heads (take n qs)) (least_heads qs n (omega arith))
    ∙ sym (ap (λ (ps : List Job). reduce min (map (λ p. p.arrival) ps)) (heads_more qs n (omega arith)))

-- the one that is served first, queue by queue
module _ (b : Job → Job → Bool) (t : ℕ) where
  first_more : (x : Job) (o : Option Job) → sooner b x o ≡ more (served_first b) o x
  first_more x None = refl
  first_more x (Some y) = refl

  served_queue : (q rest hs : List Job) → first_of b (arrived t rest) ≡ reduce (served_first b) (arrived t hs) → first_of b (arrived t (take 1 q ++ rest)) ≡ reduce (served_first b) (arrived t (hs ++ heads (q ∷ [])))
  served_queue [] rest hs e = e ∙ ap (λ (ps : List Job). reduce (served_first b) (arrived t ps)) (sym (append-nil hs))
  served_queue (x ∷ xs) rest hs e =
      ⊎_elim
      (λ h. rw h (ap (λ (o : Option Job). Some (sooner b x o)) e ∙ ap Some (first_more x (reduce (served_first b) (arrived t hs))) ∙ sym (all h ∙ reduce-push (served_first b) (arrived t hs) x)))
      (λ h. rw h (e ∙ sym (all h ∙ ap (reduce (served_first b)) (append-nil (arrived t hs)))))
      (cases_Bool (leb x.arrival t))
    where
      all : {v : Bool} → leb x.arrival t ≡ v → reduce (served_first b) (arrived t (hs ++ (x ∷ []))) ≡ reduce (served_first b) (arrived t hs ++ cond v (x ∷ []) [])
      all h = ap (reduce (served_first b)) (filter-append (λ p. leb p.arrival t) hs (x ∷ []) ∙ ap (λ (v : Bool). arrived t hs ++ cond v (x ∷ []) []) h)

  pub served_heads : (qs : List (List Job)) (n : ℕ) → n ≤ length qs → first_of b (arrived t (firsts (left_in qs) n)) ≡ reduce (served_first b) (arrived t (heads (take n qs)))
  served_heads qs zero h = refl
  served_heads qs (suc n) h =
      served_queue (get_or qs n []) (firsts (left_in qs) n) (heads (take n qs)) (served_heads qs n (omega arith))
      ∙ sym (ap (λ (ps : List Job). reduce (served_first b) (arrived t ps)) (heads_more qs n (omega arith)))

-- with a packet to come the next window starts at the least arrival or later
next_at : (b : Job → Job → Bool) (t l : ℕ) (xs : List Job) → least xs ≡ Some l → next b t xs ≡ window_at (max t l) (first_of b (arrived (max t l) xs))
next_at b t l [] e = let z : ◌≡◌ {A = ℕ} 0 1 = cc in absurd (omega arith)
next_at b t l (x ∷ xs) e = let is : least_arrival x xs ≡ l = cc in ap (λ (k : ℕ). window_at (max t k) (first_of b (arrived (max t k) (x ∷ xs)))) is

pub next_is : (b : Job → Job → Bool) (t l u : ℕ) (qs : List (List Job)) (o : Option Job) → length qs ≡ 7 → Some l ≡ reduce min (map (λ p. p.arrival) (heads qs)) → u ≡ max t l →
    o ≡ reduce (served_first b) (arrived u (heads qs)) → next b t (firsts (left_in qs) 7) ≡ window_at u o
next_is b t l u qs o seven e at is =
    let all : take 7 qs ≡ qs = take_all 7 qs (omega arith) in
    next_at b t l (firsts (left_in qs) 7) (least_heads qs 7 (omega arith) ∙ ap (λ (rs : List (List Job)). reduce min (map (λ p. p.arrival) (heads rs))) all ∙ sym e)
    ∙ ap (λ (k : ℕ). window_at k (first_of b (arrived k (firsts (left_in qs) 7)))) (sym at)
    ∙ ap (window_at u) (served_heads b u qs 7 (omega arith) ∙ ap (λ (rs : List (List Job)). reduce (served_first b) (arrived u (heads rs))) all ∙ sym is)
