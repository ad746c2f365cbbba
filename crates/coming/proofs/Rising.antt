-- Lists that rise in a strict order. Assumes nothing.
use Rattle.std.proofs.Common.{◌≡◌, Bool, true, false, cond, not, List, [], ◌∷◌, ◌++◌, filter, sym, refl, ap, ◌∙◌, subst, inl, inr, ⊎_elim}
use Rattle.std.specs.List.{AllByRecursion}
use Rattle.std.proofs.ByRecursion.{All-append, All-weaker}
use Rattle.std.proofs.lemmas.Bool.{cases_Bool, both_ways, not-false}
use Rattle.table.specs.Order.{before_each, placed, placed_last}
use Rattle.coming.specs.Rising.{In, Rises}

pub all_in : {X : Type 0} (P : X → Type 0) (x : X) (xs : List X) → AllByRecursion P xs → In x xs → P x
all_in P x [] ps i = absurd i
all_in P x (y ∷ ys) ps (inl e) = subst P (sym e) ps.0
all_in P x (y ∷ ys) ps (inr i) = all_in P x ys ps.1 i

pub in_left : {X : Type 0} (x : X) (xs ys : List X) → In x xs → In x (xs ++ ys)
in_left x [] ys i = absurd i
in_left x (z ∷ zs) ys (inl e) = inl e
in_left x (z ∷ zs) ys (inr i) = inr (in_left x zs ys i)

pub in_right : {X : Type 0} (x : X) (xs ys : List X) → In x ys → In x (xs ++ ys)
in_right x [] ys i = i
in_right x (z ∷ zs) ys i = inr (in_right x zs ys i)

-- what is placed is there, and so are the others
pub in_placed-new : {X : Type 0} (b : X → X → Bool) (x : X) (xs : List X) → In x (placed b x xs)
in_placed-new b x [] = inl refl
in_placed-new b x (y ∷ ys) =
    ⊎_elim
    (λ e. subst (In x) (sym (ap (λ (t : Bool). cond t (x ∷ (y ∷ ys)) (y ∷ placed b x ys)) e)) (inl refl))
    (λ e. subst (In x) (sym (ap (λ (t : Bool). cond t (x ∷ (y ∷ ys)) (y ∷ placed b x ys)) e)) (inr (in_placed-new b x ys)))
    (cases_Bool (b x y))

pub in_placed : {X : Type 0} (b : X → X → Bool) (x z : X) (xs : List X) → In z xs → In z (placed b x xs)
in_placed b x z [] i = absurd i
in_placed b x z (y ∷ ys) i =
    ⊎_elim
    (λ e. subst (In z) (sym (ap (λ (t : Bool). cond t (x ∷ (y ∷ ys)) (y ∷ placed b x ys)) e)) (inr i))
    (λ e. subst (In z) (sym (ap (λ (t : Bool). cond t (x ∷ (y ∷ ys)) (y ∷ placed b x ys)) e)) (⊎_elim (λ here. inl here) (λ rest. inr (in_placed b x z ys rest)) i))
    (cases_Bool (b x y))

pub all_placed : {X : Type 0} (P : X → Type 0) (b : X → X → Bool) (x : X) (xs : List X) → P x → AllByRecursion P xs → AllByRecursion P (placed b x xs)
all_placed P b x [] p ps = (p, tt)
all_placed P b x (y ∷ ys) p ps =
    ⊎_elim
    (λ e. subst (AllByRecursion P) (sym (ap (λ (t : Bool). cond t (x ∷ (y ∷ ys)) (y ∷ placed b x ys)) e)) (p, ps))
    (λ e. subst (AllByRecursion P) (sym (ap (λ (t : Bool). cond t (x ∷ (y ∷ ys)) (y ∷ placed b x ys)) e)) (ps.0, all_placed P b x ys p ps.1))
    (cases_Bool (b x y))

pub all_placed_last : {X : Type 0} (P : X → Type 0) (b : X → X → Bool) (x : X) (xs : List X) → P x → AllByRecursion P xs → AllByRecursion P (placed_last b x xs)
all_placed_last P b x [] p ps = (p, tt)
all_placed_last P b x (y ∷ ys) p ps =
    ⊎_elim
    (λ e. subst (AllByRecursion P) (sym (ap (λ (t : Bool). cond t (x ∷ (y ∷ ys)) (y ∷ placed_last b x ys)) e)) (p, ps))
    (λ e. subst (AllByRecursion P) (sym (ap (λ (t : Bool). cond t (x ∷ (y ∷ ys)) (y ∷ placed_last b x ys)) e)) (ps.0, all_placed_last P b x ys p ps.1))
    (cases_Bool (before_each b x (y ∷ ys)))

module _ {X : Type 0} (b : X → X → Bool) (never : (x : X) → b x x ≡ false) (chained : (x y z : X) → b x y ≡ true → b y z ≡ true → b x z ≡ true) where
  -- one more, where the order decides between it and the others
  pub rises-placed : (x : X) (xs : List X) → AllByRecursion (λ y. b x y ≡ not (b y x)) xs → Rises b xs → Rises b (placed b x xs)
  rises-placed x [] d h = (tt, tt)
  rises-placed x (y ∷ ys) d h =
      ⊎_elim
      (λ (e : b x y ≡ true). subst (Rises b) (sym (ap (λ (t : Bool). cond t (x ∷ (y ∷ ys)) (y ∷ placed b x ys)) e))
      ((e, All-weaker (λ (z : X). b y z ≡ true) (λ (z : X). b x z ≡ true) (λ z k. chained x y z e k) ys h.0), h))
      (λ (e : b x y ≡ false). subst (Rises b) (sym (ap (λ (t : Bool). cond t (x ∷ (y ∷ ys)) (y ∷ placed b x ys)) e))
      (all_placed (λ (z : X). b y z ≡ true) b x ys (not-false (b y x) (sym d.0 ∙ e)) h.0, rises-placed x ys d.1 h.1))
      (cases_Bool (b x y))

  pub rises-append : (xs ys : List X) → Rises b xs → Rises b ys → AllByRecursion (λ x. AllByRecursion (λ y. b x y ≡ true) ys) xs → Rises b (xs ++ ys)
  rises-append [] ys p q r = q
  rises-append (x ∷ xs) ys p q r = (All-append (λ (y : X). b x y ≡ true) xs ys p.0 r.0, rises-append xs ys p.1 q r.1)

  asym : (x y : X) → b x y ≡ true → b y x ≡ true → ⊥
  asym x y h k = both_ways (b x x) (never x) (chained x y x h k)

  -- tests that agree on all keep the same
  pub kept_like : (p q : X → Bool) (xs : List X) → AllByRecursion (λ x. p x ≡ q x) xs → filter p xs ≡ filter q xs
  kept_like p q [] h = refl
  kept_like p q (x ∷ xs) h = ap (λ (t : Bool). cond t (x ∷ filter p xs) (filter p xs)) h.0 ∙ ap (λ (zs : List X). cond (q x) (x ∷ zs) zs) (kept_like p q xs h.1)

  -- what is kept begins with c where c passes and nothing before it does
  pub kept_head : (p : X → Bool) (c : X) (xs : List X) → Rises b xs → In c xs → p c ≡ true → AllByRecursion (λ y. b y c ≡ true → p y ≡ false) xs → (rest : List X) × (filter p xs ≡ c ∷ rest)
  kept_head p c [] h i pass low = absurd i
  kept_head p c (y ∷ ys) h (inl e) pass low =
      (filter p ys, ap (λ (t : Bool). cond t (y ∷ filter p ys) (filter p ys)) (ap p (sym e) ∙ pass) ∙ ap (λ (z : X). z ∷ filter p ys) (sym e))
  kept_head p c (y ∷ ys) h (inr i) pass low =
      let before : b y c ≡ true = all_in (λ (z : X). b y z ≡ true) c ys h.0 i in
      let rest = kept_head p c ys h.1 i pass low.1 in
      (rest.0, ap (λ (t : Bool). cond t (y ∷ filter p ys) (filter p ys)) (low.0 before) ∙ rest.1)

  -- and goes on with what another test keeps that differs at c alone
  pub kept_first : (p q : X → Bool) (c : X) (xs : List X) → Rises b xs → In c xs → p c ≡ true → q c ≡ false →
      AllByRecursion (λ y. b c y ≡ true → p y ≡ q y) xs → AllByRecursion (λ y. b y c ≡ true → (p y ≡ false) × (q y ≡ false)) xs → filter p xs ≡ c ∷ filter q xs
  kept_first p q c [] h i pass fail high low = absurd i
  kept_first p q c (y ∷ ys) h (inl e) pass fail high low =
      let after : AllByRecursion (λ (z : X). b c z ≡ true) ys = subst (λ (x : X). AllByRecursion (λ (z : X). b x z ≡ true) ys) (sym e) h.0 in
      let same : filter p ys ≡ filter q ys = kept_like p q ys (all_both ys after high.1) in
      let out : filter q (y ∷ ys) ≡ filter q ys = ap (λ (t : Bool). cond t (y ∷ filter q ys) (filter q ys)) (ap q (sym e) ∙ fail) in
      ap (λ (t : Bool). cond t (y ∷ filter p ys) (filter p ys)) (ap p (sym e) ∙ pass) ∙ ap (λ (z : X). z ∷ filter p ys) (sym e) ∙ ap (λ (zs : List X). c ∷ zs) (same ∙ sym out)
    where
      all_both : (zs : List X) → AllByRecursion (λ z. b c z ≡ true) zs → AllByRecursion (λ z. b c z ≡ true → p z ≡ q z) zs → AllByRecursion (λ z. p z ≡ q z) zs
      all_both [] s t = tt
      all_both (z ∷ zs) s t = (t.0 s.0, all_both zs s.1 t.1)
  kept_first p q c (y ∷ ys) h (inr i) pass fail high low =
      let before : b y c ≡ true = all_in (λ (z : X). b y z ≡ true) c ys h.0 i in
      let out = low.0 before in
      ap (λ (t : Bool). cond t (y ∷ filter p ys) (filter p ys)) out.0 ∙ kept_first p q c ys h.1 i pass fail high.1 low.1
      ∙ ap (λ (zs : List X). c ∷ zs) (sym (ap (λ (t : Bool). cond t (y ∷ filter q ys) (filter q ys)) out.1))

pub kept_all : {X : Type 0} (p : X → Bool) (xs : List X) → AllByRecursion (λ x. p x ≡ true) xs → filter p xs ≡ xs
kept_all p [] h = refl
kept_all p (x ∷ xs) h = ap (λ (t : Bool). cond t (x ∷ filter p xs) (filter p xs)) h.0 ∙ ap (λ zs. x ∷ zs) (kept_all p xs h.1)

pub kept_none : {X : Type 0} (p : X → Bool) (xs : List X) → ((x : X) → p x ≡ false) → filter p xs ≡ []
kept_none p [] h = refl
kept_none p (x ∷ xs) h = ap (λ (t : Bool). cond t (x ∷ filter p xs) (filter p xs)) (h x) ∙ kept_none p xs h

-- a fact of each one, from a fact of each one of the list
pub all_from_in : {X : Type 0} (P : X → Type 0) (xs : List X) → ((x : X) → In x xs → P x) → AllByRecursion P xs
all_from_in P [] h = tt
all_from_in P (x ∷ xs) h = (h x (inl refl), all_from_in P xs (λ y i. h y (inr i)))
