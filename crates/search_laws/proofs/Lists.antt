-- Windows one after the other. Assumes nothing.
use Rattle.std.proofs.Common.{◌≡◌, ℕ, ◌≤◌, Bool, true, false, ◌⊎◌, List, [], ◌∷◌, ◌++◌, filter, sym, refl, ap, ◌∙◌, subst, inl, inr, ⊎_elim, arith}
use Rattle.std.proofs.lemmas.Bool.{cases_Bool, cond_both, both_ways}
use Rattle.search_laws.specs.Laws.{In, Part, none, takes, skips, Rising, Unlike, Distinct}
use Rattle.std.specs.List.{AllByRecursion}
use Rattle.traffic.specs.declared.packet.Job.{Job}
use Rattle.search.specs.declared.window.Window.{Window}
use Rattle.search.specs.Windows.{end, Apart}
use Rattle.search_laws.specs.Words.{packets}

pub apart_from : (a c b : ℕ) (ws : List Window) → c ≤ a → Apart a ws b → Apart c ws b
apart_from a c b [] h s = omega arith
apart_from a c b (w ∷ ws) h s = (omega arith, s.1)

pub apart_to : (a b c : ℕ) (ws : List Window) → b ≤ c → Apart a ws b → Apart a ws c
apart_to a b c [] h s = omega arith
apart_to a b c (w ∷ ws) h s = (s.0, apart_to (end w) b c ws h s.1)

pub apart_le : (a b : ℕ) (ws : List Window) → Apart a ws b → a ≤ b
apart_le a b [] s = s
apart_le a b (w ∷ ws) s = let k = apart_le (end w) b ws s.1 in omega arith

pub apart_after : (c a b : ℕ) (ws : List Window) → c ≤ a → Apart a ws b → AllByRecursion (λ w. c ≤ w.start) ws
apart_after c a b [] h s = tt
apart_after c a b (w ∷ ws) h s = (omega arith, apart_after c (end w) b ws (omega arith) s.1)

pub all_both : {X : Type 0} (P Q R : X → Type 0) → ((x : X) → P x → Q x → R x) → (xs : List X) → AllByRecursion P xs → AllByRecursion Q xs → AllByRecursion R xs
all_both P Q R f [] p q = tt
all_both P Q R f (x ∷ xs) p q = (f x p.0 q.0, all_both P Q R f xs p.1 q.1)

-- membership
pub in_kept : {X : Type 0} (f : X → Bool) (x : X) (xs : List X) → In x (filter f xs) → In x xs × (f x ≡ true)
in_kept f x [] h = absurd h
in_kept {X} f x (y ∷ ys) h =
    ⊎_elim
    (λ (on : f y ≡ true).
    let k : (x ≡ y) ⊎ In x (filter f ys) = rw on at h in
    ⊎_elim (λ (e : x ≡ y). (inl e, ap f e ∙ on)) (λ (i : In x (filter f ys)). let r = in_kept f x ys i in (inr r.0, r.1)) k)
    (λ (off : f y ≡ false). let i : In x (filter f ys) = rw off at h in let r = in_kept f x ys i in (inr r.0, r.1))
    (cases_Bool (f y))

pub all_in : {X : Type 0} (P : X → Type 0) (x : X) (xs : List X) → AllByRecursion P xs → In x xs → P x
all_in P x [] a i = absurd i
all_in {X} P x (y ∷ ys) a i = ⊎_elim (λ (e : x ≡ y). subst P (sym e) a.0) (λ (k : In x ys). all_in P x ys a.1 k) i

pub all_right : {X : Type 0} (P : X → Type 0) (xs ys : List X) → AllByRecursion P (xs ++ ys) → AllByRecursion P ys
all_right P [] ys a = a
all_right P (x ∷ xs) ys a = all_right P xs ys a.1

pub packets-append : (xs ys : List Window) → packets (xs ++ ys) ≡ packets xs ++ packets ys
packets-append [] ys = refl
packets-append (x ∷ xs) ys = ap (λ (l : List Job). x.packet ∷ l) (packets-append xs ys)

pub apart_append : (a b c : ℕ) (xs ys : List Window) → Apart a xs b → Apart b ys c → Apart a (xs ++ ys) c
apart_append a b c [] ys p q = apart_from b a c ys p q
apart_append a b c (x ∷ xs) ys p q = (p.0, apart_append (end x) b c xs ys p.1 q)

pub all_kept : {X : Type 0} (P : X → Type 0) (f : X → Bool) (xs : List X) → AllByRecursion P (filter f xs) → AllByRecursion (λ x. f x ≡ true → P x) xs
all_kept P f [] a = tt
all_kept P f (x ∷ xs) a =
    ⊎_elim
    (λ (on : f x ≡ true). let k : P x × AllByRecursion P (filter f xs) = rw on at a in (λ _. k.0, all_kept P f xs k.1))
    (λ (off : f x ≡ false). let k : AllByRecursion P (filter f xs) = rw off at a in (λ on. absurd (both_ways _ off on), all_kept P f xs k))
    (cases_Bool (f x))

pub all_any : {X : Type 0} (P : X → Type 0) → ((x : X) → P x) → (xs : List X) → AllByRecursion P xs
all_any P f [] = tt
all_any P f (x ∷ xs) = (f x, all_any P f xs)

-- what is kept passes the test
pub all_passes : {X : Type 0} (P : X → Type 0) (f : X → Bool) (xs : List X) → AllByRecursion P xs → AllByRecursion (λ x. P x × (f x ≡ true)) (filter f xs)
all_passes P f [] a = tt
all_passes P f (x ∷ xs) a =
    cond_both (f x) (x ∷ filter f xs) (filter f xs) (AllByRecursion (λ y. P y × (f y ≡ true))) (λ on. ((a.0, on), all_passes P f xs a.1)) (λ _. all_passes P f xs a.1)

pub kept_like : {X : Type 0} (f g : X → Bool) (xs : List X) → AllByRecursion (λ x. f x ≡ g x) xs → filter f xs ≡ filter g xs
kept_like f g [] a = refl
kept_like f g (x ∷ xs) a = let e = a.0 in let ih = kept_like f g xs a.1 in rw (e, ih)

pub apart_kept : (f : Window → Bool) (a b : ℕ) (ws : List Window) → Apart a ws b → Apart a (filter f ws) b
apart_kept f a b [] s = s
apart_kept f a b (w ∷ ws) s =
    let ih = apart_kept f (end w) b ws s.1 in
    cond_both (f w) (w ∷ filter f ws) (filter f ws) (λ l. Apart a l b) (λ _. (s.0, ih)) (λ _. let h = s.0 in apart_from (end w) a b (filter f ws) (omega arith) ih)

-- a part of a list
pub all_part : {X : Type 0} (P : X → Type 0) (xs ys : List X) → Part xs ys → AllByRecursion P ys → AllByRecursion P xs
all_part P _ _ none a = tt
all_part P _ _ (takes x xs ys t) a = (a.0, all_part P xs ys t a.1)
all_part P _ _ (skips y xs ys t) a = all_part P xs ys t a.1

pub in_part : {X : Type 0} (x : X) (xs ys : List X) → Part xs ys → In x xs → In x ys
in_part x _ _ none i = i
in_part x _ _ (takes y xs ys t) i = ⊎_elim (λ (e : x ≡ y). inl e) (λ (k : In x xs). inr (in_part x xs ys t k)) i
in_part x _ _ (skips y xs ys t) i = inr (in_part x xs ys t i)

pub rising_later : (a b : ℕ) (ps : List Job) → a ≤ b → Rising b ps → Rising a ps
rising_later a b [] h r = tt
rising_later a b (p ∷ ps) h r = (omega arith, r.1)

pub rising_part : (a : ℕ) (xs ys : List Job) → Part xs ys → Rising a ys → Rising a xs
rising_part a _ _ none r = tt
rising_part a _ _ (takes x xs ys t) r = (r.0, rising_part x.arrival xs ys t r.1)
rising_part a _ _ (skips y xs ys t) r = rising_part a xs ys t (rising_later a y.arrival ys r.0 r.1)

pub distinct_part : (xs ys : List Job) → Part xs ys → Distinct ys → Distinct xs
distinct_part _ _ none d = tt
distinct_part _ _ (takes x xs ys t) d = (all_part (Unlike x) xs ys t d.0, distinct_part xs ys t d.1)
distinct_part _ _ (skips y xs ys t) d = distinct_part xs ys t d.1

pub all_from : {X : Type 0} (P : X → Type 0) (xs : List X) → ((x : X) → In x xs → P x) → AllByRecursion P xs
all_from P [] f = tt
all_from P (x ∷ xs) f = (f x (inl refl), all_from P xs (λ y i. f y (inr i)))
