-- Lists of anything: those that pass a test, and one put in its place.
use Rattle.std.proofs.Common.{◌≡◌, Bool, true, false, cond, List, [], ◌∷◌, map, filter, refl, ap}
use Rattle.std.specs.List.{AllByRecursion}
use Rattle.sending.specs.Sheet.{placed}

pub all_cond : {P : Type 0} (Q : P → Type 0) (b : Bool) (xs ys : List P) → (b ≡ true → AllByRecursion Q xs) → (b ≡ false → AllByRecursion Q ys) → AllByRecursion Q (cond b xs ys)
all_cond Q true xs ys f g = f refl
all_cond Q false xs ys f g = g refl

pub all_placed : {P : Type 0} (Q : P → Type 0) (b : P → P → Bool) (x : P) (xs : List P) → Q x → AllByRecursion Q xs → AllByRecursion Q (placed b x xs)
all_placed Q b x [] h a = (h, tt)
all_placed Q b x (y ∷ ys) h a = all_cond Q (b x y) _ _ (λ _. (h, a)) (λ _. (a.0, all_placed Q b x ys h a.1))

-- of each that passes
pub all_passing : {P : Type 0} (Q R : P → Type 0) (f : P → Bool) → ((x : P) → Q x → f x ≡ true → R x) → (xs : List P) → AllByRecursion Q xs → AllByRecursion R (filter f xs)
all_passing Q R f h [] a = tt
all_passing Q R f h (x ∷ xs) a = all_cond R (f x) _ _ (λ e. (h x a.0 e, all_passing Q R f h xs a.1)) (λ _. all_passing Q R f h xs a.1)

-- of each that has both
pub all_two : {P : Type 0} (Q R S : P → Type 0) → ((x : P) → Q x → R x → S x) → (xs : List P) → AllByRecursion Q xs → AllByRecursion R xs → AllByRecursion S xs
all_two Q R S h [] a b = tt
all_two Q R S h (x ∷ xs) a b = (h x a.0 b.0, all_two Q R S h xs a.1 b.1)

pub kept_all : {P : Type 0} (f : P → Bool) (xs : List P) → AllByRecursion (λ x. f x ≡ true) xs → filter f xs ≡ xs
kept_all f [] a = refl
kept_all f (x ∷ xs) a = rw (a.0, kept_all f xs a.1)

pub kept_none : {P : Type 0} (f : P → Bool) (xs : List P) → AllByRecursion (λ x. f x ≡ false) xs → filter f xs ≡ []
kept_none f [] a = refl
kept_none f (x ∷ xs) a = rw a.0 (kept_none f xs a.1)

-- by tests that agree
pub kept_same : {P : Type 0} (Q : P → Type 0) (f g : P → Bool) → ((p : P) → Q p → f p ≡ g p) → (xs : List P) → AllByRecursion Q xs → filter f xs ≡ filter g xs
kept_same Q f g h [] a = refl
kept_same Q f g h (x ∷ xs) a = rw (h x a.0, kept_same Q f g h xs a.1)

-- a map that keeps the order keeps the place
pub map-placed : {P : Type 0} (Q : P → Type 0) (b : P → P → Bool) (f : P → P) → ((x y : P) → Q x → Q y → b (f x) (f y) ≡ b x y) → (x : P) (ys : List P) → Q x → AllByRecursion Q ys → map f (placed b x ys) ≡ placed b (f x) (map f ys)
map-placed Q b f e x [] h a = refl
map-placed {P} Q b f e x (y ∷ ys) h a = rw (e x y h a.0) (go (b x y) (map-placed Q b f e x ys h a.1))
  where
    go : (t : Bool) → map f (placed b x ys) ≡ placed b (f x) (map f ys) → map f (cond {A = List P} t (x ∷ y ∷ ys) (y ∷ placed b x ys)) ≡ cond t (f x ∷ f y ∷ map f ys) (f y ∷ placed b (f x) (map f ys))
    go true h = refl
    go false h = ap (λ (l : List P). f y ∷ l) h
