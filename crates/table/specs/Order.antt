-- Records in order, and a record put among them.
use Rattle.std.specs.Prelude.{◌≡◌, Bool, true, false, if◌then◌else◌, not, ◌&&◌, List, [], ◌∷◌, ◌++◌}
use Rattle.std.specs.List.{AllByRecursion}

-- no record of the list is before x
abbrev pub none_before : {X : Type 0} → (X → X → Bool) → X → List X → Bool
none_before b x [] = true
none_before b x (y ∷ ys) = not (b y x) && none_before b x ys

-- the records stand in order: none is before one that stands in front of it
abbrev pub in_order : {X : Type 0} → (X → X → Bool) → List X → Bool
in_order b [] = true
in_order b (x ∷ xs) = none_before b x xs && in_order b xs

-- x in front of the first record that it is before
abbrev pub placed : {X : Type 0} → (X → X → Bool) → X → List X → List X
placed b x [] = x ∷ []
placed b x (y ∷ ys) = if b x y then x ∷ (y ∷ ys) else y ∷ placed b x ys

-- x is before each record of the list
abbrev pub before_each : {X : Type 0} → (X → X → Bool) → X → List X → Bool
before_each b x [] = true
before_each b x (y ∷ ys) = b x y && before_each b x ys

-- x behind the last record that it is not before: the same place where the records stand in order
abbrev pub placed_last : {X : Type 0} → (X → X → Bool) → X → List X → List X
placed_last b x [] = x ∷ []
placed_last b x (y ∷ ys) = if before_each b x (y ∷ ys) then x ∷ (y ∷ ys) else y ∷ placed_last b x ys

-- ys is xs with x put in order behind its equals: the records of xs stay as they stood, in front of x and behind it,
-- x is before none in front of it, and before each behind it
pub record Joined {X : Type 0} (b : X → X → Bool) (x : X) (xs ys : List X) : Type 0 where
  pub front : List X
  pub back : List X
  pub was : xs ≡ front ++ back
  pub is : ys ≡ front ++ (x ∷ back)
  pub follows : AllByRecursion (λ y. b x y ≡ false) front
  pub leads : AllByRecursion (λ y. b x y ≡ true) back
