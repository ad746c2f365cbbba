-- Lists that rise. Assumes nothing.
use Rattle.std.specs.Prelude.{◌≡◌, Bool, true, ◌⊎◌, List, [], ◌∷◌}
use Rattle.std.specs.List.{AllByRecursion}

-- one of these
abbrev pub In : {X : Type 0} → X → List X → Type 0
In x [] = ⊥
In x (y ∷ ys) = (x ≡ y) ⊎ In x ys

-- each before all that follow it
abbrev pub Rises : {X : Type 0} → (X → X → Bool) → List X → Type 0
Rises b [] = Unit {0}
Rises b (x ∷ xs) = AllByRecursion (λ y. b x y ≡ true) xs × Rises b xs
