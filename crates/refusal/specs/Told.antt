-- The text of a refusal. Assumes nothing.
use Rattle.std.specs.Prelude.{ℕ, List, [], ◌∷◌, ◌++◌, codes, decimal}
use Rattle.refusal.specs.declared.Refusal.{Refusal}

-- a refusal at a place, with no number
abbrev pub at_place : ℕ → ℕ → Refusal
at_place code place = record { code = code; place = place; number = 0 }

-- one that names neither
abbrev pub plain : ℕ → Refusal
plain code = at_place code 0

-- three lines, each a key, "=", a number in base ten, and byte 10
abbrev pub refusal_text : Refusal → List ℕ
refusal_text x =
    codes "refused=" ++ (decimal x.code ++ (codes "\nplace=" ++ (decimal x.place ++ (codes "\nnumber=" ++ (decimal x.number ++ (10 ∷ []))))))
