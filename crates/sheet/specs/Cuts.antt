-- A text cut at a byte. Assumes nothing.
use Rattle.std.specs.Prelude.{ℕ, cond, List, [], ◌∷◌, ◌++◌, Some, None, Option, ◌==◌}
use Rattle.std.specs.Borrow.{Bor}
use Rattle.std.specs.Option.{option_map}

-- with these bytes in front of the first part
abbrev pub behind : List ℕ → Option (List ℕ × List ℕ) → Option (List ℕ × List ℕ)
behind front o = option_map (λ p. (front ++ p.0, p.1)) o

-- what stands before the first byte b, and what behind it; none where there is no such byte
abbrev pub cut_at : ℕ → List ℕ → Option (List ℕ × List ℕ)
cut_at b [] = None
cut_at b (x ∷ xs) = cond (x == b) (Some ([], xs)) (behind (x ∷ []) (cut_at b xs))

-- the bytes of two parts of a text
abbrev pub both_parts : (Bor (List ℕ)) × (Bor (List ℕ)) → List ℕ × List ℕ
both_parts p = (p.0.now, p.1.now)
