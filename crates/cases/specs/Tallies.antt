-- How answers are counted. Assumes nothing.
use Rattle.std.specs.Prelude.{ℕ, ◌+◌, ◌-◌, ◌^◌, min, Bool, true, false, List, ◌++◌, codes, decimal}
use Rattle.cases.specs.declared.Tally.{Tally}

-- the counts with one more answer
abbrev pub tallied : Bool → Tally → Tally
tallied true t = record { agree = min (t.agree + 1) (2 ^ 32 - 1); differ = t.differ }
tallied false t = record { agree = t.agree; differ = min (t.differ + 1) (2 ^ 32 - 1) }

-- the counts as they are told
abbrev pub tally_text : Tally → List ℕ
tally_text t = decimal t.agree ++ (codes " agree, " ++ (decimal t.differ ++ codes " differ"))
