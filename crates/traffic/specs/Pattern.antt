-- Which packets of a flow are mandatory. Assumes nothing.
use Rattle.std.specs.Prelude.{ℕ, zero, suc, ◌+◌, ◌-◌, ◌/◌, ◌%◌, max, Bool, cond, ◌==◌, nat_le}
use Rattle.traffic.specs.declared.flow.Flow.{Flow}

-- a / b rounded up
abbrev pub rounded_up : ℕ → ℕ → ℕ
rounded_up a b = (a + (b - 1)) / b

-- the pattern (w, h) of a flow that may miss m of any k packets in a row: after h mandatory packets come w optional ones
abbrev pub pattern : ℕ → ℕ → ℕ × ℕ
pattern m k = cond (m == 0) (0, 1) (max 1 (m / (k - m)), rounded_up (k - m) m)

-- x, the length of the whole pattern
abbrev pub pattern_length : ℕ → ℕ → ℕ
pattern_length m k = (pattern m k).0 + (pattern m k).1

-- packet j, counted from 1, is mandatory where it falls on the first h of its pattern
abbrev pub mandatory_number : ℕ → ℕ → ℕ → Bool
mandatory_number m k j = nat_le ((j - 1) % pattern_length m k + 1) (pattern m k).1

abbrev pub mandatory_at : Flow → ℕ → Bool
mandatory_at f j = mandatory_number f.miss f.among j

-- the length of a flow's pattern
abbrev pub turn : Flow → ℕ
turn f = pattern_length f.miss f.among

-- how many of n packets in a row, from packet j on, are optional
abbrev pub optionals : (m k j n : ℕ) → ℕ
optionals m k j zero = 0
optionals m k j (suc n) = cond (mandatory_number m k j) 0 1 + optionals m k (suc j) n
