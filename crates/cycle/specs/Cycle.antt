-- The cycle of the flows of a sheet, and a packet's number in it. Assumes nothing.
use Rattle.std.specs.Prelude.{◌≡◌, ℕ, ◌+◌, ◌-◌, ◌*◌, ◌/◌, ◌%◌, ◌<◌, ◌≤◌, Bool, true, cond, ◌&&◌, List, [], ◌∷◌, map, ◌==◌}
use Rattle.std.specs.List.{ContainsAt}
use Rattle.traffic.specs.declared.flow.Flow.{Flow}
use Rattle.traffic.specs.Pattern.{turn, mandatory_at}
use Rattle.traffic.specs.Packets.{arrival}
use Rattle.cycle.specs.Multiple.{lcm_of}

-- the time that a whole pattern of a flow takes
abbrev pub pattern_time : Flow → ℕ
pattern_time f = turn f * f.period

-- H, the least common multiple of all periods
abbrev pub hyperperiod : List Flow → ℕ
hyperperiod flows = lcm_of (map (λ f. f.period) flows)

-- the packets of each flow in h are whole patterns
abbrev pub whole_patterns : List Flow → ℕ → Bool
whole_patterns [] h = true
whole_patterns (f ∷ fs) h = h / f.period % turn f == 0 && whole_patterns fs h

-- A, the cycle: H if it holds whole patterns of each flow, else the least common multiple of all pattern times
unfoldable pub cycle_of : List Flow → ℕ
cycle_of flows = cond (whole_patterns flows (hyperperiod flows)) (hyperperiod flows) (lcm_of (map pattern_time flows))

-- how many packets of a flow arrive in a cycle
abbrev pub packets_in : (cycle : ℕ) → Flow → ℕ
packets_in cycle f = cycle / f.period

-- the number in the cycle of packet j of a flow
abbrev pub number_in_cycle : (cycle : ℕ) → Flow → ℕ → ℕ
number_in_cycle cycle f j = (j - 1) % packets_in cycle f + 1

-- packet n of a flow is the one in the first cycle that stands where packet j stands in its own
pub record SamePlace (cycle : ℕ) (f : Flow) (j n : ℕ) : Type 0 where
  pub first : 1 ≤ n
  pub last : n ≤ packets_in cycle f
  pub kind : mandatory_at f n ≡ mandatory_at f j
  pub time : arrival f n ≡ arrival f j % cycle

-- in the cycle of any flows, packet j of one of them stands where the packet with its number in the cycle does
abbrev pub KeepsPlace : (cycle : ℕ) → Flow → ℕ → Type 0
KeepsPlace cycle f j = (flows : List Flow) → ContainsAt flows f → cycle ≡ cycle_of flows → 0 < cycle → SamePlace cycle f j (number_in_cycle cycle f j)
