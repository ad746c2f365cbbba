-- The two sorts of packets, and the first number that passes a test.
use Rattle.std.specs.Prelude.{◌≡◌, ℕ, ◌<◌, ◌≤◌, Bool, true, false, not}
use Rattle.traffic.specs.declared.flow.Flow.{Flow}
use Rattle.traffic.specs.declared.sort.Sort.{Sort}
use Rattle.traffic.specs.declared.sort.Sort.TheVariants.{Mandatory, Optional}
use Rattle.traffic.specs.Pattern.{mandatory_at}

-- packet j of the flow is of the sort
abbrev pub of_sort : Sort → Flow → ℕ → Bool
of_sort Mandatory f j = mandatory_at f j
of_sort Optional f j = not (mandatory_at f j)

-- n is the first number from j on that passes the test
pub record FirstFrom (test : ℕ → Bool) (j n : ℕ) : Type 0 where
  pub from : j ≤ n
  pub passes : test n ≡ true
  pub first : (i : ℕ) → j ≤ i → i < n → test i ≡ false

-- no number from j on passes the test
abbrev pub NoneFrom : (ℕ → Bool) → ℕ → Type 0
NoneFrom test j = (i : ℕ) → j ≤ i → test i ≡ false
