-- The least common multiple by the greatest common divisor, and the limit.
use Rattle.std.proofs.Common.{◌≡◌, ℕ, ◌*◌, ◌/◌, ◌<◌, ◌^◌, Bool, leb, Some, None, Option, MatchOption, sym, ap, ◌∙◌, arith, rules}
use Rattle.std.specs.Bool.{then_some}
use Rattle.std.specs.Option.{SomeIff}
use Rattle.std.proofs.lemmas.Bool.Decides.{nat_tests}
use native.Mathlib.Nat.{pos_of_dvd_of_pos}
use Rattle.cycle.specs.Multiple.{lcm, within}
use Rattle.cycle.proofs.Multiples.{lcm_by_gcd, lcm-zero, lcm_multiple, lcm-least}
use Rattle.cycle.proofs.multiple.lcm_within.Goals as goal

pub returns-then-a-eq0 : goal.returns-then-a-eq0
returns-then-a-eq0 c =
    let a = c.args.a in
    let b = c.args.b in
    let zero : 0 ≡ lcm a b = sym (ap (λ (x : ℕ). lcm x b) c.if-a-eq0.true ∙ lcm-zero b) in
    let low : Some 0 ≡ within c.args.limit 0 = grind (arith, nat_tests) in
    record { value = low ∙ ap (within c.args.limit) zero; multiple = lcm_multiple a b; least = lcm-least a b }

pub nonzero_div-a : goal.nonzero_div-a
nonzero_div-a c = let some : 0 < c.args.a = omega arith in pos_of_dvd_of_pos c.gcd.ensures.divides.0 some

-- a product within the limit is kept
kept : (limit n : ℕ) (o r : Option ℕ) → limit < 2 ^ 64 → SomeIff o (n < 2 ^ 64) n → MatchOption o (r ≡ None) (λ x. (b : Bool) × (b ≡ leb x limit) × (r ≡ then_some b x)) → r ≡ within limit n
kept limit n None r fits product test = grind (arith, nat_tests)
kept limit n (Some x) r fits product test = grind (arith, nat_tests)

pub returns : goal.returns
returns c =
    let a = c.args.a in
    let b = c.args.b in
    let is : a / c.gcd.result * b ≡ lcm a b = lcm_by_gcd a b c.gcd.result c.gcd.ensures.value in
    record { value = kept c.args.limit _ c.checked_mul.result c.filter.result (omega arith) c.checked_mul.ensures (search rules) ∙ ap (within c.args.limit) is; multiple = lcm_multiple a b; least = lcm-least a b }
