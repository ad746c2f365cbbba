-- The three ways of the pattern, and that it leaves few optional packets in a row.
use Rattle.std.proofs.Common.{◌≡◌, ℕ, ◌+◌, ◌-◌, ◌/◌, max, false, eqb, sym, ap, ◌∙◌, div-le_self, arith, rules}
use native.Mathlib.Nat.{div-zero, div-eq_of_lt, max_comm}
use Rattle.std.proofs.lemmas.Bool.Decides.{nat_tests}
use Rattle.traffic.specs.Pattern.{pattern}
use Rattle.traffic.proofs.Rows.{few_optional}
use Rattle.traffic.proofs.pattern.pattern.Goals as goal

-- some packet may be missed
some_miss : (m : ℕ) → (m ≡ 0 → ⊥) → eqb m 0 ≡ false
some_miss m h = grind (arith, nat_tests)

-- where none is kept
none_kept : (m k : ℕ) → (m ≡ 0 → ⊥) → k - m ≡ 0 → (1, 0) ≡ pattern m k
none_kept m k some none =
    let h : (0 + (m - 1)) / m ≡ 0 = div-eq_of_lt (omega arith) in
    let w : m / 0 ≡ 0 = div-zero m in
    rw (some_miss m some, none, w, h)

pub returns-then-miss-eq0 : goal.returns-then-miss-eq0
returns-then-miss-eq0 c = record { value = rw c.if-miss-eq0.true; length = search rules; few = few_optional c.args.miss c.args.among }

pub returns-then-kept-eq0 : goal.returns-then-kept-eq0
returns-then-kept-eq0 c = record {
  value = none_kept c.args.miss c.args.among c.if-miss-eq0.false (sym c.saturating_sub-kept.ensures ∙ c.if-kept-eq0.true);
  length = search rules;
  few = few_optional c.args.miss c.args.among;
}

pub returns : goal.returns
returns c =
    let m = c.args.miss in
    let k = c.args.among in
    let kept : c.saturating_sub-kept.result ≡ k - m = c.saturating_sub-kept.ensures in
    let w : c.max.result ≡ max 1 (m / (k - m)) = c.max.ensures ∙ max_comm (m / c.saturating_sub-kept.result) 1 ∙ ap (λ (n : ℕ). max 1 (m / n)) kept in
    let h = div-le_self (c.saturating_sub-kept.result + (m - 1)) m in
    record {
      value = rw (some_miss m c.if-miss-eq0.false, w, kept);
      length = (omega arith, omega arith);
      few = few_optional m k;
    }
