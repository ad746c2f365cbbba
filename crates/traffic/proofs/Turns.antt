-- The next number of a sort, by its place in the pattern. Assumes nothing.
use Rattle.std.proofs.Common.{◌≡◌, ℕ, ◌+◌, ◌-◌, ◌%◌, ◌<◌, ◌≤◌, not, leb, sym, ap, ◌∙◌, mod-lt, mod-eq_of_lt, arith}
use native.Mathlib.Nat.{mod-add-mod, mod_self}
use Rattle.std.proofs.lemmas.Bool.{le-leb, lt-leb}
use Rattle.traffic.specs.declared.flow.Flow.{Flow}
use Rattle.traffic.specs.declared.sort.Sort.TheVariants.{Mandatory, Optional}
use Rattle.traffic.specs.Pattern.{pattern, mandatory_at}
use Rattle.traffic.specs.Sorts.{of_sort, FirstFrom}

mod_ahead : (a d x : ℕ) → a % x + d < x → (a + d) % x ≡ a % x + d
mod_ahead a d x h = sym (mod-add-mod a x d) ∙ mod-eq_of_lt h

mod_wrap : (a x : ℕ) → 0 < x → (a + (x - a % x)) % x ≡ 0
mod_wrap a x h =
    let below = mod-lt a h in
    let whole : a % x + (x - a % x) ≡ x = omega arith in
    sym (mod-add-mod a x (x - a % x)) ∙ ap (λ (n : ℕ). n % x) whole ∙ mod_self x

-- the place of a number a little further on
place_ahead : (j i x : ℕ) → 0 < j → j ≤ i → (j - 1) % x + (i - j) < x → (i - 1) % x ≡ (j - 1) % x + (i - j)
place_ahead j i x h le below =
    let is : i - 1 ≡ (j - 1) + (i - j) = omega arith in
    ap (λ (n : ℕ). n % x) is ∙ mod_ahead (j - 1) (i - j) x below

module _ (f : Flow) (from : ℕ) (r : ℕ × ℕ) (is : r ≡ pattern f.miss f.among) (one : 1 ≤ from) where
  -- the test of a packet by its place
  mandatory_by : (j : ℕ) → mandatory_at f j ≡ leb ((j - 1) % (r.0 + r.1) + 1) r.1
  mandatory_by j = ap (λ (p : ℕ × ℕ). leb ((j - 1) % (p.0 + p.1) + 1) p.1) (sym is)

  -- from an optional packet on, the next pattern begins with a mandatory one
  pub past_optional : 0 < r.1 → r.1 ≤ (from - 1) % (r.0 + r.1) → FirstFrom (of_sort Mandatory f) from (from + (r.0 + r.1 - (from - 1) % (r.0 + r.1)))
  past_optional some behind =
      let x = r.0 + r.1 in
      let n = from + (x - (from - 1) % x) in
      let below : (from - 1) % x < x = mod-lt (from - 1) (omega arith) in
      let next : n - 1 ≡ (from - 1) + (x - (from - 1) % x) = omega arith in
      let start : (n - 1) % x ≡ 0 = ap (λ (a : ℕ). a % x) next ∙ mod_wrap (from - 1) x (omega arith) in
      record {
        from = omega arith;
        passes = mandatory_by n ∙ le-leb ((n - 1) % x + 1) r.1 (omega arith);
        first = λ i l u. let at = place_ahead from i x one l (omega arith) in mandatory_by i ∙ lt-leb ((i - 1) % x + 1) r.1 (omega arith);
      }

  -- from a mandatory packet on, the optional ones of its pattern come
  pub past_mandatory : 0 < r.0 → (from - 1) % (r.0 + r.1) < r.1 → FirstFrom (of_sort Optional f) from (from + (r.1 - (from - 1) % (r.0 + r.1)))
  past_mandatory some within =
      let x = r.0 + r.1 in
      let n = from + (r.1 - (from - 1) % x) in
      let end : (n - 1) % x ≡ (from - 1) % x + (n - from) = place_ahead from n x one (omega arith) (omega arith) in
      record {
        from = omega arith;
        passes = ap not (mandatory_by n ∙ lt-leb ((n - 1) % x + 1) r.1 (omega arith));
        first = λ i l u. let at = place_ahead from i x one l (omega arith) in ap not (mandatory_by i ∙ le-leb ((i - 1) % x + 1) r.1 (omega arith));
      }
