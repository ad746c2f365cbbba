-- At the end the divisor is 0, and what is left is the greatest common divisor.
use Rattle.std.proofs.Common.{◌≡◌, ℕ, sym, ap, ◌∙◌, subst, arith}
use Prim.Native.Nat.{◌∣◌}
use Rattle.cycle.specs.Multiple.{gcd}
use Rattle.cycle.proofs.Divisors.{gcd_divides, gcd_greatest, gcd-zero, gcd-rest}
use Rattle.cycle.proofs.multiple.gcd.Goals as goal

pub loop-y-preserved : goal.loop-y-preserved
loop-y-preserved c = gcd-rest c.loop-y.x c.loop-y.y ∙ c.loop-y.invariant

pub returns : goal.returns
returns c =
    let a = c.args.a in
    let b = c.args.b in
    let none : c.loop-y.y ≡ 0 = omega arith in
    let value : c.loop-y.x ≡ gcd a b = sym (gcd-zero c.loop-y.x) ∙ ap (λ (y : ℕ). gcd c.loop-y.x y) (sym none) ∙ c.loop-y.invariant in
    let divides = gcd_divides a b in
    record {
      value = value;
      divides = (subst (λ (r : ℕ). r ∣ a) (sym value) divides.0, subst (λ (r : ℕ). r ∣ b) (sym value) divides.1);
      greatest = λ d da db. subst (λ (r : ℕ). d ∣ r) (sym value) (gcd_greatest a b d da db);
    }
