-- Queue order and delivery order are total orders. Assumes nothing.
use Rattle.std.proofs.Common.{◌≡◌, ℕ, true, false, not, ltb, ◌⊎◌, inl, inr, arith}
use Rattle.std.proofs.lemmas.Bool.Decides.{nat_tests}
use Rattle.traffic.specs.Orders.{StrictOrder, lightness, queue_before, delivered_before, JobsDiffer, PacketsDiffer}
use Rattle.traffic.proofs.Keyed.{then_never, then_chained, then_chained_down, then_decides}

last_never : (a : ℕ) → ltb a a ≡ false
last_never a = grind (arith, nat_tests)

last_chained : (a b c : ℕ) → ltb a b ≡ true → ltb b c ≡ true → ltb a c ≡ true
last_chained a b c x y = grind (arith, nat_tests)

last_decides : (a b : ℕ) → (a ≡ b → ⊥) → ltb a b ≡ not (ltb b a)
last_decides a b h = grind (arith, nat_tests)

-- flows differ where arrivals do not
other_flow : (f g a b : ℕ) → (f ≡ g → ⊥) ⊎ (a ≡ b → ⊥) → a ≡ b → f ≡ g → ⊥
other_flow f g a b (inl h) e = h
other_flow f g a b (inr h) e = absurd (h e)

pub queue_order : StrictOrder queue_before JobsDiffer
queue_order = record {
  never = λ x. then_never x.arrival _ (then_never (lightness x) _ (then_never x.deadline _ (then_never x.wire _ (last_never x.flow))));
  chained = λ x y z.
      then_chained x.arrival y.arrival z.arrival _ _ _
      (then_chained (lightness x) (lightness y) (lightness z) _ _ _
      (then_chained x.deadline y.deadline z.deadline _ _ _
      (then_chained_down x.wire y.wire z.wire _ _ _ (last_chained x.flow y.flow z.flow))));
  decides = λ x y d.
      then_decides x.arrival y.arrival _ _ (λ e.
      then_decides (lightness x) (lightness y) _ _ (λ _.
      then_decides x.deadline y.deadline _ _ (λ _.
      then_decides y.wire x.wire _ _ (λ _. last_decides x.flow y.flow (other_flow x.flow y.flow x.arrival y.arrival d e)))));
}

pub delivery_order : StrictOrder delivered_before PacketsDiffer
delivery_order = record {
  never = λ x. then_never x.arrival _ (last_never x.flow);
  chained = λ x y z. then_chained x.arrival y.arrival z.arrival _ _ _ (last_chained x.flow y.flow z.flow);
  decides = λ x y d. then_decides x.arrival y.arrival _ _ (λ e. last_decides x.flow y.flow (other_flow x.flow y.flow x.arrival y.arrival d e));
}
