-- Queue order and delivery order keep the laws of an ordered table. Assumes nothing.
use Rattle.std.specs.Prelude.{◌≡◌, ℕ, Bool, true, false, nat_lt}
use Rattle.std.proofs.Common.{arith}
use Rattle.std.proofs.lemmas.Bool.Decides.{nat_tests}
use Rattle.traffic.specs.declared.packet.Packet.{Packet}
use Rattle.traffic.specs.declared.packet.Job.{Job}
use Rattle.traffic.specs.Orders.{then_by, lightness, queue_before, delivered_before}

-- of two at most one is before the other, where that holds of the rest
then_asym : (a b : ℕ) (p q : Bool) → (p ≡ true → q ≡ false) → then_by a b p ≡ true → then_by b a q ≡ false
then_asym a b p q h x = grind (arith, nat_tests)

last_asym : (a b : ℕ) → nat_lt a b ≡ true → nat_lt b a ≡ false
last_asym a b x = grind (arith, nat_tests)

-- equals stay behind each other, where that holds of the rest
then-behind : (a b c : ℕ) (p q r : Bool) → (p ≡ false → q ≡ false → r ≡ false) → then_by b a p ≡ false → then_by c b q ≡ false → then_by c a r ≡ false
then-behind a b c p q r h x y = grind (arith, nat_tests)

-- the same with the greater first
then-behind_down : (a b c : ℕ) (p q r : Bool) → (p ≡ false → q ≡ false → r ≡ false) → then_by a b p ≡ false → then_by b c q ≡ false → then_by a c r ≡ false
then-behind_down a b c p q r h x y = grind (arith, nat_tests)

last_behind : (a b c : ℕ) → nat_lt b a ≡ false → nat_lt c b ≡ false → nat_lt c a ≡ false
last_behind a b c x y = grind (arith, nat_tests)

pub queue_asym : (x y : Job) → queue_before x y ≡ true → queue_before y x ≡ false
queue_asym x y =
    then_asym x.arrival y.arrival _ _
    (then_asym (lightness x) (lightness y) _ _
    (then_asym x.deadline y.deadline _ _
    (then_asym y.wire x.wire _ _ (last_asym x.flow y.flow))))

pub queue-behind : (x y z : Job) → queue_before y x ≡ false → queue_before z y ≡ false → queue_before z x ≡ false
queue-behind x y z =
    then-behind x.arrival y.arrival z.arrival _ _ _
    (then-behind (lightness x) (lightness y) (lightness z) _ _ _
    (then-behind x.deadline y.deadline z.deadline _ _ _
    (then-behind_down x.wire y.wire z.wire _ _ _ (last_behind x.flow y.flow z.flow))))

pub delivery_asym : (p q : Packet) → delivered_before p q ≡ true → delivered_before q p ≡ false
delivery_asym p q = then_asym p.arrival q.arrival _ _ (last_asym p.flow q.flow)

pub delivery-behind : (p q r : Packet) → delivered_before q p ≡ false → delivered_before r q ≡ false → delivered_before r p ≡ false
delivery-behind p q r = then-behind p.arrival q.arrival r.arrival _ _ _ (last_behind p.flow q.flow r.flow)
