-- The orders between packets. Assumes nothing.
use Rattle.std.specs.Prelude.{◌≡◌, ℕ, ◌-◌, Bool, true, false, cond, not, ◌&&◌, ◌||◌, ◌⊎◌, ◌==◌, ◌≢◌, nat_lt}
use Rattle.traffic.specs.declared.packet.Packet.{Packet}
use Rattle.traffic.specs.declared.packet.Job.{Job}

-- the smaller first; of equals the rest decides
abbrev pub then_by : ℕ → ℕ → Bool → Bool
then_by a b rest = nat_lt a b || (a == b && rest)

-- the weight counts in queue 0 only, the greater first
abbrev pub lightness : Job → ℕ
lightness x = cond (x.queue == 0) (255 - x.weight) 0

-- queue order: earlier arrival, in queue 0 greater weight, earlier deadline, greater wire time, smaller flow
abbrev pub queue_before : Job → Job → Bool
queue_before x y =
    then_by x.arrival y.arrival
    (then_by (lightness x) (lightness y)
    (then_by x.deadline y.deadline
    (then_by y.wire x.wire (nat_lt x.flow y.flow))))

-- delivery order: earlier arrival, then smaller flow
abbrev pub delivered_before : Packet → Packet → Bool
delivered_before x y = then_by x.arrival y.arrival (nat_lt x.flow y.flow)

-- these differ in flow or arrival
abbrev pub JobsDiffer : Job → Job → Type 0
JobsDiffer x y = (x.flow ≢ y.flow) ⊎ (x.arrival ≢ y.arrival)

abbrev pub PacketsDiffer : Packet → Packet → Type 0
PacketsDiffer x y = (x.flow ≢ y.flow) ⊎ (x.arrival ≢ y.arrival)

-- a total order: none is before itself, before is transitive, and of two that differ exactly one is before the other
pub record StrictOrder {X : Type 0} (before : X → X → Bool) (Differ : X → X → Type 0) : Type 0 where
  pub never : (x : X) → before x x ≡ false
  pub chained : (x y z : X) → before x y ≡ true → before y z ≡ true → before x z ≡ true
  pub decides : (x y : X) → Differ x y → before x y ≡ not (before y x)
