-- What two lists of packets give together.
use Rattle.std.specs.Prelude.{◌≡◌, ◌+◌, Bool, true, false, cond, List, [], ◌∷◌, Some, None, Option}
use Rattle.std.specs.List.{AllByRecursion}
use Rattle.traffic.specs.declared.packet.Packet.{Packet}
use Rattle.traffic.specs.Orders.{delivered_before, PacketsDiffer}
use Rattle.arrivals.specs.Sources.{Rises, NeverFalls, times}

-- of the two heads the one first in delivery order, of equals the first list's
abbrev pub merged : List Packet → List Packet → List Packet
merged [] ys = ys
merged (x ∷ xs) [] = x ∷ xs
merged (x ∷ xs) (y ∷ ys) = cond (delivered_before y x) (y ∷ merged (x ∷ xs) ys) (x ∷ merged xs (y ∷ ys))

-- of two heads, whether the second is the one to take
abbrev pub second_first : Option Packet → Option Packet → Bool
second_first None None = false
second_first (Some x) None = false
second_first None (Some y) = true
second_first (Some x) (Some y) = delivered_before y x

-- the lists share no place: no packet of the one has flow and arrival of one of the other
abbrev pub Apart : List Packet → List Packet → Type 0
Apart xs ys = AllByRecursion (λ x. AllByRecursion (λ y. PacketsDiffer x y) ys) xs

-- two lists merged hold the packets of both and no others, as often; two in order never fall, and rise where they share no place
pub record MergeLaws (xs ys : List Packet) : Type 0 where
  pub holds : (p : Packet) → times p (merged xs ys) ≡ times p xs + times p ys
  pub steady : Rises xs → Rises ys → NeverFalls (merged xs ys)
  pub strict : Rises xs → Rises ys → Apart xs ys → Rises (merged xs ys)
