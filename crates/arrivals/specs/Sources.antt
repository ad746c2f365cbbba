-- The meaning of an arrival source: the list of the packets still to come.
use Rattle.std.specs.Prelude.{◌≡◌, ℕ, ◌+◌, Bool, true, cond, ◌&&◌, List, [], ◌∷◌, Some, None, Option, ◌==◌}
use Rattle.traffic.specs.declared.packet.Packet.{Packet}
use Rattle.traffic.specs.Orders.{delivered_before}
use Rattle.table.specs.Order.{before_each, in_order}

-- the first of a list, none of an empty one
abbrev pub first : {X : Type 0} → List X → Option X
first [] = None
first (x ∷ xs) = Some x

-- the list without its first
abbrev pub rest : {X : Type 0} → List X → List X
rest [] = []
rest (x ∷ xs) = xs

-- each packet is delivered before all behind it
abbrev pub rises : List Packet → Bool
rises [] = true
rises (x ∷ xs) = before_each delivered_before x xs && rises xs

-- the list rises strictly in delivery order: a source with such a list comes in order
abbrev pub Rises : List Packet → Type 0
Rises ps = rises ps ≡ true

-- no packet is delivered before one in front of it; equals may stand behind each other
abbrev pub NeverFalls : List Packet → Type 0
NeverFalls ps = in_order delivered_before ps ≡ true

-- these are the same packet
abbrev pub same_packet : Packet → Packet → Bool
same_packet p q = p.flow == q.flow && (p.number == q.number && p.arrival == q.arrival)

-- how many times p stands in the list
abbrev pub times : Packet → List Packet → ℕ
times p [] = 0
times p (q ∷ qs) = cond (same_packet p q) 1 0 + times p qs
