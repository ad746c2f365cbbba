-- An advance, instant by instant. Assumes nothing.
use Rattle.std.proofs.Common.{◌≡◌, ℕ, suc, List, Some, None, Option, sym, ap, ◌∙◌}
use Rattle.traffic.specs.declared.packet.Packet.{Packet}
use Rattle.traffic.specs.Packets.{Traffic}
use Rattle.sending.specs.Calls.{Advanced, Decided, Port, advance_by, decide}

-- what an advance does after an instant, by what started then
abbrev pub goes : Traffic → (t n : ℕ) → Decided → Option Packet → Advanced
goes s t n d o = elim o [ None ↦ advance_by s n d.port d.left | Some y ↦ record { port = d.port; left = d.left; start = Some (record { at = t; packet = y }) } ]

module _ (s r : Traffic) (same : r ≡ s) (p q : Port) (xs rest : List Packet) (start : Option Packet) (port : q ≡ (decide r p xs).port) (left : rest ≡ (decide r p xs).left) (starts : start ≡ (decide r p xs).start) where
  decided : decide s p xs ≡ record { port = q; left = rest; start = start }
  decided = ap (λ (k : Traffic). decide k p xs) (sym same) ∙ (λ i. record { port = sym port i; left = sym left i; start = sym starts i })

  goes_on : (n m : ℕ) → n ≡ suc m → advance_by s n p xs ≡ goes s p.clock m (record { port = q; left = rest; start = start }) start
  goes_on n m e = ap (λ (k : ℕ). advance_by s k p xs) e ∙ ap (λ (d : Decided). goes s p.clock m d d.start) decided

-- something starts
pub run_start : (s r : Traffic) → r ≡ s → (p q : Port) (xs rest : List Packet) (y : Packet) → q ≡ (decide r p xs).port → rest ≡ (decide r p xs).left → Some y ≡ (decide r p xs).start → (n m : ℕ) → n ≡ suc m →
    advance_by s n p xs ≡ record { port = q; left = rest; start = Some (record { at = p.clock; packet = y }) }
run_start s r same p q xs rest y port left starts n m e = goes_on s r same p q xs rest (Some y) port left starts n m e

-- nothing does
pub run_on : (s r : Traffic) → r ≡ s → (p q : Port) (xs rest : List Packet) → q ≡ (decide r p xs).port → rest ≡ (decide r p xs).left → None ≡ (decide r p xs).start → (n m : ℕ) → n ≡ suc m →
    advance_by s n p xs ≡ advance_by s m q rest
run_on s r same p q xs rest port left starts n m e = goes_on s r same p q xs rest None port left starts n m e
