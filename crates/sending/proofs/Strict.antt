-- What comes to a queue waits strictly in queue order.
use Rattle.std.proofs.Common.{◌≡◌, ℕ, zero, suc, ◌<◌, Bool, true, false, cond, not, List, [], ◌∷◌, ◌++◌, filter, refl, ap, ◌∙◌, ⊎_elim, arith}
use Rattle.std.specs.List.{AllByRecursion}
use Rattle.std.proofs.ByRecursion.{All-append, all_kept_by, All-weaker}
use Rattle.std.proofs.lemmas.Bool.{cases_Bool, both_ways}
use Rattle.traffic.specs.declared.packet.Packet.{Packet}
use Rattle.traffic.specs.Packets.{Traffic}
use Rattle.gates.specs.declared.entry.Entry.{Entry}
use Rattle.sending.specs.Sheet.{OfSheet, packet_at, waits_before, placed}
use Rattle.sending.specs.Port.{has_packet, arriving}
use Rattle.sending.specs.Laws.{InOrder}
use Rattle.sending.proofs.Lists.{all_cond, all_placed, all_two}
use Rattle.sending.proofs.Orders.{asym, behind, decides, sooner}

module _ (s : Traffic) where
  strict_placed : (x : Packet) (ys : List Packet) → AllByRecursion (λ y. y.flow < x.flow) ys → InOrder s ys → InOrder s (placed (waits_before s) x ys)
  strict_placed x [] a h = (tt, tt)
  strict_placed x (y ∷ ys) a h = go (waits_before s x y) refl (strict_placed x ys a.1 h.1)
    where
      chain : (z : Packet) → waits_before s x y ≡ true → waits_before s y z ≡ true → waits_before s x z ≡ true
      chain z e k = ⊎_elim (λ l. l) (λ (l : waits_before s x z ≡ false). absurd (both_ways (waits_before s x y) (behind s y z x (asym s y z k) l) e)) (cases_Bool (waits_before s x z))

      go : (b : Bool) → waits_before s x y ≡ b → InOrder s (placed (waits_before s) x ys) → InOrder s (cond {A = List Packet} b (x ∷ y ∷ ys) (y ∷ placed (waits_before s) x ys))
      go true e r = ((e, All-weaker (λ z. waits_before s y z ≡ true) (λ z. waits_before s x z ≡ true) (λ z. chain z e) ys h.0), h)
      go false e r = (all_placed (λ z. waits_before s y z ≡ true) (waits_before s) x ys (decides s y x (λ k. let l = a.0 in omega arith) ∙ ap not e) h.0, r)

  -- the flows of what comes from the first n
  pub small : (es : List Entry) (q t n : ℕ) → AllByRecursion (λ y. y.flow < suc n) (arriving s es q t n)
  small es q t zero = tt
  small es q t (suc n) =
      let rest = All-weaker (λ y. y.flow < suc n) (λ y. y.flow < suc (suc n)) (λ y l. omega arith) (arriving s es q t n) (small es q t n) in
      all_cond (λ y. y.flow < suc (suc n)) (has_packet s es q t (suc n)) _ _ (λ _. all_placed (λ y. y.flow < suc (suc n)) (waits_before s) (packet_at s (suc n) t) (arriving s es q t n) (omega arith) rest) (λ _. rest)

  pub strict_flows : (es : List Entry) (q t n : ℕ) → InOrder s (arriving s es q t n)
  strict_flows es q t zero = tt
  strict_flows es q t (suc n) = go (has_packet s es q t (suc n)) (strict_flows es q t n)
    where
      go : (b : Bool) → InOrder s (arriving s es q t n) → InOrder s (cond {A = List Packet} b (placed (waits_before s) (packet_at s (suc n) t) (arriving s es q t n)) (arriving s es q t n))
      go true h = strict_placed (packet_at s (suc n) t) (arriving s es q t n) (small es q t n) h
      go false h = h

  pub strict_kept : (f : Packet → Bool) (ys : List Packet) → InOrder s ys → InOrder s (filter f ys)
  strict_kept f [] h = tt
  strict_kept f (y ∷ ys) h = go (f y) (strict_kept f ys h.1)
    where
      go : (b : Bool) → InOrder s (filter f ys) → InOrder s (cond {A = List Packet} b (y ∷ filter f ys) (filter f ys))
      go true r = (all_kept_by f (λ z. waits_before s y z ≡ true) ys h.0, r)
      go false r = r

  -- what comes at t goes behind what came before t
  pub strict_append : (t : ℕ) (ws vs : List Packet) → InOrder s ws → InOrder s vs → AllByRecursion (OfSheet s) ws → AllByRecursion (λ w. w.arrival < t) ws → AllByRecursion (OfSheet s) vs → AllByRecursion (λ v. v.arrival ≡ t) vs → InOrder s (ws ++ vs)
  strict_append t [] vs h k a b c d = k
  strict_append t (w ∷ ws) vs h k a b c d =
      let early = b.0 in
      let ahead : AllByRecursion (λ v. waits_before s w v ≡ true) vs = all_two (OfSheet s) (λ v. v.arrival ≡ t) (λ v. waits_before s w v ≡ true) (λ v o e. sooner s w v a.0 o (omega arith)) vs c d in
      (All-append (λ z. waits_before s w z ≡ true) ws vs h.0 ahead, strict_append t ws vs h.1 k a.1 b.1 c d)
