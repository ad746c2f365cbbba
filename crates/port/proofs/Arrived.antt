-- Packets are taken one by one. Assumes nothing.
use Rattle.std.proofs.Common.{◌≡◌, ℕ, ◌≤◌, Bool, true, false, cond, leb, List, [], ◌∷◌, length, Some, None, Option, sym, refl, ap, ◌∙◌, subst, arith}
use Rattle.std.proofs.lemmas.Bool.{leb-true, le-leb, cond-true}
use Rattle.traffic.specs.declared.packet.Packet.{Packet}
use Rattle.traffic.specs.Packets.{Traffic}
use Rattle.sheet.specs.Contents.{traffic_of}
use Rattle.gates.specs.declared.entry.Entry.{Entry}
use Rattle.sending.specs.Port.{State}
use Rattle.sending.specs.Calls.{Counts, Taken, take_in, tallied, takes}
use Rattle.port.specs.declared.station.Station.{Station}
use Rattle.port.specs.Counting.{counts_of}
use Rattle.port.specs.Station.{state_of, sheet_of, arrived_head, behind_arrived, taking, Room, TookIn}

-- the head has arrived
pub head_arrived : (t : ℕ) (xs : List Packet) (p : Packet) → Some p ≡ arrived_head t xs → xs ≡ p ∷ behind_arrived t xs
head_arrived t [] p e = let z : ◌≡◌ {A = ℕ} 0 1 = cc in absurd (omega arith)
head_arrived t (x ∷ xs) p e = go (leb x.arrival t) e
  where
    go : (b : Bool) → Some p ≡ cond b (Some x) None → x ∷ xs ≡ p ∷ cond {A = List Packet} b xs (x ∷ xs)
    go true h = let k : x ≡ p = cc in ap (λ (y : Packet). y ∷ xs) k
    go false h = let z : ◌≡◌ {A = ℕ} 0 1 = cc in absurd (omega arith)

pub by_then : (t : ℕ) (xs : List Packet) (p : Packet) → Some p ≡ arrived_head t xs → p.arrival ≤ t
by_then t [] p e = let z : ◌≡◌ {A = ℕ} 0 1 = cc in absurd (omega arith)
by_then t (x ∷ xs) p e = go (leb x.arrival t) refl e
  where
    go : (b : Bool) → leb x.arrival t ≡ b → Some p ≡ cond b (Some x) None → p.arrival ≤ t
    go true b h = let k : x ≡ p = cc in subst (λ (y : Packet). y.arrival ≤ t) k (leb-true x.arrival t b)
    go false b h = let z : ◌≡◌ {A = ℕ} 0 1 = cc in absurd (omega arith)

-- none has
pub none_arrived : (s : Traffic) (es : List Entry) (t : ℕ) (c : Counts) (last : Option Packet) (st : State Packet) (xs : List Packet) → None ≡ arrived_head t xs →
    takes s es t c last st xs ≡ record { state = st; last = last; counts = c; left = behind_arrived t xs }
none_arrived s es t c last st [] e = refl
none_arrived s es t c last st (x ∷ xs) e = go (leb x.arrival t) e
  where
    go : (b : Bool) → None ≡ cond b (Some x) None →
        cond {A = Taken} b (takes s es t (tallied s es t last st x c) (Some x) (take_in s es t last st x) xs) (record { state = st; last = last; counts = c; left = x ∷ xs }) ≡ record { state = st; last = last; counts = c; left = cond {A = List Packet} b xs (x ∷ xs) }
    go true h = let z : ◌≡◌ {A = ℕ} 0 1 = cc in absurd (omega arith)
    go false h = refl

-- one packet after another
pub takes-next : (s : Traffic) (es : List Entry) (t : ℕ) (c : Counts) (last : Option Packet) (st : State Packet) (p : Packet) (xs : List Packet) → p.arrival ≤ t →
    takes s es t c last st (p ∷ xs) ≡ takes s es t (tallied s es t last st p c) (Some p) (take_in s es t last st p) xs
takes-next s es t c last st p xs l = cond-true (leb p.arrival t) _ _ (le-leb p.arrival t l)

module _ (es : List Entry) (t : ℕ) (p : Packet) (x : Station) (l : p.arrival ≤ t) where
  -- there is room for one
  pub room-one : Room es t x → (q : ℕ) → length ((take_in (sheet_of x) es t x.last (state_of x) p).waiting q) ≤ 64
  room-one r q = subst (λ (k : Taken). length (k.state.waiting q) ≤ 64) (takes-next (sheet_of x) es t (counts_of x.counts) x.last (state_of x) p [] l) (r (p ∷ []) q)

  module _ (y : Station) (h : TookIn es t p x y) where
    -- after it, the rest is to be taken
    pub taken_next : (xs : List Packet) → taking es t x (p ∷ xs) ≡ taking es t y xs
    taken_next xs =
        takes-next (sheet_of x) es t (counts_of x.counts) x.last (state_of x) p xs l
        ∙ (λ i. takes (traffic_of (sym h.sheet i).now) es t (sym h.counts i) (sym h.last i) (sym h.state i) xs)

    pub room_next : Room es t x → Room es t y
    room_next r xs q = subst (λ (k : Taken). length (k.state.waiting q) ≤ 64) (taken_next xs) (r (p ∷ xs) q)
