-- Lists in queue order: a packet put in its place, with or without those that are missing.
use Rattle.std.proofs.Common.{◌≡◌, ℕ, zero, suc, ◌<◌, Bool, true, false, cond, not, ltb, List, [], ◌∷◌, ◌++◌, filter, sym, refl, ap, inl, ⊎_elim, arith}
use Rattle.std.specs.List.{AllByRecursion}
use Rattle.std.proofs.ByRecursion.{all_kept_by, All-weaker}
use Rattle.std.proofs.lemmas.Bool.{cases_Bool, both_ways, lt-ltb, or_left}
use Rattle.std.proofs.lemmas.Bool.Decides.{nat_tests}
use Rattle.traffic.specs.declared.packet.Packet.{Packet}
use Rattle.traffic.specs.Packets.{Traffic}
use Rattle.traffic.specs.Orders.{then_by, lightness}
use Rattle.traffic.proofs.Total.{queue_order}
use Rattle.gates.specs.declared.entry.Entry.{Entry}
use Rattle.sending.specs.Sheet.{OfSheet, job_of, packet_at, waits_before, placed}
use Rattle.sending.specs.Port.{has_packet, arriving}
use Rattle.sending.proofs.Lists.{all_placed}

then-behind : (a b c : ℕ) (x y z : Bool) → (x ≡ false → y ≡ false → z ≡ false) → then_by a b x ≡ false → then_by c a y ≡ false → then_by c b z ≡ false
then-behind a b c x y z h e f = grind (arith, nat_tests)

-- by a greater key first
then_ahead : (a b c : ℕ) (x y z : Bool) → (x ≡ false → y ≡ false → z ≡ false) → then_by a b x ≡ false → then_by b c y ≡ false → then_by a c z ≡ false
then_ahead a b c x y z h e f = grind (arith, nat_tests)

last_behind : (a b c : ℕ) → ltb a b ≡ false → ltb c a ≡ false → ltb c b ≡ false
last_behind a b c e f = grind (arith, nat_tests)

module _ (s : Traffic) where
  pub asym : (x y : Packet) → waits_before s x y ≡ true → waits_before s y x ≡ false
  asym x y e = ⊎_elim
      (λ (h : waits_before s y x ≡ true). absurd (both_ways (waits_before s x x) (queue_order.never (job_of s x)) (queue_order.chained (job_of s x) (job_of s y) (job_of s x) e h)))
      (λ h. h) (cases_Bool (waits_before s y x))

  -- of two flows one is before the other
  pub decides : (x y : Packet) → (x.flow ≡ y.flow → ⊥) → waits_before s x y ≡ not (waits_before s y x)
  decides x y ne = queue_order.decides (job_of s x) (job_of s y) (inl ne)

  -- y is not before x, z is not before y
  pub behind : (x y z : Packet) → waits_before s y x ≡ false → waits_before s z y ≡ false → waits_before s z x ≡ false
  behind x y z =
      let a = job_of s x in let b = job_of s y in let c = job_of s z in
      then-behind b.arrival a.arrival c.arrival _ _ _
      (then-behind (lightness b) (lightness a) (lightness c) _ _ _
      (then-behind b.deadline a.deadline c.deadline _ _ _
      (then_ahead a.wire b.wire c.wire _ _ _ (last_behind b.flow a.flow c.flow))))

  -- the packet that arrives earlier is before the other
  pub sooner : (x y : Packet) → OfSheet s x → OfSheet s y → x.arrival < y.arrival → waits_before s x y ≡ true
  sooner x y o k l = or_left _ _ (lt-ltb (job_of s x).arrival (job_of s y).arrival (let a = o.on_time in let b = k.on_time in omega arith))

  -- each is behind those in front of it
  abbrev pub Sorted : List Packet → Type 0
  Sorted [] = Unit {0}
  Sorted (y ∷ ys) = AllByRecursion (λ z. waits_before s z y ≡ false) ys × Sorted ys

  sorted_placed : (x : Packet) (ys : List Packet) → Sorted ys → Sorted (placed (waits_before s) x ys)
  sorted_placed x [] h = (tt, tt)
  sorted_placed x (y ∷ ys) h = go (waits_before s x y) refl (sorted_placed x ys h.1)
    where
      go : (b : Bool) → waits_before s x y ≡ b → Sorted (placed (waits_before s) x ys) → Sorted (cond {A = List Packet} b (x ∷ y ∷ ys) (y ∷ placed (waits_before s) x ys))
      go true e r = ((asym x y e, All-weaker (λ z. waits_before s z y ≡ false) (λ z. waits_before s z x ≡ false) (λ z. behind x y z (asym x y e)) ys h.0), h)
      go false e r = (all_placed (λ z. waits_before s z y ≡ false) (waits_before s) x ys e h.0, r)

  pub sorted_flows : (es : List Entry) (q t n : ℕ) → Sorted (arriving s es q t n)
  sorted_flows es q t zero = tt
  sorted_flows es q t (suc n) = go (has_packet s es q t (suc n)) (sorted_flows es q t n)
    where
      go : (b : Bool) → Sorted (arriving s es q t n) → Sorted (cond {A = List Packet} b (placed (waits_before s) (packet_at s (suc n) t) (arriving s es q t n)) (arriving s es q t n))
      go true r = sorted_placed (packet_at s (suc n) t) (arriving s es q t n) r
      go false r = r

  -- a packet before all goes to the front
  pub front : (x : Packet) (ys : List Packet) → AllByRecursion (λ z. waits_before s x z ≡ true) ys → placed (waits_before s) x ys ≡ x ∷ ys
  front x [] a = refl
  front x (y ∷ ys) a = rw a.0

  in_front : (x y z : Packet) → waits_before s x y ≡ true → waits_before s z y ≡ false → waits_before s x z ≡ true
  in_front x y z e f = ⊎_elim (λ h. h) (λ h. absurd (both_ways (waits_before s x y) (behind y z x f h) e)) (cases_Bool (waits_before s x z))

  pub kept_placed : (f : Packet → Bool) (x : Packet) → f x ≡ true → (ys : List Packet) → Sorted ys → filter f (placed (waits_before s) x ys) ≡ placed (waits_before s) x (filter f ys)
  kept_placed f x k [] h = rw k
  kept_placed f x k (y ∷ ys) h = go (waits_before s x y) refl (f y) refl (kept_placed f x k ys h.1)
    where
      go : (b : Bool) → waits_before s x y ≡ b → (d : Bool) → f y ≡ d → filter f (placed (waits_before s) x ys) ≡ placed (waits_before s) x (filter f ys) →
          filter f (cond {A = List Packet} b (x ∷ y ∷ ys) (y ∷ placed (waits_before s) x ys)) ≡ placed (waits_before s) x (cond {A = List Packet} d (y ∷ filter f ys) (filter f ys))
      go true e true d r = rw (k, d, e)
      go true e false d r = rw (k, d) (sym (front x (filter f ys) (all_kept_by f (λ z. waits_before s x z ≡ true) ys (All-weaker (λ z. waits_before s z y ≡ false) (λ z. waits_before s x z ≡ true) (λ z. in_front x y z e) ys h.0))))
      go false e true d r = rw (d, e) (ap (λ (l : List Packet). y ∷ l) r)
      go false e false d r = rw d r

  pub kept_not_placed : (f : Packet → Bool) (x : Packet) → f x ≡ false → (ys : List Packet) → filter f (placed (waits_before s) x ys) ≡ filter f ys
  kept_not_placed f x k [] = rw k
  kept_not_placed f x k (y ∷ ys) = go (waits_before s x y) (kept_not_placed f x k ys)
    where
      go : (b : Bool) → filter f (placed (waits_before s) x ys) ≡ filter f ys → filter f (cond {A = List Packet} b (x ∷ y ∷ ys) (y ∷ placed (waits_before s) x ys)) ≡ filter f (y ∷ ys)
      go true r = rw k
      go false r = ap (λ (l : List Packet). cond {A = List Packet} (f y) (y ∷ l) l) r

  -- behind those that it is not before
  pub placed-behind : (x : Packet) (ws vs : List Packet) → AllByRecursion (λ w. waits_before s x w ≡ false) ws → placed (waits_before s) x (ws ++ vs) ≡ ws ++ placed (waits_before s) x vs
  placed-behind x [] vs a = refl
  placed-behind x (w ∷ ws) vs a = rw a.0 (ap (λ (l : List Packet). w ∷ l) (placed-behind x ws vs a.1))
