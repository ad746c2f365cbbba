-- Packets of the sheet that wait in order stay so, and stand for what the port's rules say. Assumes nothing.
use Rattle.std.proofs.Common.{◌≡◌, ℕ, ◌+◌, Bool, true, false, cond, eqb, List, [], ◌∷◌, map, length, drop, sym, refl, ap, ◌∙◌, subst, ⊎_elim, arith}
use Rattle.std.specs.List.{list_all}
use Rattle.std.proofs.lemmas.Bool.{and_parts, and_from, eq-eqb, eqb-true, eqb-false, cases_Bool, cond-true, cond-false}
use Rattle.traffic.specs.declared.packet.Packet.{Packet}
use Rattle.traffic.specs.declared.packet.Job.{Job}
use Rattle.traffic.specs.Packets.{Traffic, packet_of}
use Rattle.traffic.specs.Orders.{queue_before}
use Rattle.table.specs.Order.{in_order, placed}
use Rattle.sending.specs.Sheet.{job_of, waits_before, placed as put_in}
use Rattle.sending.specs.Calls.{of_sheet}
use Rattle.port.specs.declared.lanes.Lanes.{Lanes}
use Rattle.port.specs.Lanes.{queue_at, waiting_of, same_job, as_sheet, lined, Lined, LaneJoined, LaneLeft}
use Rattle.sending.proofs.Source.{ours_from}

-- what the sheet says of a packet is all there is
same_job-is : (x y : Job) → x.flow ≡ y.flow → x.number ≡ y.number → same_job x y ≡ true → x ≡ y
same_job-is x y f n e =
    let a = and_parts (eqb x.queue y.queue) _ e in
    let b = and_parts (eqb x.arrival y.arrival) _ a.1 in
    let c = and_parts (eqb x.deadline y.deadline) _ b.1 in
    let d = and_parts (eqb x.wire y.wire) _ c.1 in
    let queues = eqb-true x.queue y.queue a.0 in
    let arrivals = eqb-true x.arrival y.arrival b.0 in
    let deadlines = eqb-true x.deadline y.deadline c.0 in
    let wires = eqb-true x.wire y.wire d.0 in
    let weights = eqb-true x.weight y.weight d.1 in
    λ i. record { flow = f i; number = n i; queue = queues i; arrival = arrivals i; deadline = deadlines i; wire = wires i; weight = weights i }

same_job_self : (x : Job) → same_job x x ≡ true
same_job_self x =
    and_from _ _ (eq-eqb x.queue x.queue refl) (and_from _ _ (eq-eqb x.arrival x.arrival refl) (and_from _ _ (eq-eqb x.deadline x.deadline refl)
    (and_from _ _ (eq-eqb x.wire x.wire refl) (eq-eqb x.weight x.weight refl))))

pub as_sheet-is : (s : Traffic) (w : Job) → as_sheet s w ≡ true → w ≡ job_of s (packet_of w)
as_sheet-is s w e = same_job-is w (job_of s (packet_of w)) refl refl (and_parts (of_sheet s (packet_of w)) _ e).1

-- a packet of the sheet, as it waits
pub waits_as : (s : Traffic) (p : Packet) (j : Job) → of_sheet s p ≡ true → j ≡ job_of s p → packet_of j ≡ p
waits_as s p j e is =
    let o = ours_from s p e in
    let flows : j.flow ≡ p.flow = ap (λ (k : Job). k.flow) is in
    let numbers : j.number ≡ p.number = ap (λ (k : Job). k.number) is in
    let arrivals : j.arrival ≡ p.arrival = ap (λ (k : Job). k.arrival) is ∙ sym o.on_time in
    λ i. record { flow = flows i; number = numbers i; arrival = arrivals i }

pub waits_as_sheet : (s : Traffic) (p : Packet) (j : Job) → of_sheet s p ≡ true → j ≡ job_of s p → as_sheet s j ≡ true
waits_as_sheet s p j e is =
    let it = waits_as s p j e is in
    let job_is : j ≡ job_of s (packet_of j) = is ∙ ap (job_of s) (sym it) in
    and_from _ _ (ap (of_sheet s) it ∙ e) (subst (λ (k : Job). same_job j k ≡ true) job_is (same_job_self j))

module _ (s : Traffic) where
  order_is : (x y : Job) → as_sheet s x ≡ true → as_sheet s y ≡ true → queue_before x y ≡ waits_before s (packet_of x) (packet_of y)
  order_is x y a b = let p = as_sheet-is s x a in let q = as_sheet-is s y b in λ i. queue_before (p i) (q i)

  placed-packets : (w : Job) (ws : List Job) → as_sheet s w ≡ true → list_all (as_sheet s) ws ≡ true → map packet_of (placed queue_before w ws) ≡ put_in (waits_before s) (packet_of w) (map packet_of ws)
  placed-packets w [] a b = refl
  placed-packets w (x ∷ xs) a b = go (queue_before w x) (order_is w x a both.0) (placed-packets w xs a both.1)
    where
      both : (as_sheet s x ≡ true) × (list_all (as_sheet s) xs ≡ true)
      both = and_parts (as_sheet s x) (list_all (as_sheet s) xs) b

      go : (t : Bool) → t ≡ waits_before s (packet_of w) (packet_of x) → map packet_of (placed queue_before w xs) ≡ put_in (waits_before s) (packet_of w) (map packet_of xs) →
          map packet_of (cond {A = List Job} t (w ∷ (x ∷ xs)) (x ∷ placed queue_before w xs)) ≡ put_in (waits_before s) (packet_of w) (packet_of x ∷ map packet_of xs)
      go true e ih = sym (cond-true (waits_before s (packet_of w) (packet_of x)) _ _ (sym e))
      go false e ih = ap (λ (ps : List Packet). packet_of x ∷ ps) ih ∙ sym (cond-false (waits_before s (packet_of w) (packet_of x)) _ _ (sym e))

  placed-as_sheet : (w : Job) (ws : List Job) → as_sheet s w ≡ true → list_all (as_sheet s) ws ≡ true → list_all (as_sheet s) (placed queue_before w ws) ≡ true
  placed-as_sheet w [] a b = and_from _ _ a refl
  placed-as_sheet w (x ∷ xs) a b = go (queue_before w x) (placed-as_sheet w xs a both.1)
    where
      both : (as_sheet s x ≡ true) × (list_all (as_sheet s) xs ≡ true)
      both = and_parts (as_sheet s x) (list_all (as_sheet s) xs) b

      go : (t : Bool) → list_all (as_sheet s) (placed queue_before w xs) ≡ true → list_all (as_sheet s) (cond {A = List Job} t (w ∷ (x ∷ xs)) (x ∷ placed queue_before w xs)) ≡ true
      go true ih = and_from _ _ a b
      go false ih = and_from _ _ both.0 ih

  first-gone : (ws : List Job) → list_all (as_sheet s) ws ≡ true → list_all (as_sheet s) (drop 1 ws) ≡ true
  first-gone [] b = refl
  first-gone (w ∷ ws) b = (and_parts (as_sheet s w) (list_all (as_sheet s) ws) b).1

  gone-packets : (ws : List Job) → map packet_of (drop 1 ws) ≡ drop 1 (map packet_of ws)
  gone-packets [] = refl
  gone-packets (w ∷ ws) = refl

  at_queue : (F : List Packet → List Packet) (W : ℕ → List Packet) (q k : ℕ) → cond (eqb q k) (F (W k)) (W q) ≡ cond (eqb q k) (F (W q)) (W q)
  at_queue F W q k = go (eqb q k) refl
    where
      go : (b : Bool) → eqb q k ≡ b → cond b (F (W k)) (W q) ≡ cond b (F (W q)) (W q)
      go true e = ap (λ (r : ℕ). F (W r)) (sym (eqb-true q k e))
      go false e = refl

  -- one queue is another now, and the others are as they were
  module _ (l l' : Lanes) (k : ℕ) (others : (q : ℕ) → (q ≡ k → ⊥) → queue_at l' q ≡ queue_at l q) where
    pub all_lined : Lined s l → lined s (queue_at l' k) ≡ true → Lined s l'
    all_lined h here q = ⊎_elim
        (λ (e : eqb q k ≡ true). subst (λ (r : ℕ). lined s (queue_at l' r) ≡ true) (sym (eqb-true q k e)) here)
        (λ (e : eqb q k ≡ false). ap (lined s) (others q (eqb-false q k e)) ∙ h q)
        (cases_Bool (eqb q k))

    pub all_waiting : (ps : List Packet) → waiting_of l' k ≡ ps → (q : ℕ) → waiting_of l' q ≡ cond (eqb q k) ps (waiting_of l q)
    all_waiting ps here q = ⊎_elim
        (λ (e : eqb q k ≡ true). subst (λ (r : ℕ). waiting_of l' r ≡ ps) (sym (eqb-true q k e)) here ∙ sym (cond-true (eqb q k) ps (waiting_of l q) e))
        (λ (e : eqb q k ≡ false). ap (map packet_of) (others q (eqb-false q k e)) ∙ sym (cond-false (eqb q k) ps (waiting_of l q) e))
        (cases_Bool (eqb q k))

  -- a packet of the sheet has joined
  module _ (l l' : Lanes) (w : Job) (h : Lined s l) (a : as_sheet s w ≡ true) (j : LaneJoined w l l') where
    abbrev k : ℕ
    k = w.queue

    stood : list_all (as_sheet s) (queue_at l k) ≡ true
    stood = (and_parts (in_order queue_before (queue_at l k)) _ (h k)).1

    pub joined_lined : Lined s l'
    joined_lined = all_lined l l' k j.others h (and_from _ _ j.ordered (ap (list_all (as_sheet s)) j.here ∙ placed-as_sheet w (queue_at l k) a stood))

    pub joined_waiting : (q : ℕ) → waiting_of l' q ≡ cond (eqb q k) (put_in (waits_before s) (packet_of w) (waiting_of l q)) (waiting_of l q)
    joined_waiting q =
        all_waiting l l' k j.others _ (ap (map packet_of) j.here ∙ placed-packets w (queue_at l k) a stood) q
        ∙ at_queue (put_in (waits_before s) (packet_of w)) (waiting_of l) q k

  -- the first has left a queue
  module _ (l l' : Lanes) (k : ℕ) (h : Lined s l) (j : LaneLeft k l l') where
    pub left-lined : Lined s l'
    left-lined = all_lined l l' k j.others h (and_from _ _ j.ordered (ap (list_all (as_sheet s)) j.here ∙ first-gone (queue_at l k) (and_parts (in_order queue_before (queue_at l k)) _ (h k)).1))

    pub left_waiting : (q : ℕ) → waiting_of l' q ≡ cond (eqb q k) (drop 1 (waiting_of l k)) (waiting_of l q)
    left_waiting = all_waiting l l' k j.others _ (ap (map packet_of) j.here ∙ gone-packets (queue_at l k))

pub length_put_in : (b : Packet → Packet → Bool) (x : Packet) (ys : List Packet) → length (put_in b x ys) ≡ length ys + 1
length_put_in b x [] = refl
length_put_in b x (y ∷ ys) = go (b x y) (length_put_in b x ys)
  where
    go : (t : Bool) → length (put_in b x ys) ≡ length ys + 1 → length (cond {A = List Packet} t (x ∷ (y ∷ ys)) (y ∷ put_in b x ys)) ≡ length (y ∷ ys) + 1
    go true ih = omega arith
    go false ih = omega arith
