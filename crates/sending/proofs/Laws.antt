-- The laws of every run of a port.
use Rattle.std.proofs.Common.{◌≡◌, ℕ, suc, ◌+◌, ◌-◌, ◌/◌, ◌%◌, ◌<◌, ◌≤◌, Bool, true, false, cond, ◌&&◌, leb, List, [], ◌∷◌, ◌++◌, length, Some, None, sym, ap, ◌∙◌, subst, ⊎_elim, mod-lt, arith}
use Rattle.std.proofs.lemmas.Bool.{and_parts, cases_lt, cases_Bool, both_ways}
use Rattle.std.proofs.lemmas.Bool.Decides.{nat_tests}
use Rattle.traffic.specs.declared.packet.Packet.{Packet}
use Rattle.traffic.specs.Packets.{Traffic}
use Rattle.traffic.specs.Orders.{then_by}
use Rattle.traffic.proofs.Total.{queue_order}
use Rattle.gates.specs.declared.entry.Entry.{Entry}
use Rattle.sending.specs.Sheet.{OfSheet, cycle, job_of, queue, same, waits_before, wire}
use Rattle.sending.specs.Rules.{admitted}
use Rattle.sending.specs.Port.{fits_at, gate_at, holds, joining, list_at, arriving, starts}
use Rattle.sending.specs.Laws.{InOrder, ArrivingExactly, WaitsInOrder, NoneEarly, OnlyAdmitted, NoOverlap, GateOpen, FirstInFirstOut}
use Rattle.sending.proofs.Lists.{all_passing}
use Rattle.sending.proofs.Line.{is, is_some, first, line, lstart, lstart-fits}
use Rattle.sending.proofs.Gated.{held, open_while, stays_inside, same-cycle}
use Rattle.sending.proofs.OneQueue.{is-alone}
use Rattle.sending.proofs.Strict.{strict_flows}
use Rattle.sending.proofs.Steps.{begins_all, one_at_a_time}
use Rattle.sending.proofs.Alone.{starts-queue, starts_from}
use Rattle.sending.proofs.Counting.{conserve, count-append, count_kept, came-then, find}
use Rattle.sending.proofs.Packets.{same-is, same_self, times, times_none, times_some, all_times, Comes, all_come, comes-then}
use Rattle.sending.proofs.Orders.{asym}
use Rattle.sending.proofs.Waiting.{fits, arr, only}
use Rattle.sending.proofs.Lined.{Lined, lined, lined_then}

-- a packet that joined by t
record JoinedBy (s : Traffic) (in_force : ℕ → List Entry) (up : Packet → Bool) (t : ℕ) (p : Packet) : Type 0 where
  ours : OfSheet s p
  turned : up p ≡ true
  arrived : p.arrival ≤ t
  let_in : admitted s (in_force (p.arrival / cycle s)) p ≡ true

started_joined : (s : Traffic) (in_force : ℕ → List Entry) (up : Packet → Bool) (t : ℕ) (p : Packet) → starts s in_force up t ≡ Some p → JoinedBy s in_force up t p
started_joined s in_force up t p e = begins_all (JoinedBy s in_force up t) (wire s) (gate_at s in_force) (fits_at s in_force) (joining s in_force up) t
    (λ u q l. all_passing (Comes s (list_at s in_force u) q u) (JoinedBy s in_force up t) up
    (λ x c k. record { ours = c.ours; turned = k; arrived = let n = c.now in omega arith; let_in = subst (λ (v : ℕ). admitted s (in_force (v / cycle s)) x ≡ true) (sym c.now) c.let_in })
    (arriving s (list_at s in_force u) q u (length s.flows)) (all_come s (list_at s in_force u) q u (length s.flows) (omega arith)))
    p e

pub none_early : NoneEarly
none_early s in_force up t p e = (started_joined s in_force up t p e).arrived

pub only_admitted : OnlyAdmitted
only_admitted s in_force up t p e = let j = started_joined s in_force up t p e in (j.ours, j.turned, j.let_in)

pub no_overlap : NoOverlap
no_overlap s in_force up = one_at_a_time (wire s) (gate_at s in_force) (fits_at s in_force) (joining s in_force up)

pub gate_open : GateOpen
gate_open s fs in_force whole up t p e u tu ue =
    let q = queue s p in
    let pos = fs.some_time in
    let line-start = (starts-queue s in_force pos whole up t p e).1 in
    let fit : fits_at s in_force t q (wire s p) ≡ true = (and_parts (is q (gate_at s in_force t)) (fits_at s in_force t q (wire s p)) (lstart-fits (wire s) (fits s fs in_force up q) (arr s fs in_force up q) t p line-start)).1 in
    let full = whole (t / cycle s) in
    let early = mod-lt t pos in
    let inside = stays_inside (in_force (t / cycle s)) q (t % cycle s) (wire s p) (omega arith) fit in
    (open_while s in_force pos whole t q (wire s p) fit u tu ue, (same-cycle (cycle s) t u (u - t) pos (omega arith) (omega arith)).0)

-- what starts stands in front
first_front : {P : Type 0} (wire : P → ℕ) (free : ℕ → Bool) (t f : ℕ) (ws : List P) (p : P) → first wire free t f ws ≡ Some p → (rest : List P) × (ws ≡ p ∷ rest)
first_front wire free t f [] p e = let z : ◌≡◌ {A = ℕ} 0 1 = cc in absurd (omega arith)
first_front {P} wire free t f (w ∷ ws) p e = go (leb f t && free (wire w)) e
  where
    go : (b : Bool) → cond b (Some w) None ≡ Some p → (rest : List P) × (w ∷ ws ≡ p ∷ rest)
    go true h = let same : w ≡ p = cc in (ws, ap (λ (x : P). x ∷ ws) same)
    go false h = let z : ◌≡◌ {A = ℕ} 0 1 = cc in absurd (omega arith)

then_le : (a b : ℕ) (r : Bool) → then_by a b r ≡ true → a ≤ b
then_le a b r e = grind (arith, nat_tests)

pub first_in_first_out : FirstInFirstOut
first_in_first_out s fs in_force whole up p r ours turned let_in same_queue ahead u e =
    let q = queue s r in
    let pos = fs.some_time in
    let F = fits s fs in_force up q in
    let arrivals = arr s fs in_force up q in
    let st = starts-queue s in_force pos whole up u r e in
    let front = first_front (wire s) (F u) u _ _ r st.1 in
    let l = lined_then s fs in_force up q u in
    let strict : Lined s fs in_force up q (suc u) (r ∷ front.0) = subst (λ (ws : List Packet). Lined s fs in_force up q (suc u) ws) front.1 l in
    let r-on : r.arrival ≡ (job_of s r).arrival = strict.due.0.ours.on_time in
    let p-on : p.arrival ≡ (job_of s p).arrival = ours.on_time in
    let keys : (job_of s p).arrival ≤ (job_of s r).arrival = then_le (job_of s p).arrival (job_of s r).arrival _ ahead in
    let r-early = strict.come.0 in
    let arrived : p.arrival < suc u = omega arith in
    let once : times p (arriving s (in_force (p.arrival / cycle s)) q p.arrival (length s.flows)) ≡ 1 = comes-then s fs (in_force (p.arrival / cycle s)) q p ours let_in same_queue in
    let here : times p (arrivals p.arrival) ≡ 1 = count_kept same same-is same_self p up (arriving s (in_force (p.arrival / cycle s)) q p.arrival (length s.flows)) ∙ ap (λ (b : Bool). cond b (times p (arriving s (in_force (p.arrival / cycle s)) q p.arrival (length s.flows))) 0) turned ∙ once in
    let came-by = came-then same same-is same_self p arrivals p.arrival (only s fs in_force up q p) (suc u) arrived in
    let kept = conserve same same-is same_self p (wire s) F arrivals u in
    let parts = count-append same same-is same_self p (line (wire s) F arrivals u).waiting (arrivals u) in
    let not-r : same p r ≡ false = ⊎_elim
    (λ (k : same p r ≡ true). absurd (both_ways (waits_before s p r) (ap (λ (x : Packet). waits_before s p x) (sym (same-is p r k)) ∙ queue_order.never (job_of s p)) ahead))
    (λ k. k) (cases_Bool (same p r)) in
    let there : times p ((line (wire s) F arrivals u).waiting ++ arrivals u) ≡ cond (same p r) 1 0 + times p front.0 = ap (times p) front.1 in
    let behind : times p ((line (wire s) F arrivals u).waiting ++ arrivals u) ≡ 0 + times p front.0 = rw not-r at there in
    let gone : times p front.0 ≡ 0 = ⊎_elim
    (λ (k : 0 < times p front.0). absurd (both_ways (waits_before s p r) (asym s r p (all_times (λ z. waits_before s r z ≡ true) p front.0 strict.strict.0 k)) ahead))
    (λ (k : times p front.0 ≤ 0). omega arith) (cases_lt 0 (times p front.0)) in
    let found = find same same-is same_self p (lstart (wire s) F arrivals) u (omega arith) in
    let gate : gate_at s in_force found.0 ≡ Some q = is_some q (gate_at s in_force found.0) (and_parts _ _ (lstart-fits (wire s) F arrivals found.0 p found.2)).0 in
    (found.0, found.1, starts_from s in_force pos whole up q found.0 p gate found.2)

pub arriving_exactly : ArrivingExactly
arriving_exactly s fs es q t = (
  strict_flows s es q t (length s.flows),
  (λ p ours when own let_in.
      let once = subst (λ (u : ℕ). times p (arriving s es q u (length s.flows)) ≡ 1) when (comes-then s fs es q p ours let_in own) in
      ⊎_elim (λ h. h) (λ (h : holds (arriving s es q t (length s.flows)) p ≡ false). let none = times_none p (arriving s es q t (length s.flows)) h in absurd (omega arith)) (cases_Bool (holds (arriving s es q t (length s.flows)) p))),
  (λ p h. let c = all_times (Comes s es q t) p (arriving s es q t (length s.flows)) (all_come s es q t (length s.flows) (omega arith)) (times_some p (arriving s es q t (length s.flows)) h) in (c.ours, c.now, c.own, c.let_in)),
)

pub waits_in_order : WaitsInOrder
waits_in_order s fs in_force whole up t q =
    subst (InOrder s) (sym (is-alone (wire s) (gate_at s in_force) (fits_at s in_force) (joining s in_force up) (held s in_force fs.some_time whole) q t).waits) (lined s fs in_force up q t).strict
