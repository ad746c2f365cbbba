-- The test of a list tells the accepted ones.
use Rattle.std.proofs.Common.{◌≡◌, ℕ, zero, suc, ◌+◌, ◌-◌, ◌*◌, ◌/◌, ◌<◌, ◌≤◌, Bool, true, false, not, ◌&&◌, ◌||◌, List, length, Some, None, Option, sym, refl, ap, ◌∙◌, subst, ⊎_elim, mul-le-mul_right, lt_of_mul-lt-mul_right, arith}
use native.Mathlib.Nat.{div-mul_cancel, dvd_trans, dvd-mul_left}
use Rattle.std.proofs.lemmas.Bool.{and_parts, and_from, cases_Bool, cases_eq, false≢true}
use Rattle.traffic.specs.declared.packet.Packet.{Packet}
use Rattle.traffic.specs.Packets.{Traffic, in_time}
use Rattle.traffic.specs.Pattern.{turn}
use Rattle.cycle.specs.Cycle.{packets_in}
use Rattle.gates.specs.declared.entry.Entry.{Entry}
use Rattle.sending.specs.Sheet.{Fits, OfSheet, cycle, deadline, flow, job_of, packet, wire}
use Rattle.sending.specs.Rules.{Broken, admitted, first_broken}
use Rattle.sending.specs.Port.{sent_whole, starts, starts_it}
use Rattle.sending.specs.InTime.{AcceptsExactly, InTime, StartsInTime, first_cycle, flow_in_time, flows_in_time, packet_in_time, unbroken}
use Rattle.sending.proofs.Keeping.{rules_agree}
use Rattle.sending.proofs.Packets.{same-is, fits_of}
use Rattle.sending.proofs.Laws.{none_early}
use Rattle.sending.proofs.Cycles.{ends_by}
use Rattle.sending.proofs.Row.{seen}

unbroken_none : (b : Option Broken) → unbroken b ≡ true → b ≡ None
unbroken_none None e = refl
unbroken_none (Some x) e = absurd (false≢true e)

-- what was sent whole was started
started-then : (s : Traffic) (in_force : ℕ → List Entry) (up : Packet → Bool) (p : Packet) (t : ℕ) → sent_whole s in_force up p t ≡ true → (u : ℕ) × StartsInTime s in_force up p u
started-then s in_force up p zero e = absurd (false≢true e)
started-then s in_force up p (suc t) e = ⊎_elim
    (λ (h : (starts_it p (starts s in_force up t) && in_time (job_of s p) t) ≡ true).
    let both = and_parts (starts_it p (starts s in_force up t)) (in_time (job_of s p) t) h in
    let there = it (starts s in_force up t) both.0 in
    (t, record { there = there; arrived = none_early s in_force up t p there; ends = both.1 }))
    (λ (h : (starts_it p (starts s in_force up t) && in_time (job_of s p) t) ≡ false). started-then s in_force up p t (rw h at e))
    (cases_Bool (starts_it p (starts s in_force up t) && in_time (job_of s p) t))
  where
    it : (o : Option Packet) → starts_it p o ≡ true → o ≡ Some p
    it None k = absurd (false≢true k)
    it (Some r) k = ap (λ (x : Packet). Some x) (sym (same-is p r k))

-- a packet of the first cycle has a number in it
in_cycle_number : (s : Traffic) → Fits s → (p : Packet) → OfSheet s p → p.arrival < cycle s → p.number ≤ packets_in (cycle s) (flow s p.flow)
in_cycle_number s fs p o early =
    let f = flow s p.flow in
    let whole : cycle s / f.period * f.period ≡ cycle s = div-mul_cancel f.period (dvd_trans f.period (dvd-mul_left f.period (turn f)) (fits_of s fs p o).whole_patterns) in
    let when : p.arrival ≡ (p.number - 1) * f.period = o.on_time in
    let less : p.number - 1 < cycle s / f.period = lt_of_mul-lt-mul_right f.period (let l : (p.number - 1) * f.period < cycle s / f.period * f.period = omega arith in l) in
    omega arith

number_in_cycle_early : (s : Traffic) → Fits s → (i j : ℕ) → 1 ≤ i → i ≤ length s.flows → 1 ≤ j → j ≤ packets_in (cycle s) (flow s i) → (packet s i j).arrival < cycle s
number_in_cycle_early s fs i j from to first last =
    let f = flow s i in
    let ff = fs.each i from to in
    let whole : cycle s / f.period * f.period ≡ cycle s = div-mul_cancel f.period (dvd_trans f.period (dvd-mul_left f.period (turn f)) ff.whole_patterns) in
    let some_wire = ff.some_wire in
    let can = ff.can_end in
    let dT = ff.one_waits in
    let up_to : j * f.period ≤ cycle s / f.period * f.period = mul-le-mul_right f.period last in
    let step : (j - 1 + 1) * f.period ≡ (j - 1) * f.period + f.period = omega arith in
    let same : j - 1 + 1 ≡ j = omega arith in
    let total : j * f.period ≡ (j - 1) * f.period + f.period = ap (λ (n : ℕ). n * f.period) (sym same) ∙ step in
    omega arith

module _ (s : Traffic) (fs : Fits s) (es : List Entry) where
  flow-there : (i n j : ℕ) → 1 ≤ j → j ≤ n → flow_in_time s es i n ≡ true → packet_in_time s es i j ≡ true
  flow-there i zero j a b e = absurd (omega arith)
  flow-there i (suc n) j a b e =
      let both = and_parts (packet_in_time s es i (suc n)) (flow_in_time s es i n) e in
      ⊎_elim (λ (k : j ≡ suc n). rw k both.0) (λ ne. flow-there i n j a (omega arith) both.1) (cases_eq j (suc n))

  flows_there : (n i : ℕ) → 1 ≤ i → i ≤ n → flows_in_time s es n ≡ true → flow_in_time s es i (packets_in (cycle s) (flow s i)) ≡ true
  flows_there zero i a b e = absurd (omega arith)
  flows_there (suc n) i a b e =
      let both = and_parts (flow_in_time s es (suc n) (packets_in (cycle s) (flow s (suc n)))) (flows_in_time s es n) e in
      ⊎_elim (λ (k : i ≡ suc n). rw k both.0) (λ ne. flows_there n i a (omega arith) both.1) (cases_eq i (suc n))

  in_time_from : flows_in_time s es (length s.flows) ≡ true → InTime s es
  in_time_from e p c =
      let o = c.ours in
      let is : packet s p.flow p.number ≡ p = λ i. record { flow = p.flow; number = p.number; arrival = sym o.on_time i } in
      let tested = flow-there p.flow (packets_in (cycle s) (flow s p.flow)) p.number o.numbered (in_cycle_number s fs p o c.early) (flows_there (length s.flows) p.flow o.from_one o.to_last e) in
      let let_in : admitted s es (packet s p.flow p.number) ≡ true = c.let_in in
      let sent : sent_whole s (λ _. es) (first_cycle s) (packet s p.flow p.number) (deadline s p) ≡ true = rw let_in at tested in
      started-then s (λ _. es) (first_cycle s) p (deadline s p) (subst (λ (x : Packet). sent_whole s (λ _. es) (first_cycle s) x (deadline s p) ≡ true) is sent)

  module _ (in_time : InTime s es) where
    packet_to : (i j : ℕ) → 1 ≤ i → i ≤ length s.flows → 1 ≤ j → j ≤ packets_in (cycle s) (flow s i) → packet_in_time s es i j ≡ true
    packet_to i j from to first last = go (admitted s es (packet s i j)) refl
      where
        p : Packet
        p = packet s i j

        go : (b : Bool) → admitted s es p ≡ b → (not b || sent_whole s (λ _. es) (first_cycle s) p (deadline s p)) ≡ true
        go false e = refl
        go true e =
            let ours : OfSheet s p = record { from_one = from; to_last = to; numbered = first; on_time = refl } in
            let found = in_time p (record { ours = ours; early = number_in_cycle_early s fs i j from to first last; let_in = e }) in
            let ends = ends_by s p found.0 found.1.ends in
            let some_wire : 1 ≤ wire s p = (fits_of s fs p ours).some_wire in
            seen s (λ _. es) (first_cycle s) p found.0 found.1 (deadline s p) (omega arith)

    flow_to : (i n : ℕ) → 1 ≤ i → i ≤ length s.flows → n ≤ packets_in (cycle s) (flow s i) → flow_in_time s es i n ≡ true
    flow_to i zero from to l = refl
    flow_to i (suc n) from to l = and_from (packet_in_time s es i (suc n)) (flow_in_time s es i n) (packet_to i (suc n) from to (omega arith) l) (flow_to i n from to (omega arith))

    flows_to : (n : ℕ) → n ≤ length s.flows → flows_in_time s es n ≡ true
    flows_to zero l = refl
    flows_to (suc n) l = and_from (flow_in_time s es (suc n) (packets_in (cycle s) (flow s (suc n)))) (flows_in_time s es n) (flow_to (suc n) (packets_in (cycle s) (flow s (suc n))) (omega arith) l (omega arith)) (flows_to n (omega arith))

pub accepts_exactly : AcceptsExactly
accepts_exactly s fs es = (
  (λ e. let both = and_parts (unbroken (first_broken s es)) (flows_in_time s es (length s.flows)) e in
      record { rules = (rules_agree s es).0 (unbroken_none (first_broken s es) both.0); in_time = in_time_from s fs es both.1 }),
  (λ a. and_from _ _ (ap unbroken ((rules_agree s es).1 a.rules)) (flows_to s fs es a.in_time (length s.flows) (omega arith))),
)
