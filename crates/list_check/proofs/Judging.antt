-- What the queues looked through say of the list.
use Rattle.std.proofs.Common.{◌≡◌, ℕ, ◌+◌, ◌<◌, true, false, eqb, List, length, Some, None, Option, Ok, Err, sym, refl, ap, subst, ⊎_elim, arith, MatchOption}
use Rattle.std.proofs.lemmas.Bool.{both_ways, cond_both, cases_eq, eqb-false}
use Rattle.traffic.specs.declared.flow.Flow.{Flow}
use Rattle.traffic.specs.declared.packet.Packet.{Packet}
use Rattle.traffic.specs.declared.packet.Job.{Job}
use Rattle.traffic.specs.Packets.{Traffic}
use Rattle.traffic.specs.Pattern.{mandatory_at}
use Rattle.gates.specs.declared.entry.Entry.{Entry}
use Rattle.sending.specs.Sheet.{Fits, flow, job_of, queue}
use Rattle.sending.specs.Rules.{Rules, Broken, wrong_size, wrong_gates, wrong_name, wrong_total, or_else, first_broken}
use Rattle.sending.specs.InTime.{InFirstCycle, InTime}
use Rattle.list_check.specs.declared.fault.CheckFault.{CheckFault}
use Rattle.sending.proofs.Keeping.{rules_agree}
use Rattle.list_check.specs.Faults.{fault_of, outcome_of}
use Rattle.list_check.specs.Service.{due_before}
use Rattle.list_check.specs.Lateness.{Covered, KnownLate, Looked}
use Rattle.list_check.specs.Verdict.{LateAt, HasFlows, Refused}

-- there are eight queues
pub queue_low : (s : Traffic) → Fits s → (es : List Entry) (p : Packet) → InFirstCycle s es p → queue s p < 8
queue_low s fs es p i =
    let most = (fs.each p.flow i.ours.from_one i.ours.to_last).last_queue in
    cond_both (mandatory_at (flow s p.flow) p.number) (flow s p.flow).queue 0 (λ q. q < 8) (λ _. omega arith) (λ _. omega arith)

-- one more queue
pub queues_more : (s : Traffic) (es : List Entry) (q : ℕ) (a b : Option Job) → Looked s es q a b → ((p : Packet) → InFirstCycle s es p → queue s p < q → Covered s es a p) →
    (p : Packet) → InFirstCycle s es p → queue s p < q + 1 → Covered s es b p
queues_more s es q a b l before p i low = ⊎_elim (λ (e : queue s p ≡ q). l.covered p i e) (λ ne. l.still p (before p i (omega arith))) (cases_eq (queue s p) q)

-- all queues
pub judged : (s : Traffic) → Fits s → (es : List Entry) (late : Option Job) → KnownLate s es late → ((p : Packet) → InFirstCycle s es p → queue s p < 8 → Covered s es late p) →
    MatchOption late (InTime s es) (λ x. LateAt s es x.flow x.number)
judged s fs es None known covered = λ p i. ⊎_elim (λ a. a) (λ (k : ⊥). absurd k) (covered p i (queue_low s fs es p i))
judged s fs es (Some w) (p, (is, (i, late))) covered =
    let f : p.flow ≡ w.flow = ap (λ (x : Job). x.flow) is in
    let n : p.number ≡ w.number = ap (λ (x : Job). x.number) is in (
      p,
      (
        f,
        (
          n,
          record {
            early = i;
            late = late;
            first = λ r ri before. ⊎_elim (λ a. a)
                (λ (k : due_before (job_of s r) w ≡ false). absurd (both_ways (due_before (job_of s r) w) k (subst (λ (x : Job). due_before (job_of s r) x ≡ true) is before)))
                (covered r ri (queue_low s fs es r ri));
          },
        ),
      ),
    )

-- the first rule that is broken is why
pub broken_refused : (s : Traffic) (es : List Entry) (fault : CheckFault) → HasFlows s → Err fault ≡ outcome_of (first_broken s es) → Refused s es fault
broken_refused s es fault some e = go (first_broken s es) refl e
  where
    at : (b : Broken) → first_broken s es ≡ Some b → Refused s es (fault_of b)
    at wrong_size h = (some, h)
    at (wrong_gates place) h = (some, h)
    at (wrong_name place) h = (some, h)
    at wrong_total h = (some, h)

    go : (o : Option Broken) → first_broken s es ≡ o → Err fault ≡ outcome_of o → Refused s es fault
    go None h k = let z : ◌≡◌ {A = ℕ} 0 1 = cc in absurd (omega arith)
    go (Some b) h k = let is : fault_of b ≡ fault = cc in subst (Refused s es) is (at b h)

-- no fault: no rule is broken
pub unbroken : (o : Option Broken) → Ok tt ≡ outcome_of o → o ≡ None
unbroken None h = refl
unbroken (Some b) h = let z : ◌≡◌ {A = ℕ} 0 1 = cc in absurd (omega arith)

-- the first rule that is broken is the outcome
pub first_outcome : (a b : Option Broken) (y : CheckFault) → Err y ≡ outcome_of a → Err y ≡ outcome_of (or_else a b)
first_outcome None b y e = let z : ◌≡◌ {A = ℕ} 0 1 = cc in absurd (omega arith)
first_outcome (Some x) b y e = e

-- so the list keeps the rules
pub kept_rules : (s : Traffic) (es : List Entry) → Ok tt ≡ outcome_of (first_broken s es) → Rules s es
kept_rules s es h = (rules_agree s es).0 (unbroken (first_broken s es) h)

pub has_flows : (s : Traffic) (fs : List Flow) → fs ≡ s.flows → false ≡ eqb (length fs) 0 → HasFlows s
has_flows s fs is e =
    let len : length fs ≡ length s.flows = ap length is in
    let ne = eqb-false (length fs) 0 (sym e) in
    omega arith
