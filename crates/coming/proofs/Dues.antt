-- A flow's next packet. Assumes nothing.
use Rattle.std.proofs.Common.{◌≡◌, ℕ, zero, suc, ◌+◌, ◌-◌, ◌*◌, ◌<◌, ◌≤◌, Bool, true, false, cond, List, length, get_or, Some, None, sym, refl, ap, subst, ⊎_elim, mul-le-mul_right, mul-le-mul_left, arith}
use Rattle.std.proofs.lemmas.Bool.{cases_Bool, cases_lt, both_ways, eqb-true, cond_both}
use Rattle.traffic.specs.declared.rate.Rate.{Rate}
use Rattle.traffic.specs.declared.rate.Rate.TheVariants.{Mbit10, Mbit100, Mbit1000}
use Rattle.traffic.specs.declared.flow.Flow.{Flow}
use Rattle.traffic.specs.declared.packet.Job.{Job}
use Rattle.traffic.specs.Packets.{Traffic, no_flow, flow_at, arrival, queue_of, job}
use Rattle.traffic.specs.Wire.{wire_time}
use Rattle.traffic.specs.Pattern.{mandatory_at}
use Rattle.sheet.specs.Ranges.{all_kept}
use Rattle.coming.proofs.Kept.{Ranged, ranged_at}
use Rattle.traffic.specs.Sorts.{FirstFrom, NoneFrom}
use Rattle.coming.specs.Coming.{waits_in, Due, NextDue, NoneDue}

pub flow_at_getD : (fs : List Flow) (i : ℕ) → 0 < i → flow_at fs i ≡ get_or fs (i - 1) no_flow
flow_at_getD fs zero h = absurd (omega arith)
flow_at_getD fs (suc i) h = let is : i ≡ suc i - 1 = omega arith in ap (λ (k : ℕ). get_or fs k no_flow) is

-- later packets arrive later
pub arrival-rises : (f : Flow) (m n : ℕ) → m ≤ n → arrival f m ≤ arrival f n
arrival-rises f m n h = let less : m - 1 ≤ n - 1 = omega arith in mul-le-mul_right f.period less

pub some_of : {X : Type 0} (b : Bool) (x y : X) → Some x ≡ cond b (Some y) None → x ≡ y
some_of b x y e = ⊎_elim (λ t. let h : Some x ≡ Some y = rw t at e in cc) (λ t. let h : Some x ≡ None = rw t at e in cc) (cases_Bool b)

pub none_of : {X : Type 0} (b : Bool) (y : X) → None ≡ cond b (Some y) None → b ≡ false
none_of b y e = ⊎_elim (λ t. let h : None ≡ Some y = rw t at e in cc) (λ t. t) (cases_Bool b)

pub none_due : (s : Traffic) (long q i j : ℕ) → NoneFrom (waits_in q (flow_at s.flows i)) j → NoneDue s long q i j
none_due s long q i j none n from waits = absurd (both_ways (waits_in q (flow_at s.flows i) n) (none n from) waits)

pub late_due : (s : Traffic) (long q i j n : ℕ) → FirstFrom (waits_in q (flow_at s.flows i)) j n → long ≤ arrival (flow_at s.flows i) n → NoneDue s long q i j
late_due s long q i j n first late k from waits =
    ⊎_elim
    (λ (l : k < n). absurd (both_ways (waits_in q (flow_at s.flows i) k) (first.first k from l) waits))
    (λ (l : n ≤ k). let h = arrival-rises (flow_at s.flows i) n k l in omega arith)
    (cases_lt k n)

pub next_due : (s : Traffic) (long q i j n : ℕ) → 0 < i → i ≤ length s.flows → 0 < j → arrival (flow_at s.flows i) n < long → FirstFrom (waits_in q (flow_at s.flows i)) j n → NextDue s long q i j (job s.rate i (flow_at s.flows i) n)
next_due s long q i j n some listed from early first = record {
  due = record {
    named = some;
    listed = listed;
    counted = omega (arith, first.from);
    is = refl;
    early = early;
    waits = eqb-true (queue_of (flow_at s.flows i) n) q first.passes;
  };
  same_flow = refl;
  first = first;
}

-- what the ranges say of a packet to come
pub record DueBounds (long : ℕ) (x : Job) : Type 0 where
  pub number_most : x.number ≤ long
  pub deadline_most : x.deadline ≤ x.arrival + 1000000000
  pub wire_some : 0 < x.wire
  pub wire_most : x.arrival + x.wire ≤ x.deadline
  pub queue_most : x.queue ≤ 7

some_wire : (r : Rate) (octets : ℕ) → 0 < wire_time r octets
some_wire Mbit10 octets = omega arith
some_wire Mbit100 octets = omega arith
some_wire Mbit1000 octets = omega arith

queue_low : (r : Rate) (f : Flow) (n : ℕ) → Ranged r f → queue_of f n ≤ 7
queue_low r f n k = cond_both (mandatory_at f n) f.queue 0 (λ q. q ≤ 7) (λ _. k.queue_most) (λ _. omega arith)

job_bounds : (r : Rate) (i : ℕ) (f : Flow) (n long : ℕ) → Ranged r f → arrival f n < long → 0 < n → DueBounds long (job r i f n)
job_bounds r i f n long k early some =
    let each : (n - 1) * 1 ≤ (n - 1) * f.period = mul-le-mul_left (n - 1) k.period_some in
    record {
      number_most = omega arith;
      deadline_most = omega (arith, k.deadline_most, k.period_most);
      wire_some = some_wire r f.octets;
      wire_most = omega (arith, k.wire_most);
      queue_most = queue_low r f n k;
    }

pub due_bounds : (s : Traffic) (long q : ℕ) (x : Job) → all_kept s.rate s.flows ≡ true → Due s long q x → DueBounds long x
due_bounds s long q x kept d =
    let i = x.flow in
    let within : i - 1 < length s.flows = omega (arith, d.named, d.listed) in
    let k : Ranged s.rate (flow_at s.flows i) = subst (Ranged s.rate) (sym (flow_at_getD s.flows i d.named)) (ranged_at s.rate s.flows (i - 1) kept within) in
    let a : x.arrival ≡ arrival (flow_at s.flows i) x.number = ap (λ (y : Job). y.arrival) d.is in
    subst (DueBounds long) (sym d.is) (job_bounds s.rate i (flow_at s.flows i) x.number long k (omega (arith, d.early)) d.counted)

-- a flow of the sheet keeps its ranges
pub kept_flow : (s : Traffic) (i : ℕ) → all_kept s.rate s.flows ≡ true → 0 < i → i ≤ length s.flows → Ranged s.rate (flow_at s.flows i)
kept_flow s i kept some listed =
    let within : i - 1 < length s.flows = omega arith in
    subst (Ranged s.rate) (sym (flow_at_getD s.flows i some)) (ranged_at s.rate s.flows (i - 1) kept within)
