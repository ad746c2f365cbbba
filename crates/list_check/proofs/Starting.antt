-- The packets of a queue, before one is served.
use Rattle.std.proofs.Common.{◌≡◌, ℕ, ◌-◌, ◌*◌, ◌/◌, ◌%◌, ◌<◌, ◌≤◌, Bool, true, false, cond, List, Some, Option, sym, refl, ap, ◌∙◌, inl, ⊎_elim, mod-eq_of_lt, mul-div_cancel, arith}
use native.Mathlib.Nat.{mul-div_cancel', lt_of_mul-lt-mul_left}
use Rattle.std.proofs.ByRecursion.{All-weaker}
use Rattle.std.proofs.lemmas.Bool.{cases_Bool, or_left}
use Rattle.traffic.specs.declared.flow.Flow.{Flow}
use Rattle.traffic.specs.declared.packet.Packet.{Packet}
use Rattle.traffic.specs.declared.packet.Job.{Job}
use Rattle.traffic.specs.Packets.{Traffic, arrival}
use Rattle.traffic.specs.Pattern.{turn}
use Rattle.cycle.specs.Cycle.{number_in_cycle}
use Rattle.gates.specs.declared.entry.Entry.{Entry}
use Rattle.sheet.specs.Ranges.{all_kept}
use Rattle.sending.specs.Sheet.{FlowFits, cycle, flow, job_of, mandatory, packet, queue}
use Rattle.sending.specs.InTime.{InFirstCycle}
use Rattle.sending.proofs.Packets.{some_period}
use Rattle.coming.specs.Coming.{Due}
use Rattle.coming.specs.Packets.{packets_before}
use Rattle.coming.proofs.Arrivals.{packets_due, packets_rise, due_in}
use Rattle.list_check.specs.Serving.{Gated}
use Rattle.list_check.specs.Lateness.{KnownLate}
use Rattle.list_check.specs.Queued.{Of, Queued}
use Rattle.list_check.proofs.Progress.{Progress}

-- in the first cycle a packet's number is its number in the cycle
pub number_there : (s : Traffic) (f : Flow) (n : ℕ) → FlowFits s f → 1 ≤ n → arrival f n < cycle s → number_in_cycle (cycle s) f n ≡ n
number_there s f n ff some early =
    let T = f.period in
    let x = turn f in
    let c = cycle s / (x * T) in
    let whole : (x * T) * c ≡ cycle s = mul-div_cancel' (x * T) ff.whole_patterns in
    let is : cycle s ≡ (x * c) * T = omega arith in
    let count : cycle s / T ≡ x * c = ap (λ (a : ℕ). a / T) is ∙ mul-div_cancel (x * c) (some_period s f ff) in
    let turned : T * (n - 1) < T * (x * c) = omega arith in
    let low : n - 1 < x * c = lt_of_mul-lt-mul_left T turned in
    let m : (n - 1) % (x * c) ≡ n - 1 = mod-eq_of_lt low in
    let place : (n - 1) % (cycle s / T) ≡ n - 1 = ap (λ (a : ℕ). (n - 1) % a) count ∙ m in
    omega arith

module _ (s : Traffic) (es : List Entry) (g : Gated s es) (long : ℕ) (round : long ≡ cycle s) (kept : all_kept s.rate s.flows ≡ true) where
  -- a packet to come in a queue of its own is mandatory, so it is let in
  due_of : (q : ℕ) → 1 ≤ q → (x : Job) → Due s long q x → Of s es q x
  due_of q some x d =
      let p = packet s x.flow x.number in
      let f = flow s x.flow in
      let at : x.arrival ≡ arrival f x.number = ap (λ (y : Job). y.arrival) d.is in
      let early = d.early in
      let own : queue s p ≡ q = ap (λ (y : Job). y.queue) (sym d.is) ∙ d.waits in
      let needed : mandatory s p ≡ true = ⊎_elim (λ m. m)
      (λ (m : mandatory s p ≡ false). let none : queue s p ≡ 0 = ap (λ (b : Bool). cond b f.queue 0) m in absurd (omega arith)) (cases_Bool (mandatory s p)) in
      record {
        packet = p;
        is = sym d.is;
        early = record { ours = record { from_one = d.named; to_last = d.listed; numbered = d.counted; on_time = refl }; early = omega arith; let_in = or_left _ _ needed };
        own = own;
      }

  pub of_due : (q : ℕ) (p : Packet) → InFirstCycle s es p → queue s p ≡ q → Due s long q (job_of s p)
  of_due q p i own =
      let on = i.ours.on_time in
      let early = i.early in
      record { named = i.ours.from_one; listed = i.ours.to_last; counted = i.ours.numbered; is = refl; early = omega arith; waits = own }

  -- the mandatory packets of a queue
  pub mandatory_queued : (q : ℕ) → 1 ≤ q → Queued s es q (packets_before s q long)
  mandatory_queued q some = record {
    all_of = All-weaker (Due s long q) (Of s es q) (due_of q some) (packets_before s q long) (packets_due s q long);
    rises = packets_rise s q long;
    complete = λ p i own. due_in s long q (job_of s p) kept (of_due q p i own);
  }

-- nothing is served yet
pub starting : (s : Traffic) (es : List Entry) (q : ℕ) (xs : List Job) → Queued s es q xs → (free : ℕ) (worst : Option Job) → free ≡ 0 → KnownLate s es worst → Progress s es q xs (Some free) worst
starting s es q xs queued free worst none known = record {
  all_of = queued.all_of;
  rises = queued.rises;
  known = known;
  split = λ p i own. inl (queued.complete p i own);
  tail = inl none;
}
