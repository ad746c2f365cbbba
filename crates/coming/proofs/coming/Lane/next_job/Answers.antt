-- The next packet of a flow, if it arrives in the cycle.
use Rattle.std.proofs.Common.{⊎_elim, ◌≡◌, ◌+◌, ◌<◌, ◌≤◌, ◌^◌, false, ltb, Option, sym, ap, ◌∙◌, subst, arith, MatchOption}
use Rattle.std.proofs.lemmas.Bool.{ltb-false, lt-ltb, le-ltb, cases_lt}
use Rattle.traffic.specs.declared.flow.Flow.{Flow}
use Rattle.traffic.specs.declared.packet.Job.{Job}
use Rattle.traffic.specs.Sorts.{FirstFrom}
use Rattle.traffic.specs.Packets.{flow_at, arrival, listed, job}
use Rattle.sheet.specs.Contents.{traffic_of}
use Rattle.coming.specs.Coming.{waits_in, NextDue, NoneDue}
use Rattle.coming.proofs.Dues.{some_of, none_of, late_due, next_due, kept_flow}
use Rattle.coming.proofs.coming.Lane.next_job.Goals as goal

pub next_number-requires : goal.next_number-requires
next_number-requires c =
    let s = c.args.self.now.sheet.now in
    let t = traffic_of s in
    let is : c.in_ok-flow.flow ≡ flow_at t.flows c.args.index = some_of (listed t.flows c.args.index) _ _ c.in_ok-flow.ensures in
    let some : 0 < (flow_at t.flows c.args.index).queue = (kept_flow t c.args.index s.kept c.requires.flow.0 c.requires.flow.1).queue_some in
    (c.requires.number.0, c.requires.number.1, subst (λ (f : Flow). 0 < f.queue) (sym is) some)

pub returns-in_err-job : goal.returns-in_err-job
returns-in_err-job c =
    let s = c.args.self.now.sheet.now in
    let t = traffic_of s in
    let i = c.args.index in
    let q = c.args.self.now.queue in
    let f = flow_at t.flows i in
    let n = c.in_ok-number.number in
    let is : c.in_ok-flow.flow ≡ f = some_of (listed t.flows i) _ _ c.in_ok-flow.ensures in
    let first : FirstFrom (waits_in q f) c.args.from n = subst (λ (g : Flow). FirstFrom (waits_in q g) c.args.from n) is c.in_ok-number.ensures in
    let far : ltb (arrival f n + f.deadline) (2 ^ 64) ≡ false =
    subst (λ (g : Flow). ltb (arrival g n + g.deadline) (2 ^ 64) ≡ false) is (none_of (ltb (arrival c.in_ok-flow.flow n + c.in_ok-flow.flow.deadline) (2 ^ 64)) (job c.rate.result i c.in_ok-flow.flow n) c.in_err-job.ensures) in
    let past = ltb-false (arrival f n + f.deadline) (2 ^ 64) far in
    let r = kept_flow t i s.kept c.requires.flow.0 c.requires.flow.1 in
    let late : s.cycle ≤ arrival f n = omega (arith, past, r.deadline_most, r.period_most, s.short) in
    subst (λ (o : Option Job). MatchOption o (NoneDue t s.cycle q i c.args.from) (NextDue t s.cycle q i c.args.from)) (sym c.from_residual-in_err-job.ensures)
    (late_due t s.cycle q i c.args.from n first late)

pub returns : goal.returns
returns c =
    let s = c.args.self.now.sheet.now in
    let t = traffic_of s in
    let i = c.args.index in
    let q = c.args.self.now.queue in
    let f = flow_at t.flows i in
    let n = c.in_ok-number.number in
    let x = c.in_ok-job.job in
    let is : c.in_ok-flow.flow ≡ f = some_of (listed t.flows i) _ _ c.in_ok-flow.ensures in
    let first : FirstFrom (waits_in q f) c.args.from n = subst (λ (g : Flow). FirstFrom (waits_in q g) c.args.from n) is c.in_ok-number.ensures in
    let job-is : x ≡ job t.rate i f n =
    some_of (ltb (arrival c.in_ok-flow.flow n + c.in_ok-flow.flow.deadline) (2 ^ 64)) x (job c.rate.result i c.in_ok-flow.flow n) c.in_ok-job.ensures
    ∙ ap (λ r. job r i c.in_ok-flow.flow n) c.rate.ensures ∙ ap (λ (g : Flow). job t.rate i g n) is in
    let at : x.arrival ≡ arrival f n = ap (λ (y : Job). y.arrival) job-is in
    ⊎_elim
    (λ (l : x.arrival < c.cycle.result).
    let early : arrival f n < s.cycle = omega (arith, c.cycle.ensures) in
    let due = next_due t s.cycle q i c.args.from n c.requires.flow.0 c.requires.flow.1 c.requires.number.0 early first in
    rw (c.then_some.ensures, lt-ltb x.arrival c.cycle.result l) (subst (λ (y : Job). NextDue t s.cycle q i c.args.from y) (sym job-is) due))
    (λ (g : c.cycle.result ≤ x.arrival).
    let late : s.cycle ≤ arrival f n = omega (arith, c.cycle.ensures) in
    rw (c.then_some.ensures, le-ltb x.arrival c.cycle.result g) (late_due t s.cycle q i c.args.from n first late))
    (cases_lt x.arrival c.cycle.result)
