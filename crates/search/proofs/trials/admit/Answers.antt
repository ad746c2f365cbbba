-- Packet by packet, in the order of their arrival.
use Rattle.std.proofs.Common.{◌≡◌, ℕ, ◌≤◌, max, List, [], ◌∷◌, true, sym, ap, ◌∙◌, subst, arith}
use Rattle.std.specs.List.{AllByRecursion}
use Rattle.std.proofs.ByRecursion.{All-weaker}
use Rattle.traffic.specs.declared.packet.Job.{Job}
use Rattle.traffic.specs.Orders.{queue_before}
use Rattle.traffic.specs.Behind.{queue_asym}
use Rattle.sheet.specs.Contents.{traffic_of}
use Rattle.coming.specs.Coming.{Due}
use Rattle.coming.specs.Packets.{packets_before}
use Rattle.coming.specs.Rising.{Rises}
use Rattle.coming.proofs.Arrivals.{packets_due, packets_rise}
use Rattle.coming.proofs.Steps.{not_sooner}
use Rattle.search.specs.Search.{admitted, tried}
use Rattle.search.proofs.Nexts.{due_fits}
use Rattle.search.proofs.Admits.{passed_later}
use Rattle.search.proofs.trials.admit.Goals as goal

-- these all arrive at 0 or later
all_late : (ps : List Job) → AllByRecursion (λ p. 0 ≤ p.arrival) ps
all_late [] = tt
all_late (p ∷ ps) = (omega arith, all_late ps)

pub loop-job-init : goal.loop-job-init
loop-job-init c =
    let s = c.args.sheet.now in
    let t = traffic_of s in
    let ps = c.into_iter-job-iterator.result in
    let is : ps ≡ packets_before t 0 s.cycle = cc in (
      tt,
      tt,
      (0, record { last = sym c.requires.1; passed = record { within = omega arith; ended = tt } }, all_late ps),
      subst (AllByRecursion (Due t s.cycle 0)) (sym is) (packets_due t 0 s.cycle),
      subst (Rises queue_before) (sym is) (packets_rise t 0 s.cycle),
      c.requires.0,
      ap (λ (qs : List Job). admitted s.cycle qs c.args.schedule.now.windows) is,
    )

pub try_packet-trials-requires-clause-tried : goal.try_packet-trials-requires-clause-tried
try_packet-trials-requires-clause-tried c =
    let a = c.loop-job.invariant.2.0 in
    let ok = c.loop-job.invariant.2.1 in
    let x = c.in-Some.job in
    let t = c.loop-job.trials in
    let later : a ≤ x.arrival = (subst (AllByRecursion (λ (p : Job). a ≤ p.arrival)) c.in-Some.ensures.steps c.loop-job.invariant.2.2).0 in
    record { last = ok.last; passed = passed_later (max a t.last) (max x.arrival t.last) t.passed c.loop-job.schedule.windows (omega arith) ok.passed }

pub try_packet-trials-requires-clause-fits : goal.try_packet-trials-requires-clause-fits
try_packet-trials-requires-clause-fits c =
    let s = c.args.sheet.now in
    let x = c.in-Some.job in
    let due : Due (traffic_of s) s.cycle 0 x = (subst (AllByRecursion (Due (traffic_of s) s.cycle 0)) c.in-Some.ensures.steps c.loop-job.invariant.3).0 in
    let early = due.early in
    let short = s.short in
    (due_fits (traffic_of s) s.cycle 0 x s.kept short due, due.waits, omega arith)

pub loop-job-preserved : goal.loop-job-preserved
loop-job-preserved c =
    let s = c.args.sheet.now in
    let x = c.in-Some.job in
    let rest = c.next.new.self in
    let steps = c.in-Some.ensures.steps in
    let rises = subst (Rises queue_before) steps c.loop-job.invariant.4 in
    let ws = c.loop-job.schedule.windows in
    let then = c.try_packet-trials.ensures.tried in (
      tt,
      tt,
      (x.arrival, c.try_packet-trials.ensures.so_far, All-weaker (λ (y : Job). queue_before x y ≡ true) (λ (y : Job). x.arrival ≤ y.arrival) (λ y h. not_sooner x y (queue_asym x y h)) rest rises.0),
      (subst (AllByRecursion (Due (traffic_of s) s.cycle 0)) steps c.loop-job.invariant.3).1,
      rises.1,
      then.1 ∙ c.loop-job.invariant.5,
      ap (admitted s.cycle rest) (then.0 ∙ ap (λ (k : ℕ). tried k x ws) c.loop-job.invariant.5) ∙ sym (ap (λ (ps : List Job). admitted s.cycle ps ws) steps) ∙ c.loop-job.invariant.6,
    )
