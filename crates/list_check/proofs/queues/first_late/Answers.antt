-- Queue by queue.
use Rattle.std.proofs.Common.{◌≡◌, ℕ, ◌<◌, Iter, ap, ◌∙◌, subst, arith}
use Rattle.traffic.specs.declared.packet.Packet.{Packet}
use Rattle.traffic.specs.declared.packet.Job.{Job}
use Rattle.sheet.specs.Contents.{traffic_of}
use Rattle.sending.specs.Sheet.{queue}
use Rattle.sending.specs.InTime.{InFirstCycle}
use Rattle.sending.proofs.Fitting.{read_sheets_fit}
use Rattle.list_check.specs.Lateness.{Covered}
use Rattle.list_check.proofs.Judging.{queues_more, judged}
use Rattle.list_check.proofs.Looking.{lawful_rules, named_comes, queue_comes}
use Rattle.list_check.proofs.queues.first_late.Goals as goal

pub look_at-late-requires-clause-queued : goal.look_at-late-requires-clause-queued
look_at-late-requires-clause-queued c = (0, named_comes (traffic_of c.args.lawful.sheet.now) c.args.lawful.list.now c.copied.result c.named-optional.ensures (ap (λ (it : Iter Job). it.rest.now) c.copied.ensures.source ∙ c.iter.ensures.rest ∙ c.records.ensures.value))

pub look_at-late-requires-in-loop-queue-clause-queued : goal.look_at-late-requires-in-loop-queue-clause-queued
look_at-late-requires-in-loop-queue-clause-queued c = (c.loop-queue.queue, queue_comes c.args.lawful.sheet.now c.args.lawful.list.now (lawful_rules c.args.lawful) c.loop-queue.queue c.loop-queue.auto.queue c.of.result c.of.ensures)

pub loop-queue-init : goal.loop-queue-init
loop-queue-init c =
    let looked = c.look_at-late.ensures 0 (named_comes (traffic_of c.args.lawful.sheet.now) c.args.lawful.list.now c.copied.result c.named-optional.ensures (ap (λ (it : Iter Job). it.rest.now) c.copied.ensures.source ∙ c.iter.ensures.rest ∙ c.records.ensures.value)) in
    (looked.known, λ p i low. looked.covered p i (omega arith))

pub loop-queue-preserved : goal.loop-queue-preserved
loop-queue-preserved c =
    let s = traffic_of c.args.lawful.sheet.now in
    let es = c.args.lawful.list.now in
    let q = c.loop-queue.queue in
    let looked = c.look_at-late-in-loop-queue.ensures q (queue_comes c.args.lawful.sheet.now es (lawful_rules c.args.lawful) q c.loop-queue.auto.queue c.of.result c.of.ensures) in
    (looked.known, queues_more s es q c.loop-queue.late c.look_at-late-in-loop-queue.result looked c.loop-queue.invariant.1)

pub returns : goal.returns
returns c =
    let sh = c.args.lawful.sheet.now in
    let s = traffic_of sh in
    let es = c.args.lawful.list.now in
    let all : c.loop-queue.queue ≡ 8 = omega (arith, c.loop-queue.auto.queue-end (omega arith)) in
    judged s (read_sheets_fit s sh.kept) es c.loop-queue.late c.loop-queue.invariant.0
    (subst (λ (q : ℕ). (p : Packet) → InFirstCycle s es p → queue s p < q → Covered s es c.loop-queue.late p) all c.loop-queue.invariant.1)
