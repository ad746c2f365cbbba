-- Turn by turn, one window more.
use Rattle.std.proofs.Common.{◌≡◌, ℕ, ◌<◌, ◌≤◌, List, [], Ok, Err, sym, ap, ◌∙◌, subst, arith}
use Rattle.std.specs.List.{AllByRecursion}
use Rattle.std.proofs.ByRecursion.{All-push}
use Rattle.std.proofs.lemmas.Result.{err_from_is_err_and}
use Rattle.traffic.specs.declared.packet.Job.{Job}
use Rattle.sheet.specs.Contents.{traffic_of}
use Rattle.coming.specs.Coming.{Due}
use Rattle.search.specs.declared.window.Window.{Window}
use Rattle.search.specs.declared.fault.SearchFault.{SearchFault}
use Rattle.search.specs.Windows.{end, last_end}
use Rattle.search.specs.Search.{placed_next, walked_over, without, count}
use Rattle.search.specs.Packets.{cycle_packets}
use Rattle.search.specs.Queues.{left_in}
use Rattle.search.specs.Schedules.{Plan}
use Rattle.search.proofs.Entries.{last_end_push}
use Rattle.search.proofs.Inserts.{placed-is}
use Rattle.search.proofs.Admits.{admitted_none}
use Rattle.search.proofs.Nexts.{next_facts, due_fits, due_without, built_due}
use Rattle.search.proofs.Walking.{count-without, walked_like, walked_ok, walked_err, walked_end}
use Rattle.search.proofs.walk.walk.Goals as goal

pub loop-w-init : goal.loop-w-init
loop-w-init g c =
    let s = c.args.sheet.now in
    let b = g.O.ServingOrder.before c.args.order.now in
    let t = traffic_of s in
    let f = left_in c.mandatory_queues-mandatory.result in
    let all = c.mandatory_queues-mandatory.ensures in
    let none : c.args.schedule.now.windows ≡ [] = ap (λ (p : Plan). p.windows) c.requires in (
      all.seven,
      built_due t s.cycle c.mandatory_queues-mandatory.result all,
      ap (λ (p : Plan). p.long) c.requires,
      ap (last_end 0) (sym none),
      omega arith,
      subst (AllByRecursion (λ (w : Window). 0 < w.packet.queue)) (sym none) tt,
      ap (walked_over b s.cycle 0 f) none ∙ walked_like b s.cycle 0 f (cycle_packets s).mandatory [] all.all,
    )

pub place-requires-clause-fits : goal.place-requires-clause-fits
place-requires-clause-fits g c =
    let s = c.args.sheet.now in
    let w = c.in-Some.w in
    let f = next_facts (traffic_of s) s.cycle (left_in c.loop-w.queues) (g.O.ServingOrder.before c.args.order.now) c.loop-w.t w c.loop-w.invariant.1 (sym c.in-Some.ensures) in
    let early = f.early in
    let short = s.short in
    let t = c.loop-w.invariant.4 in
    (due_fits (traffic_of s) s.cycle w.packet.queue w.packet s.kept short f.mandatory.due, omega arith)

pub place-requires-clause-behind : goal.place-requires-clause-behind
place-requires-clause-behind g c =
    let s = c.args.sheet.now in
    let f = next_facts (traffic_of s) s.cycle (left_in c.loop-w.queues) (g.O.ServingOrder.before c.args.order.now) c.loop-w.t c.in-Some.w c.loop-w.invariant.1 (sym c.in-Some.ensures) in
    let onward = f.onward in
    omega (arith, c.loop-w.invariant.3)

pub returns-in_err-place : goal.returns-in_err-place
returns-in_err-place g c =
    let s = c.args.sheet.now in
    let b = g.O.ServingOrder.before c.args.order.now in
    let w = c.in-Some.w in
    let left = left_in c.loop-w.queues in
    let turns = sym c.in-Some.ensures in
    let f = next_facts (traffic_of s) s.cycle left b c.loop-w.t w c.loop-w.invariant.1 turns in
    let ws = c.loop-w.schedule.windows in
    let p = err_from_is_err_and c.from_residual.result c.from_residual.ensures.1 in
    let e : SearchFault = p.0 in
    let refused : placed_next s.cycle ws w ≡ Err e = ap (λ (k : ℕ). placed_next k ws w) (sym c.loop-w.invariant.2) ∙ c.in_err-place.ensures ∙ ap Err (sym p.2) in
    rw p.1 (sym c.loop-w.invariant.6 ∙ walked_err b s.cycle c.loop-w.t left ws w e turns f.mandatory.some f.mandatory.most f.left refused)

pub take-requires : goal.take-requires
take-requires g c =
    let s = c.args.sheet.now in
    let f = next_facts (traffic_of s) s.cycle (left_in c.loop-w.queues) (g.O.ServingOrder.before c.args.order.now) c.loop-w.t c.in-Some.w c.loop-w.invariant.1 (sym c.in-Some.ensures) in
    (f.mandatory.some, f.mandatory.most, c.loop-w.invariant.0)

pub loop-w-smaller : goal.loop-w-smaller
loop-w-smaller g c =
    let s = c.args.sheet.now in
    let w = c.in-Some.w in
    let left = left_in c.loop-w.queues in
    let f = next_facts (traffic_of s) s.cycle left (g.O.ServingOrder.before c.args.order.now) c.loop-w.t w c.loop-w.invariant.1 (sym c.in-Some.ensures) in
    let fewer = count-without left w.packet.queue 7 f.mandatory.some f.mandatory.most f.left in
    let same : count (left_in c.take.new.queues) 7 ≡ count (without w.packet.queue left) 7 = ap (λ (k : ℕ → List Job). count k 7) c.take.ensures.others in
    omega arith

pub loop-w-preserved : goal.loop-w-preserved
loop-w-preserved g c =
    let s = c.args.sheet.now in
    let t = traffic_of s in
    let b = g.O.ServingOrder.before c.args.order.now in
    let w = c.in-Some.w in
    let left = left_in c.loop-w.queues in
    let turns = sym c.in-Some.ensures in
    let f = next_facts t s.cycle left b c.loop-w.t w c.loop-w.invariant.1 turns in
    let ws = c.loop-w.schedule.windows in
    let zs = c.place.new.schedule.windows in
    let ok = c.in_ok-place.ensures in
    let placed : placed_next s.cycle ws w ≡ Ok zs = ap (λ (k : ℕ). placed_next k ws w) (sym c.loop-w.invariant.2) ∙ ok.0 in
    let is = placed-is s.cycle ws zs w placed in
    let early = (due_fits t s.cycle w.packet.queue w.packet s.kept s.short f.mandatory.due).early in
    let in_time = is.1 in
    let others = c.take.ensures.others in (
      omega (arith, c.loop-w.invariant.0, c.take.auto.queues),
      subst (λ (k : ℕ → List Job). (q : ℕ) → 0 < q → q ≤ 7 → AllByRecursion (Due t s.cycle q) (k q)) (sym others) (due_without t s.cycle w.packet.queue left c.loop-w.invariant.1),
      ok.1 ∙ c.loop-w.invariant.2,
      c.end-t.ensures ∙ sym (ap (last_end 0) is.0 ∙ last_end_push 0 ws w),
      omega (arith, c.end-t.ensures),
      subst (AllByRecursion (λ (v : Window). 0 < v.packet.queue)) (sym is.0) (All-push (λ (v : Window). 0 < v.packet.queue) ws w c.loop-w.invariant.5 f.mandatory.some),
      ap (λ (k : ℕ). walked_over b s.cycle k (left_in c.take.new.queues) zs) c.end-t.ensures
          ∙ ap (λ (k : ℕ → List Job). walked_over b s.cycle (end w) k zs) others
          ∙ sym (walked_ok b s.cycle c.loop-w.t left ws zs w turns f.mandatory.some f.mandatory.most f.left placed)
          ∙ c.loop-w.invariant.6,
    )

pub returns : goal.returns
returns g c =
    let s = c.args.sheet.now in
    let b = g.O.ServingOrder.before c.args.order.now in
    let left = left_in c.loop-w.queues in (
      sym c.loop-w.invariant.6 ∙ walked_end b s.cycle (count left 7) c.loop-w.t left c.loop-w.schedule.windows (sym c.in_default.ensures),
      c.loop-w.invariant.2,
      admitted_none c.loop-w.schedule.windows c.loop-w.invariant.5,
    )
