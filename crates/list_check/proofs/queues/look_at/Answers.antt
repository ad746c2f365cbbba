-- Packet by packet.
use Rattle.std.proofs.Common.{[], sym, rules}
use Rattle.sheet.specs.Contents.{traffic_of}
use Rattle.std.proofs.iter.Serving.{serving}
use Rattle.list_check.specs.Service.{Bounded}
use Rattle.list_check.proofs.Progress.{Progress, past_covered, all_covered}
use Rattle.list_check.proofs.Looking.{lawful_rules, until, Served, gated, sound, of_bounded, late_after, kept_after, look_more, next_left, none_left}
use Rattle.list_check.proofs.queues.look_at.Goals as goal

pub start-requires : goal.start-requires
start-requires g c = sound c.args.lawful.sheet.now c.args.lawful.list.now (lawful_rules c.args.lawful)

pub returns-then-is_past : goal.returns-then-is_past
returns-then-is_past g c q comes =
    let sh = c.args.lawful.sheet.now in
    let s = traffic_of sh in
    let es = c.args.lawful.list.now in
    let v = until c.loop-x.service in
    let late = c.loop-x.late in
    let m = next_left g.I.Iterator.next_gives (λ rest. Progress s es q rest v late) c.loop-x.x-iterator c.next.new.self c.in-Some.x c.in-Some.ensures.steps (c.loop-x.invariant.3 q comes) in
    record {
      known = m.2.known;
      still = c.loop-x.invariant.4;
      covered = past_covered s es (gated sh es (lawful_rules c.args.lawful)) q c.in-Some.x m.0 v late (sym c.if-is_past.ensures) m.2;
    }

pub and_then-service-requires : goal.and_then-service-requires
and_then-service-requires g c =
    let sh = c.args.lawful.sheet.now in
    let s = traffic_of sh in
    let es = c.args.lawful.list.now in
    let q = c.requires.queued.0 in
    let m = next_left g.I.Iterator.next_gives (λ rest. Progress s es q rest (until c.loop-x.service) c.loop-x.late) c.loop-x.x-iterator c.next.new.self c.in-Some.x c.in-Some.ensures.steps (c.loop-x.invariant.3 q c.requires.queued.1) in
    let b : Bounded c.in-Some.x = of_bounded sh es (lawful_rules c.args.lawful) q c.in-Some.x m.2.all_of.0 in
    grind serving

pub loop-x-preserved-then-is_none : goal.loop-x-preserved-then-is_none
loop-x-preserved-then-is_none g c =
    let served : Served c.in-Some.x c.loop-x.service c.and_then-service.result = search rules in
    let after = late_after c.and_then-service.result c.loop-x.late c.in-Some.x c.due_first.result c.if-is_none.ensures c.due_first.ensures in
    let more = look_more g.I.Iterator.next_gives c.args.lawful.sheet.now c.args.lawful.list.now (lawful_rules c.args.lawful) c.loop-x.x-iterator c.next.new.self c.in-Some.x c.loop-x.service c.and_then-service.result c.loop-x.late _ c.in-Some.ensures.steps c.loop-x.invariant.2 served after in
    let on = c.in-Some.ensures.goes.on c.loop-x.invariant.1 in
    (on.0, on.1, more.stands, λ q comes. more.goes q (c.loop-x.invariant.3 q comes), λ p h. more.still p (c.loop-x.invariant.4 p h))

pub loop-x-preserved : goal.loop-x-preserved
loop-x-preserved g c =
    let served : Served c.in-Some.x c.loop-x.service c.and_then-service.result = search rules in
    let after = kept_after c.and_then-service.result c.loop-x.late c.in-Some.x c.if-is_none.ensures in
    let more = look_more g.I.Iterator.next_gives c.args.lawful.sheet.now c.args.lawful.list.now (lawful_rules c.args.lawful) c.loop-x.x-iterator c.next.new.self c.in-Some.x c.loop-x.service c.and_then-service.result c.loop-x.late _ c.in-Some.ensures.steps c.loop-x.invariant.2 served after in
    let on = c.in-Some.ensures.goes.on c.loop-x.invariant.1 in
    (on.0, on.1, more.stands, λ q comes. more.goes q (c.loop-x.invariant.3 q comes), λ p h. more.still p (c.loop-x.invariant.4 p h))

pub returns : goal.returns
returns g c q comes =
    let sh = c.args.lawful.sheet.now in
    let s = traffic_of sh in
    let es = c.args.lawful.list.now in
    let v = until c.loop-x.service in
    let late = c.loop-x.late in
    let m : Progress s es q [] v late = none_left g.I.Iterator.next_gives (λ rest. Progress s es q rest v late) c.loop-x.x-iterator c.next.new.self c.in-None.ensures.steps (c.loop-x.invariant.3 q comes) in
    record { known = m.known; still = c.loop-x.invariant.4; covered = all_covered s es (gated sh es (lawful_rules c.args.lawful)) q v late m }
