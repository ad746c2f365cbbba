-- One packet more.
use Rattle.std.proofs.Common.{◌≡◌, sym, ap, ◌∙◌}
use Rattle.port.specs.Station.{taking}
use Rattle.port.proofs.Arrived.{by_then, room-one, room_next, taken_next, head_arrived}
use Rattle.port.proofs.station.Station.take_arrived.Goals as goal

pub take_in-requires : goal.take_in-requires
take_in-requires g c =
    let came = by_then c.args.at (g.S.ArrivalSource.arrivals c.loop-packet.source) c.in-Some.packet c.in-Some.ensures.value in
    record {
      arrived = (came, c.requires.early);
      room = room-one c.args.list.now c.args.at c.in-Some.packet c.loop-packet.self came c.loop-packet.invariant.room;
    }

pub loop-packet-preserved : goal.loop-packet-preserved
loop-packet-preserved g c =
    let es = c.args.list.now in
    let t = c.args.at in
    let x = c.loop-packet.self in
    let y = c.take_in.new.self in
    let p = c.in-Some.packet in
    let xs = g.S.ArrivalSource.arrivals c.loop-packet.source in
    let told = c.in-Some.ensures in
    let came = by_then t xs p told.value in
    let rest : taking es t y (g.S.ArrivalSource.arrivals c.next_arrived.new.source) ≡ taking es t x xs =
    ap (taking es t y) told.after ∙ sym (taken_next es t p x came y c.take_in.ensures _) ∙ ap (taking es t x) (sym (head_arrived t xs p told.value)) in
    record {
      sheet = c.take_in.ensures.sheet ∙ c.loop-packet.invariant.sheet;
      rest = rest ∙ c.loop-packet.invariant.rest;
      room = room_next es t p x came y c.take_in.ensures c.loop-packet.invariant.room;
    }
