-- The three steps.
use Rattle.std.proofs.Common.{arith}
use Rattle.std.specs.Option.{option_map}
use Rattle.port.proofs.Deciding.{ample_room, decided_all, decided_ample}
use Rattle.port.proofs.port.Port.decide.Goals as goal

pub take_arrived-requires : goal.take_arrived-requires
take_arrived-requires g c =
    let m = c.args.self.now in
    record {
      early = m.early;
      room = ample_room m.clock m.list.now (option_map (λ x. x.now) m.pending) m.station c.offset-offset.result c.offset-offset.ensures.value c.in_force.result.0.now c.in_force.ensures.force m.ample;
    }

pub invariant_of-self : goal.invariant_of-self
invariant_of-self g c =
    let m = c.args.self.now in
    record {
      early = omega (arith, c.requires);
      ample = decided_ample m.clock m.list.now (option_map (λ x. x.now) m.pending) m.station c.offset-offset.result c.offset-offset.ensures.value c.in_force.result.0.now c.in_force.ensures.force (option_map (λ x. x.now) c.in_force.result.1) c.in_force.ensures.pends
          (g.S.ArrivalSource.arrivals c.args.source.now) (g.S.ArrivalSource.arrivals c.take_arrived.new.source) c.take_arrived.new.self c.send-start.new.self c.send-start.result c.take_arrived.ensures c.send-start.ensures m.ample;
    }

pub returns : goal.returns
returns g c =
    let m = c.args.self.now in
    let all = decided_all m.clock m.list.now (option_map (λ x. x.now) m.pending) m.station c.offset-offset.result c.offset-offset.ensures.value c.in_force.result.0.now c.in_force.ensures.force (option_map (λ x. x.now) c.in_force.result.1) c.in_force.ensures.pends
    (g.S.ArrivalSource.arrivals c.args.source.now) (g.S.ArrivalSource.arrivals c.take_arrived.new.source) c.take_arrived.new.self c.send-start.new.self c.send-start.result c.take_arrived.ensures c.send-start.ensures in
    record { sheet = all.0; port = all.1; left = all.2; starts = all.3 }
