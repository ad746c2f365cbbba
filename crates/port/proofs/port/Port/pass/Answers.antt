-- Nothing happens up to the next instant.
use Rattle.std.proofs.Common.{refl, arith}
use Rattle.std.specs.Option.{option_map}
use Rattle.port.specs.Station.{sheet_of}
use Rattle.port.proofs.Passing.{passed, passed_ample}
use Rattle.port.proofs.port.Port.pass.Goals as goal

pub invariant_of-self : goal.invariant_of-self
invariant_of-self c =
    let m = c.args.self.now in
    let s = sheet_of m.station in record { early = omega (arith, c.before_start-self.ensures.quiet.high, c.before_switch-switch.ensures.high, c.before_arrival-arrival.ensures.high, c.requires.1); ample = passed_ample s m.list.now (option_map (λ x. x.now) m.pending) m.station m.clock c.before_arrival-arrival.result c.before_switch-switch.result c.before_start-self.result c.args.end c.args.head c.before_arrival-arrival.ensures c.before_switch-switch.ensures c.before_start-self.ensures.quiet m.ample }

pub returns : goal.returns
returns c =
    let m = c.args.self.now in
    let s = sheet_of m.station in
    record {
      sheet = refl;
      forth = c.before_start-self.ensures.quiet.low;
      within = omega (arith, c.before_start-self.ensures.quiet.high, c.before_switch-switch.ensures.high, c.before_arrival-arrival.ensures.high);
      same = passed s m.list.now (option_map (λ x. x.now) m.pending) m.station m.clock c.before_arrival-arrival.result c.before_switch-switch.result c.before_start-self.result c.args.end c.args.head c.before_arrival-arrival.ensures c.before_switch-switch.ensures c.before_start-self.ensures.quiet;
    }
