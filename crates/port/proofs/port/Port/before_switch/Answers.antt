-- Up to the end of the cycle.
use Rattle.std.proofs.Common.{arith}
use Rattle.std.specs.Option.{option_map}
use Rattle.port.specs.Meaning.{traffic}
use Rattle.port.proofs.Passing.{unswitched}
use Rattle.port.proofs.port.Port.before_switch.Goals as goal

pub returns : goal.returns
returns c =
    let m = c.args.self.now in
    record {
      low = omega (arith, c.min.ensures, c.requires);
      high = omega (arith, c.min.ensures);
      each = λ i l h. unswitched (traffic m) (option_map (λ x. x.now) m.pending) m.clock i (omega (arith, c.offset.ensures.value)) l (omega (arith, c.min.ensures, c.cycle_left.ensures.value));
    }
