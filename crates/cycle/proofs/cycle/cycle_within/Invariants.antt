-- The multiple so far and those of the flows to come give the cycle.
use Rattle.std.proofs.Common.{◌≡◌, map, drop}
use Rattle.cycle.specs.Multiple.{lcm, lcm_of}
use Rattle.cycle.specs.Cycle.{pattern_time, cycle_of}
use Rattle.cycle.proofs.cycle.cycle_within.Given as goal

abbrev pub invariant-loop-flow : goal.invariant-loop-flow
invariant-loop-flow l = lcm l.cycle (lcm_of (map pattern_time (drop l.flow-index l.flows))) ≡ cycle_of l.flows
