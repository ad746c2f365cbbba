-- A packet keeps its place, whatever its number.
use Rattle.cycle.proofs.Repeats.{flow_place}
use Rattle.cycle.proofs.cycle.number_in_cycle.Goals as goal

pub returns-in_err-packets-clause-same : goal.returns-in_err-packets-clause-same
returns-in_err-packets-clause-same c = flow_place c.args.cycle c.args.flow.now c.args.number

pub returns-in_err-place-clause-same : goal.returns-in_err-place-clause-same
returns-in_err-place-clause-same c = flow_place c.args.cycle c.args.flow.now c.args.number

pub returns-clause-same : goal.returns-clause-same
returns-clause-same c = flow_place c.args.cycle c.args.flow.now c.args.number
