-- The cycle of a sheet takes some time.
use Rattle.std.proofs.Common.{◌<◌, mod-lt, arith}
use Rattle.port.proofs.Sheets.{some_cycle}
use Rattle.port.proofs.station.Station.offset.Goals as goal

pub nonzero_rem-result : goal.nonzero_rem-result
nonzero_rem-result c = let some = some_cycle c.args.self.now.sheet.now in omega (arith, c.cycle.ensures)

pub returns-clause-within : goal.returns-clause-within
returns-clause-within c =
    let some = some_cycle c.args.self.now.sheet.now in
    let pos : 0 < c.cycle.result = omega (arith, c.cycle.ensures) in
    let below = mod-lt c.args.at pos in
    omega (arith, c.cycle.ensures, c.args.self.now.sheet.now.round)
