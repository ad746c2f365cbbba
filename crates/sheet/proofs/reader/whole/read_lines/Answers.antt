-- The rate, the flows, and nothing behind them.
use Rattle.std.proofs.Common.{vec_items, sym}
use Rattle.std.proofs.lemmas.Result.{err_from_is_err_and}
use Rattle.sheet.specs.Readers.{cursor}
use Rattle.sheet.proofs.Loops.{no_flows, all_lines}
use Rattle.sheet.proofs.reader.whole.read_lines.Goals as goal

pub returns-in_err-flows : goal.returns-in_err-flows
returns-in_err-flows c =
    let p = err_from_is_err_and c.from_residual-in_err-flows.result c.from_residual-in_err-flows.ensures.1 in
    rw (p.1, p.2) (no_flows c.args.text.now c.in_ok-rate.rate (cursor c.rate.new.self) c.in_ok-rate.ensures c.in_err-flows.field-0.0 c.in_err-flows.ensures)

pub returns : goal.returns
returns c =
    all_lines c.args.text.now c.in_ok-rate.rate (cursor c.rate.new.self) c.in_ok-rate.ensures (vec_items c.flows.new.flows) (cursor c.flows.new.self) c.in_ok-flows.ensures (sym c.if-not-is_empty.ensures)
