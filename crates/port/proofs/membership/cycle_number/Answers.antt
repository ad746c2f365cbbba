-- A flow of the sheet has a packet in the cycle.
use Rattle.std.proofs.Common.{sym, ◌∙◌}
use Rattle.std.proofs.lemmas.Option.{cond_some}
use Rattle.sheet.specs.Contents.{traffic_of}
use Rattle.sending.proofs.Fitting.{read_sheets_fit}
use Rattle.sending.proofs.Source.{ours_from}
use Rattle.port.proofs.Sheets.{number_there}
use Rattle.port.proofs.membership.cycle_number.Goals as goal

pub returns : goal.returns
returns c =
    let s = traffic_of c.args.sheet.now in
    let p = c.args.packet.now in
    let flow-is = (cond_some _ _ _ (sym c.in_ok-flow.ensures)).1 in
    number_there s (read_sheets_fit s c.args.sheet.now.kept) p (ours_from s p c.requires) c.cycle.result c.in_ok-flow.field-0 (c.cycle.ensures ∙ c.args.sheet.now.round) (sym flow-is) c.number_in_cycle.result c.number_in_cycle.ensures.value
