-- A port just made.
use Rattle.std.proofs.Common.{◌≤◌, length, sym, subst, arith, rules, Bor}
use Rattle.sheet.specs.declared.sheet.Sheet.{Sheet}
use Rattle.sheet.specs.Contents.{traffic_of}
use Rattle.sending.specs.Calls.{new_port}
use Rattle.sending.proofs.Fitting.{read_sheets_fit}
use Rattle.port.specs.Station.{sheet_of}
use Rattle.port.specs.Life.{Ample}
use Rattle.port.proofs.Ampleness.{new_ample}
use Rattle.port.proofs.Deciding.{new_is}
use Rattle.port.proofs.port.Port.of.Goals as goal

pub invariant_of-result : goal.invariant_of-result
invariant_of-result c =
    let s = traffic_of c.args.sheet.now in
    let x = c.new.result in
    let few : length s.flows ≤ 64 = search rules in
    let ample = new_ample s (read_sheets_fit s c.args.sheet.now.kept) few c.args.list.now c.requires in
    let here = subst (λ (b : Bor Sheet). Ample (traffic_of b.now) (new_port c.args.list.now)) (sym c.new.ensures.sheet) ample in
    record { early = omega arith; ample = subst (Ample (sheet_of x)) (sym (new_is x c.new.ensures.lanes c.args.list.now c.new.ensures.parts)) here }

pub returns : goal.returns
returns c = (c.new.ensures.sheet, new_is c.new.result c.new.ensures.lanes c.args.list.now c.new.ensures.parts)
