-- Each refusal, and the acceptance.
use Rattle.std.proofs.Common.{refl}
use Rattle.std.proofs.lemmas.Result.{err_from_is_err_and}
use Rattle.sheet.specs.Contents.{traffic_of}
use Rattle.sending.specs.Rules.{Rules}
use Rattle.sending.specs.InTime.{InTime}
use Rattle.list_check.specs.Verdict.{HasFlows, LateAt}
use Rattle.list_check.proofs.Judging.{broken_refused, has_flows}
use Rattle.list_check.proofs.Looking.{lawful_rules}
use Rattle.list_check.proofs.acceptance.check.Goals as goal

pub returns-in_err-lawful : goal.returns-in_err-lawful
returns-in_err-lawful c =
    let s = traffic_of c.args.sheet.now in
    let p = err_from_is_err_and c.from_residual.result c.from_residual.ensures.1 in
    rw (p.1, p.2) (broken_refused s c.args.list.now _ (has_flows s c.flows.result.now c.flows.ensures c.if-is_empty.ensures) c.in_err-lawful.ensures)

pub returns-in-Some : goal.returns-in-Some
returns-in-Some c =
    let s = traffic_of c.args.sheet.now in
    let some : HasFlows s = has_flows s c.flows.result.now c.flows.ensures c.if-is_empty.ensures in
    let sheet = c.in_ok-lawful.ensures.0 in
    let list = c.in_ok-lawful.ensures.1 in
    let rules : Rules s c.args.list.now = rw (sheet, list) at (lawful_rules c.in_ok-lawful.lawful) in
    let late : LateAt s c.args.list.now c.in-Some.x.flow c.in-Some.x.number = rw (sheet, list) at c.in-Some.ensures in
    (some, (rules, late))

pub returns : goal.returns
returns c =
    let s = traffic_of c.args.sheet.now in
    let some : HasFlows s = has_flows s c.flows.result.now c.flows.ensures c.if-is_empty.ensures in
    let sheet = c.in_ok-lawful.ensures.0 in
    let list = c.in_ok-lawful.ensures.1 in
    let rules : Rules s c.args.list.now = rw (sheet, list) at (lawful_rules c.in_ok-lawful.lawful) in
    let in_time : InTime s c.args.list.now = rw (sheet, list) at c.in_default.ensures in
    (some, record { rules = rules; in_time = in_time }, refl, refl)
