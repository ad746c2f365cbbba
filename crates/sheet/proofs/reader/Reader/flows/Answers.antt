-- One flow after another, up to the line that counts them.
use Rattle.std.proofs.Common.{◌≡◌, Bool, true, false, length, Ok, vec_items, sym, ap, ◌∙◌, inr}
use Rattle.std.proofs.lemmas.Result.{err_from_is_err_and}
use Rattle.sheet.specs.Reading.{heading_line, in_sheet}
use Rattle.sheet.specs.Readers.{cursor}
use Rattle.sheet.proofs.Loops.{no_heading, last_heading, no_flow_lines, one_flow}
use Rattle.sheet.proofs.reader.Reader.flows.Goals as goal

pub loop-self-init : goal.loop-self-init
loop-self-init c = rw c.requires

pub returns-in_err-heading : goal.returns-in_err-heading
returns-in_err-heading c =
    let done = vec_items c.loop-self.flows in
    let len : c.len.result ≡ length done = c.len.ensures ∙ c.loop-self.flows.ok.0 in
    let fault = no_heading c.args.rate done c.len.result (cursor c.loop-self.self) len _ c.in_err-heading.field-0.0 c.in_err-heading.ensures.reads in
    let p = err_from_is_err_and c.from_residual.result c.from_residual.ensures.1 in
    rw (p.1, p.2) (inr (ap in_sheet (sym c.loop-self.invariant ∙ fault)))

pub returns-in_err-flow : goal.returns-in_err-flow
returns-in_err-flow c =
    let done = vec_items c.loop-self.flows in
    let head = c.in_ok-heading.ensures in
    let len : c.len.result ≡ length done = c.len.ensures ∙ c.loop-self.flows.ok.0 in
    let here = cursor c.loop-self.self in
    let after = cursor c.heading.new.self in
    let more : heading_line c.len.result here ≡ Ok (true, after) = head.reads ∙ ap (λ (b : Bool). Ok (b, after)) c.if-branch.true in
    let fault = no_flow_lines c.args.rate done c.len.result here len after c.in_err-flow.field-0.0 (head.few c.if-branch.true) more c.in_err-flow.ensures in
    let p = err_from_is_err_and c.from_residual-in_err-flow.result c.from_residual-in_err-flow.ensures.1 in
    rw (p.1, p.2) (inr (ap in_sheet (sym c.loop-self.invariant ∙ fault)))

pub loop-self-preserved : goal.loop-self-preserved
loop-self-preserved c =
    let done = vec_items c.loop-self.flows in
    let head = c.in_ok-heading.ensures in
    let len : c.len.result ≡ length done = c.len.ensures ∙ c.loop-self.flows.ok.0 in
    let here = cursor c.loop-self.self in
    let after = cursor c.heading.new.self in
    let more : heading_line c.len.result here ≡ Ok (true, after) = head.reads ∙ ap (λ (b : Bool). Ok (b, after)) c.if-branch.true in
    let step = one_flow c.args.rate done c.len.result here len after (cursor c.flow.new.self) c.in_ok-flow.flow (head.few c.if-branch.true) more c.in_ok-flow.ensures in
    rw c.in_ok-push.ensures.items (sym step ∙ c.loop-self.invariant)

pub returns : goal.returns
returns c =
    let done = vec_items c.loop-self.flows in
    let head = c.in_ok-heading.ensures in
    let len : c.len.result ≡ length done = c.len.ensures ∙ c.loop-self.flows.ok.0 in
    let here = cursor c.loop-self.self in
    let after = cursor c.heading.new.self in
    let last : heading_line c.len.result here ≡ Ok (false, after) = head.reads ∙ ap (λ (b : Bool). Ok (b, after)) c.if-branch.false in
    sym c.loop-self.invariant ∙ last_heading c.args.rate done c.len.result here len _ after last
