-- A sheet without flows keeps all; a sheet that was read is the one of its text.
use Rattle.std.proofs.Common.{◌≡◌, ◌≤◌, length, vec_items, vec_len, sym, ap, ◌∙◌, arith}
use Rattle.traffic.specs.Packets.{Traffic}
use Rattle.cycle.specs.Cycle.{cycle_of}
use Rattle.sheet.proofs.Spelled.{reads_exactly, one_sheet, no_sheet}
use Rattle.sheet.proofs.sheet.Sheet.read.Goals as goal

pub invariant_of-self : goal.invariant_of-self
invariant_of-self c =
    let read = c.in-Ok.ensures in
    let flows = c.read_text.new.flows in
    let keeps = (reads_exactly.0 c.args.text.now _ read.0).0 in
    let len : vec_len flows ≡ length (vec_items flows) = flows.ok.0 in
    let most : length (vec_items flows) ≤ 64 = keeps.few in
    let short : cycle_of (vec_items flows) ≤ 1000000000 = keeps.short in
    record { few = omega arith; kept = keeps.ranges; round = read.1; short = omega (arith, read.1) }

pub invariant_of-self-in-Err-clause-round : goal.invariant_of-self-in-Err-clause-round
invariant_of-self-in-Err-clause-round c = c.clear.new.self.round ∙ ap (λ (t : Traffic). cycle_of t.flows) c.clear.ensures ∙ ap cycle_of (sym c.forget.ensures.items)

pub returns-in-Ok : goal.returns-in-Ok
returns-in-Ok c =
    let read = c.in-Ok.ensures in
    record { cases = read.0; exact = reads_exactly.0 c.args.text.now _ read.0; distinct = one_sheet }

pub returns-in-Err : goal.returns-in-Err
returns-in-Err c =
    let rate = ap (λ (t : Traffic). t.rate) c.clear.ensures in
    record {
      cases = (rw (c.forget.ensures.items, rate), c.in-Err.ensures);
      exact = no_sheet c.args.text.now c.in-Err.fault c.in-Err.ensures;
      distinct = one_sheet;
    }
