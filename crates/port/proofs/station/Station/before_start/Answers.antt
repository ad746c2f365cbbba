-- Why nothing starts.
use Rattle.std.proofs.Common.{◌≡◌, ℕ, ◌%◌, None, sym, ap, ◌∙◌, subst, arith}
use Rattle.gates.specs.Open.{open_at}
use Rattle.sending.specs.Sheet.{cycle}
use Rattle.port.specs.Station.{sheet_of}
use Rattle.port.specs.Quiet.{steady, can_start}
use Rattle.port.proofs.Outgo.{not_some}
use Rattle.port.proofs.Blocking.{none_starts, blocked_on}
use Rattle.port.proofs.station.Station.before_start.Goals as goal

pub returns-then-is_empty-clause-quiet : goal.returns-then-is_empty-clause-quiet
returns-then-is_empty-clause-quiet c = record {
  low = c.requires.0;
  high = omega arith;
  each = λ i l h. none_starts c.args.list.now c.args.self.now (sym c.is_empty.ensures ∙ c.if-is_empty.true) i;
}

pub returns-clause-quiet : goal.returns-clause-quiet
returns-clause-quiet c =
    let x = c.args.self.now in
    let es = c.args.list.now in
    let t = c.args.clock in
    let cannot : can_start x.lanes es (t % cycle (sheet_of x)) (open_at es (t % cycle (sheet_of x))) ≡ None = subst (λ (o : ℕ). can_start x.lanes es o (open_at es o) ≡ None) c.offset-offset.ensures.value (sym c.can_start.ensures ∙ not_some c.can_start.result (sym c.if-is_some.ensures)) in
    let stays : c.steady.result ≡ steady es (t % cycle (sheet_of x)) = c.steady.ensures ∙ ap (steady es) c.offset-offset.ensures.value in
    record {
      low = omega (arith, c.min-2.ensures, c.requires.0);
      high = omega (arith, c.min-2.ensures);
      each = λ i l h. blocked_on es x t i cannot l (omega (arith, c.min-2.ensures, c.min-still.ensures)) (omega (arith, c.min-2.ensures, c.min-still.ensures, c.cycle_left.ensures.value));
    }
