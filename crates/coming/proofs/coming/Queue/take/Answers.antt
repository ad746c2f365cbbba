-- The first packet to come has a flow of the sheet and a number in the cycle; the next one of its flow joins the others.
use Rattle.std.proofs.Common.{take, subst, arith}
use Rattle.std.specs.List.{AllByRecursion}
use Rattle.sheet.specs.Contents.{traffic_of}
use Rattle.coming.specs.Coming.{Due, held}
use Rattle.coming.proofs.Dues.{due_bounds}
use Rattle.coming.proofs.Steps.{stepped}
use Rattle.coming.proofs.coming.Queue.take.Goals as goal

pub overflow_add-first : goal.overflow_add-first
overflow_add-first c =
    let s = c.args.sheet.now in
    let due : Due (traffic_of s) s.cycle c.args.queue c.in_ok-first.first = (subst (AllByRecursion (Due (traffic_of s) s.cycle c.args.queue)) c.in_ok-first.ensures.held c.requires.lined.due).0 in
    let b = due_bounds (traffic_of s) s.cycle c.args.queue c.in_ok-first.first s.kept due in
    omega (arith, b.number_most, s.short)

pub join-requires : goal.join-requires
join-requires c =
    let s = c.args.sheet.now in
    let due : Due (traffic_of s) s.cycle c.args.queue c.in_ok-first.first = (subst (AllByRecursion (Due (traffic_of s) s.cycle c.args.queue)) c.in_ok-first.ensures.held c.requires.lined.due).0 in
    let b = due_bounds (traffic_of s) s.cycle c.args.queue c.in_ok-first.first s.kept due in
    let count = c.in_ok-first.ensures.count in
    record {
      flow = (due.named, due.listed);
      number = (omega arith, omega (arith, b.number_most, s.short));
      room = omega (arith, count, c.requires.few);
      ordered = c.in_ok-first.ensures.ordered c.requires.lined.ordered;
    }

pub returns-clause-comes : goal.returns-clause-comes
returns-clause-comes c =
    let s = c.args.sheet.now in
    record {
      few = omega (arith, c.join.ensures.count, c.in_ok-first.ensures.count, c.requires.few);
      lined =
          (stepped (traffic_of s) s.cycle c.args.queue c.in_ok-first.first (held c.args.self.now) (held c.join.new.self) c.requires.lined (take c.in_ok-first.rest c.take_first.new.table, (c.in_ok-first.ensures.held, c.join.ensures.joins))).lined;
    }
