-- The packets of the other sort are skipped.
use Rattle.std.proofs.Common.{◌+◌, ◌-◌, ◌%◌, sym, subst, arith}
use Rattle.traffic.specs.declared.sort.Sort.{Sort}
use Rattle.traffic.specs.Sorts.{of_sort, FirstFrom}
use Rattle.traffic.proofs.Turns.{past_optional, past_mandatory}
use Rattle.traffic.proofs.flow.Flow.next_of_sort.Goals as goal

pub returns-in-Mandatory-2 : goal.returns-in-Mandatory-2
returns-in-Mandatory-2 c =
    let f = c.args.self.now in
    let r = c.pattern-w.result in
    subst (λ (s : Sort). FirstFrom (of_sort s f) c.args.from (c.args.from + (r.0 + r.1 - (c.args.from - 1) % (r.0 + r.1)))) (sym c.in-Mandatory-2.is)
    (past_optional f c.args.from r c.pattern-w.ensures.value c.requires.0 c.if-mandatory-gt0.true (omega (arith, c.if-place-mandatory.false)))

pub returns-in-Optional-2 : goal.returns-in-Optional-2
returns-in-Optional-2 c =
    let f = c.args.self.now in
    let r = c.pattern-w.result in
    subst (λ (s : Sort). FirstFrom (of_sort s f) c.args.from (c.args.from + (r.1 - (c.args.from - 1) % (r.0 + r.1)))) (sym c.in-Optional-2.is)
    (past_mandatory f c.args.from r c.pattern-w.ensures.value c.requires.0 c.if-optional-gt0.true (omega (arith, c.if-place-mandatory-2.false)))
