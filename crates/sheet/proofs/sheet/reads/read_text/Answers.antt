-- The text's length, its lines, and its cycle.
use Rattle.std.proofs.Common.{◌≡◌, ℕ, ◌<◌, List, Some, None, Option, Ok, Err, vec_items, refl, sym, ap, ◌∙◌, subst, inr, arith}
use Rattle.std.specs.Option.{ok_or}
use Rattle.std.specs.List.{AllByRecursion}
use Rattle.std.proofs.lemmas.Result.{err_from_is_err_and}
use Rattle.traffic.specs.declared.flow.Flow.{Flow}
use Rattle.cycle.specs.Multiple.{from_one_to}
use Rattle.cycle.specs.Cycle.{cycle_of}
use Rattle.sheet.specs.declared.faults.SheetFault.{SheetFault}
use Rattle.sheet.specs.declared.faults.SheetFault.TheVariants.{Cycle}
use Rattle.sheet.proofs.Spelled.{lines_parts}
use Rattle.sheet.proofs.Loops.{periods_some}
use Rattle.sheet.proofs.Wholes.{no_lines, whole, long_cycle}
use Rattle.sheet.proofs.sheet.reads.read_text.Goals as goal

pub returns-in_err-rate : goal.returns-in_err-rate
returns-in_err-rate c =
    let p = err_from_is_err_and c.from_residual.result c.from_residual.ensures.1 in
    rw (p.1, p.2) (no_lines c.args.text.now c.if-text-gt-LONGEST_TEXT.false c.in_err-rate.field-0.0 c.in_err-rate.ensures)

-- what was given, and what was not
given : (o : Option ℕ) (e : SheetFault) (x : ℕ) → Ok x ≡ ok_or o e → o ≡ Some x
given None e x h = grind arith
given (Some y) e x h = grind arith

withheld : (o : Option ℕ) (e f : SheetFault) → Err f ≡ ok_or o e → (o ≡ None) × (f ≡ e)
withheld None e f h = (refl, cc)
withheld (Some y) e f h = absurd (grind arith)

pub returns-in_err-cycle : goal.returns-in_err-cycle
returns-in_err-cycle c =
    let p = err_from_is_err_and c.from_residual-in_err-cycle.result c.from_residual-in_err-cycle.ensures.1 in
    let no = withheld c.cycle_within.result Cycle _ c.in_err-cycle.ensures.value in
    let flows = vec_items c.read_lines.new.flows in
    let same : c.as_slice.result.now ≡ flows = c.as_slice.ensures.value in
    let none : None ≡ from_one_to 1000000000 (cycle_of flows) = sym no.0 ∙ c.cycle_within.ensures.value ∙ ap (λ (fs : List Flow). from_one_to 1000000000 (cycle_of fs)) same in
    let Some-time : List Flow → Type 0 = λ fs. AllByRecursion (λ f. 0 < f.period) fs → 0 < cycle_of fs in
    let kept = (lines_parts c.args.text.now _ c.in_ok-rate.ensures).ranges in
    let some : 0 < cycle_of flows = subst Some-time same c.cycle_within.ensures.some (periods_some c.in_ok-rate.rate flows kept) in
    rw (p.1, p.2, no.1) (inr (long_cycle c.args.text.now c.if-text-gt-LONGEST_TEXT.false _ c.in_ok-rate.ensures none some))

pub returns : goal.returns
returns c =
    let flows = vec_items c.read_lines.new.flows in
    let some = given c.cycle_within.result Cycle c.in_ok-cycle.cycle c.in_ok-cycle.ensures.value in
    let is : Some c.in_ok-cycle.cycle ≡ from_one_to 1000000000 (cycle_of flows) = sym some ∙ c.cycle_within.ensures.value ∙ ap (λ (fs : List Flow). from_one_to 1000000000 (cycle_of fs)) c.as_slice.ensures.value in
    whole c.args.text.now c.if-text-gt-LONGEST_TEXT.false _ c.in_ok-cycle.cycle c.in_ok-rate.ensures is
