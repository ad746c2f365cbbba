-- Each turn puts one digit in front of those that stand; the first comes last.
use Rattle.std.proofs.Common.{◌≡◌, ◌+◌, ◌-◌, arith}
use Rattle.std.proofs.lemmas.Fmt.{decimal_nonempty}
use Rattle.gates.proofs.Spelling.{spelling_none, spelling_more, spelling_digit, spelling_all}
use Rattle.gates.proofs.text.digits.write_digits.Goals as goal

pub loop-place-init : goal.loop-place-init
loop-place-init c =
    let some = decimal_nonempty c.args.n (omega arith) in
    spelling_none c.args.n c.args.memory.now c.requires (omega arith)

pub loop-place-preserved : goal.loop-place-preserved
loop-place-preserved c =
    let place = c.loop-place.place in
    let here : place ≡ place - 1 + 1 = omega arith in
    spelling_more c.args.n c.loop-place.rest (place - 1) c.loop-place.memory (omega arith) (omega arith) (omega arith) (omega arith) (rw here at c.loop-place.invariant)

pub overflow_cast-memory-2 : goal.overflow_cast-memory-2
overflow_cast-memory-2 c =
    let digit = spelling_digit _ _ _ c.loop-place.memory (omega arith) (omega arith) (omega arith) (omega arith) c.loop-place.invariant in
    omega arith

pub overflow_add-memory-2 : goal.overflow_add-memory-2
overflow_add-memory-2 c =
    let digit = spelling_digit _ _ _ c.loop-place.memory (omega arith) (omega arith) (omega arith) (omega arith) c.loop-place.invariant in
    omega arith

pub returns : goal.returns
returns c = spelling_all _ _ _ c.loop-place.memory (omega arith) (omega arith) (omega arith) (omega arith) c.loop-place.invariant
