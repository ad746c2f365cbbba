-- All but the first digits stand from `place` on; `rest` is the number in front of them.
use Rattle.gates.proofs.Spelling.{Spelling}
use Rattle.gates.proofs.text.digits.write_digits.Given as goal

abbrev pub invariant-loop-place : goal.invariant-loop-place
invariant-loop-place l = Spelling l.n l.rest l.place l.memory
