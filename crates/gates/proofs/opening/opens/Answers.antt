-- A number of 8 bits has no bit past them.
use Rattle.std.proofs.Common.{◌≡◌, ◌/◌, ◌^◌, ◌≤◌, false, ltb, arith, pow_mono}
use native.Mathlib.Nat.{div-eq_of_lt}
use Rattle.std.proofs.lemmas.Bool.{le-ltb}
use Rattle.gates.proofs.opening.opens.Goals as goal

pub returns-else-queue-lt-QUEUES : goal.returns-else-queue-lt-QUEUES
returns-else-queue-lt-QUEUES c =
    let past = c.if-queue-lt-QUEUES.false in
    let more : 2 ^ 8 ≤ 2 ^ c.args.queue = pow_mono past in
    let none : c.args.gates / 2 ^ c.args.queue ≡ 0 = div-eq_of_lt (omega arith) in
    let off : ltb c.args.queue 8 ≡ false = le-ltb _ _ past in
    rw (off, none)
