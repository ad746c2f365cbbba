-- One digit, two, or one more than the power of ten that is reached.
use Rattle.std.proofs.Common.{add-one, pow-suc, arith}
use Rattle.std.proofs.lemmas.Fmt.{decimal_digit}
use Rattle.gates.proofs.Counts.{count-is}
use Rattle.gates.proofs.text.digits.digit_count.Goals as goal

pub returns-in-0-to-9-clause-value : goal.returns-in-0-to-9-clause-value
returns-in-0-to-9-clause-value c = rw (decimal_digit c.args.n (omega arith))

pub returns-in-10-to-99-clause-value : goal.returns-in-10-to-99-clause-value
returns-in-10-to-99-clause-value c = count-is 1 c.args.n (omega arith) (omega arith) (omega arith)

pub returns-in_default-clause-value : goal.returns-in_default-clause-value
returns-in_default-clause-value c =
    let k = c.ilog10.result in
    let next = c.ilog10.ensures.next_power_gt in
    count-is k c.args.n (omega arith) c.ilog10.ensures.power_le (rw (add-one, pow-suc 10 k) (omega arith))
