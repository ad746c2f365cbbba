-- A line has at most 30 bytes.
use Rattle.std.proofs.Common.{arith}
use Rattle.gates.proofs.Texts.{length-entry_text, length-entry_text_le}
use Rattle.gates.proofs.text.lengths.entry_length.Goals as goal

pub returns-clause-bound : goal.returns-clause-bound
returns-clause-bound c =
    let whole = length-entry_text c.args.entry in
    let few = length-entry_text_le c.args.entry (omega arith) (omega arith) (omega arith) (omega arith) in
    omega arith
