-- The digits, and the byte behind them.
use Rattle.std.proofs.Common.{◌+◌, ◌-◌, [], ◌∷◌, decimal, refl, arith}
use Rattle.gates.proofs.Writing.{written_part, written_room, written_byte, written_more}
use Rattle.gates.proofs.text.writer.Writer.field.Goals as goal

pub returns : goal.returns
returns c =
    let at = c.args.self.now.at in
    let end = at + c.digit_count.result in
    let digits = written_part (decimal c.args.n) _ at (end - at) end c.args.self.now.memory.now c.write_digits.ensures (omega arith) (omega arith) (omega arith) in
    let room = written_room _ _ _ 1 _ _ digits (omega arith) in
    let line = written_more (decimal c.args.n) (c.args.mark ∷ []) at end (end + 1) _ _ _ digits (written_byte c.args.mark end _ (omega (arith, room))) in
    record { written = line; same_memory = refl }
