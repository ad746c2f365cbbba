-- One field after another.
use Rattle.std.proofs.Common.{◌+◌, length, decimal, arith}
use Rattle.gates.proofs.Texts.{length-entry_text_le, line_room, field_room}
use Rattle.gates.proofs.Writing.{written_more}
use Rattle.gates.proofs.text.writer.Writer.entry.Goals as goal

pub field-requires : goal.field-requires
field-requires c =
    let e = c.args.entry in
    let room = line_room _ _ e (omega arith) (omega arith) (omega arith) (omega arith) c.requires in
    omega arith

pub field-requires-2 : goal.field-requires-2
field-requires-2 c =
    let e = c.args.entry in
    let room = line_room _ _ e (omega arith) (omega arith) (omega arith) (omega arith) c.requires in
    let one = field_room _ _ _ _ (length (decimal e.interval) + 1) _ _ c.field.ensures.written (omega arith) in
    omega arith

pub field-requires-3 : goal.field-requires-3
field-requires-3 c =
    let e = c.args.entry in
    let room = line_room _ _ e (omega arith) (omega arith) (omega arith) (omega arith) c.requires in
    let last = length (decimal e.flow) + 1 in
    let one = field_room _ _ _ _ (length (decimal e.interval) + 1 + last) _ _ c.field.ensures.written (omega arith) in
    let two = field_room _ _ _ _ last _ _ c.field-2.ensures.written (omega arith) in
    omega arith

pub field-requires-4 : goal.field-requires-4
field-requires-4 c =
    let e = c.args.entry in
    let room = line_room _ _ e (omega arith) (omega arith) (omega arith) (omega arith) c.requires in
    let last = length (decimal e.number) + 1 in
    let two = length (decimal e.flow) + 1 + last in
    let h1 = field_room _ _ _ _ (length (decimal e.interval) + 1 + two) _ _ c.field.ensures.written (omega arith) in
    let h2 = field_room _ _ _ _ two _ _ c.field-2.ensures.written (omega arith) in
    let h3 = field_room _ _ _ _ last _ _ c.field-3.ensures.written (omega arith) in
    omega arith

pub returns : goal.returns
returns c =
    let e = c.args.entry in
    let few = length-entry_text_le e (omega arith) (omega arith) (omega arith) (omega arith) in
    let line =
    written_more _ _ _ _ _ _ _ _ c.field.ensures.written
    (written_more _ _ _ _ _ _ _ _ c.field-2.ensures.written (written_more _ _ _ _ _ _ _ _ c.field-3.ensures.written c.field-4.ensures.written)) in
    let ends = line.ends in
    record { wrote = record { written = line; same_memory = cc }; short = omega arith }
