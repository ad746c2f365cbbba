-- The next line, its key, and its number's range.
use Rattle.sheet.specs.Readers.{cursor}
use Rattle.sheet.proofs.Steps.{number_reads}
use Rattle.sheet.proofs.reader.Reader.number.Goals as goal

pub returns-clause-reads : goal.returns-clause-reads
returns-clause-reads c =
    let a = c.in_ok-next_line.ensures in
    number_reads c.args.key c.args.low c.args.high (cursor c.args.self.now) c.in_ok-next_line.field-0 (cursor c.next_line.new.self) c.in_ok-part.part c.between.result
    a.reads a.place c.in_ok-part.ensures c.between.ensures
