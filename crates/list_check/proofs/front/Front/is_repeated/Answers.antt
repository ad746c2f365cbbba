-- A number above all that were named is new.
use Rattle.std.proofs.Common.{sym, ◌∙◌}
use Rattle.std.proofs.lemmas.Bool.{lt-leb}
use Rattle.list_check.proofs.Naming.{new_number}
use Rattle.list_check.proofs.front.Front.is_repeated.Goals as goal

pub returns-else-number-self : goal.returns-else-number-self
returns-else-number-self c =
    let f = c.args.self.now in
    lt-leb _ _ c.if-number-self.false ∙ sym (new_number f.latest.now f.entries.now c.args.flow c.args.number f.known c.if-number-self.false)
