-- Line by line.
use Rattle.std.proofs.Common.{rules, ◌≡◌, length, sym, ◌∙◌}
use Rattle.std.proofs.iter.runs.Made.{chains}
use Rattle.std.specs.List.{sum_by}
use Rattle.gates.specs.Text.{entry_text}
use Rattle.gates.proofs.Texts.{length-list_text}
use Rattle.gates.proofs.text.lengths.text_length.Goals as goal

pub returns : goal.returns
returns c =
    let total : c.sum.result ≡ sum_by (λ e. length (entry_text e)) c.args.list.now = search (rules, chains) in
    total ∙ sym (length-list_text c.args.list.now)
