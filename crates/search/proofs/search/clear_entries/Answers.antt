-- Record by record, zero.
use Rattle.std.proofs.Common.{◌≡◌, ℕ, ◌<◌, ◌≤◌, List, [], ◌∷◌, ◌++◌, length, replicate, sym, ap, ◌∙◌, arith}
use Rattle.std.proofs.lemmas.List.{take_more_set, take_all, replicate_more}
use Rattle.gates.specs.declared.entry.Entry.{Entry}
use Rattle.search.specs.Memory.{no_entry}
use Rattle.search.proofs.search.clear_entries.Goals as goal

pub loop-entry-preserved : goal.loop-entry-preserved
loop-entry-preserved c =
    let i = c.loop-entry.entry-index in
    let within : i < length c.loop-entry.list = omega arith in
    take_more_set c.loop-entry.list i no_entry within ∙ ap (λ (zs : List Entry). zs ++ (no_entry ∷ [])) c.loop-entry.invariant ∙ replicate_more i no_entry

pub returns : goal.returns
returns c =
    let all : length c.loop-entry.list ≤ c.loop-entry.entry-index = omega arith in
    let same : c.loop-entry.entry-index ≡ length c.args.list.now = omega arith in
    sym (take_all c.loop-entry.entry-index c.loop-entry.list all) ∙ c.loop-entry.invariant ∙ ap (λ (k : ℕ). replicate k no_entry) same
