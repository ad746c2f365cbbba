-- Line by line.
use Rattle.std.proofs.Common.{◌+◌, ◌*◌, ◌≤◌, length, get_or, take, ap, ◌∙◌, ⊎_elim, inl, inr, rules, arith}
use Rattle.std.proofs.lemmas.List.{length-append, take_all}
use Rattle.gates.specs.Text.{entry_text, list_text}
use Rattle.gates.specs.Entries.{no_entry}
use Rattle.gates.proofs.Texts.{list_text_more, length_front_text}
use Rattle.gates.proofs.Writing.{written_more, written_room}
use Rattle.gates.proofs.text.write_entries.Goals as goal

pub entry-requires : goal.entry-requires
entry-requires c =
    let xs = c.args.list.now in
    let i = c.loop-entry.entry-index in
    let x = get_or xs i no_entry in
    let more = ap length (list_text_more xs i c.loop-entry-test.true) ∙ length-append (list_text (take i xs)) (entry_text x) in
    let most = length_front_text (i + 1) xs in
    let w = c.loop-entry.invariant.written in
    let ends = w.ends in
    let short = c.loop-entry.invariant.short in
    ⊎_elim
    (λ (h : length (list_text xs) ≤ length c.args.memory.now). inl (written_room _ _ _ (length (entry_text x)) _ _ w (omega arith)))
    (λ (h : 30 * length xs ≤ length c.args.memory.now). inr (written_room _ _ _ 30 _ _ w (omega arith)))
    c.requires

pub loop-entry-preserved : goal.loop-entry-preserved
loop-entry-preserved c =
    let xs = c.args.list.now in
    let i = c.loop-entry.entry-index in
    let x = get_or xs i no_entry in
    let more = list_text_more xs i c.loop-entry-test.true in
    let ends = c.entry.ensures.wrote.written.ends in
    record {
      written = rw more (written_more _ _ _ _ _ _ _ _ c.loop-entry.invariant.written c.entry.ensures.wrote.written);
      short = omega arith;
      same_memory = c.entry.ensures.wrote.same_memory ∙ c.loop-entry.invariant.same_memory;
    }

pub returns : goal.returns
returns c =
    let all = take_all c.loop-entry.entry-index c.args.list.now c.loop-entry-test.false in
    let h = rw all at c.loop-entry.invariant.written in
    let same = c.loop-entry.invariant.same_memory in
    search (rules, h, same)
