-- The text is the list's, and no other list's.
use Rattle.std.proofs.Common.{rules, arith}
use Rattle.gates.proofs.Distinct.{one_text}
use Rattle.gates.proofs.Writing.{written_within}
use Rattle.gates.proofs.text.write_list.Goals as goal

pub returns-then-is_empty : goal.returns-then-is_empty
returns-then-is_empty c = record { cases = search rules; distinct = one_text }

pub returns-then-memory-text_length : goal.returns-then-memory-text_length
returns-then-memory-text_length c = record { cases = search rules; distinct = one_text }

pub returns : goal.returns
returns c =
    let ends = c.write_entries.ensures.ends in
    let within = written_within _ _ _ _ _ c.write_entries.ensures c.write_entries.auto.memory (omega arith) in
    record { cases = search rules; distinct = one_text }
