-- What is written so far: the first lines, of at most 30 bytes each.
use Rattle.std.proofs.Common.{◌≡◌, ◌*◌, ◌≤◌, take}
use Rattle.gates.specs.Text.{list_text}
use Rattle.gates.specs.Writes.{WrittenAt}
use Rattle.gates.proofs.text.write_entries.Given as goal

abbrev pub invariant-loop-entry : goal.invariant-loop-entry
invariant-loop-entry l = record {
  written : WrittenAt (list_text (take l.entry-index l.list)) 0 l.writer.at l.initial.writer.memory.now l.writer.memory.now;
  short : l.writer.at ≤ 30 * l.entry-index;
  same_memory : l.writer.memory.ghost_name ≡ l.initial.writer.memory.ghost_name;
}
