-- What `plan` answers to a text. Assumes nothing.
use Rattle.std.specs.Prelude.{ℕ, List, Some, None, Ok, Err, Option, Result}
use Rattle.std.specs.Option.{option_map}
use Rattle.refusal.specs.Told.{refusal_text}
use Rattle.traffic.specs.Packets.{Traffic}
use Rattle.cycle.specs.Cycle.{cycle_of}
use Rattle.sheet.specs.declared.faults.SheetFault.{SheetFault}
use Rattle.sheet.specs.Refusals.{sheet_refusal}
use Rattle.gates.specs.declared.entry.Entry.{Entry}
use Rattle.gates.specs.declared.text.WriteFault.{WriteFault}
use Rattle.gates.specs.Text.{list_text}
use Rattle.gates.specs.Writes.{write_fault}
use Rattle.gates.specs.Writes as writes
use Rattle.search.specs.declared.fault.SearchFault.{SearchFault}
use Rattle.search.specs.Faults.{search_refusal}
use Rattle.search.specs.Serving.{deadline_monotonic}
use Rattle.coming.specs.Packets.{packets_before}
use Rattle.search.specs.Search.{Cycle, planned_list}

-- the packets of the cycle of a sheet that says this
abbrev pub packets_of_cycle : Traffic → Cycle
packets_of_cycle t = record {
  long = cycle_of t.flows;
  mandatory = λ q. packets_before t q (cycle_of t.flows);
  optional = packets_before t 0 (cycle_of t.flows);
}

-- a list's text, or why it is not written
abbrev pub written : List Entry → Option WriteFault → List ℕ
written list None = list_text list
written list (Some f) = refusal_text (writes.refusal_of f)

-- the text of a list that was found, or of the refusal; a text has at most 30,720 bytes
abbrev pub search_answer : Result (List Entry) SearchFault → List ℕ
search_answer (Ok list) = written list (write_fault list 30720)
search_answer (Err f) = refusal_text (search_refusal f)

-- the answer to a sheet: its deadline-monotonic list, or the refusal of the search
abbrev pub sheet_answer : Traffic → List ℕ
sheet_answer t = search_answer (planned_list deadline_monotonic (packets_of_cycle t))

-- the answer to what was read; none where memory was short
abbrev pub plan_answer : Result Traffic SheetFault → Option (List ℕ)
plan_answer (Ok t) = Some (sheet_answer t)
plan_answer (Err e) = option_map refusal_text (sheet_refusal e)
