-- What a search answers, and the lent memory after it. Assumes nothing.
use Rattle.std.specs.Prelude.{◌≡◌, ℕ, ◌-◌, ◌≤◌, Bool, cond, ◌||◌, List, ◌++◌, length, take, replicate, Ok, Err, Result, ◌==◌, nat_lt}
use Rattle.traffic.specs.declared.packet.Job.{Job}
use Rattle.sheet.specs.declared.sheet.Sheet.{Sheet}
use Rattle.sheet.specs.Contents.{traffic_of}
use Rattle.search.specs.declared.fault.SearchFault.{SearchFault}
use Rattle.search.specs.declared.fault.SearchFault.TheVariants.{EmptySheet, LittleMemory}
use Rattle.search.specs.Faults.{unless_begun}
use Rattle.search.specs.Drawn.{Wrote}
use Rattle.search.specs.Search.{most_entries, planned_list}
use Rattle.search.specs.Packets.{cycle_packets}
use Rattle.gates.specs.declared.entry.Entry.{Entry}
use Rattle.search.specs.declared.window.Window.{Window}

-- an entry of zeros
abbrev pub no_entry : Entry
no_entry = record { gates = 0; interval = 0; flow = 0; number = 0 }

-- a window of zeros
abbrev pub no_window : Window
no_window = record { start = 0; packet = record { flow = 0; number = 0; queue = 0; arrival = 0; deadline = 0; wire = 0; weight = 0 } }

-- the outcome of a search with so much list and window memory: the list, or the first refusal
abbrev pub found : (Job → Job → Bool) → Sheet → (entries windows : ℕ) → Result (List Entry) SearchFault
found before s entries windows =
    cond (length (traffic_of s).flows == 0) (Err EmptySheet)
    (cond (nat_lt entries most_entries || nat_lt windows most_entries) (Err LittleMemory)
    (planned_list before (cycle_packets s)))

-- what the search answers: the length of the list
abbrev pub answer_of : Result (List Entry) SearchFault → Result ℕ SearchFault
answer_of (Ok list) = Ok (length list)
answer_of (Err e) = Err e

-- the list memory after a search: the list and zero beyond it; all zero where the walk stopped; as it was where nothing was begun
abbrev pub list_after : Result (List Entry) SearchFault → List Entry → List Entry
list_after (Ok list) old = list ++ replicate (length old - length list) no_entry
list_after (Err e) old = unless_begun e old (replicate (length old) no_entry)

-- the window memory after a search: all zero, or as it was where nothing was begun
abbrev pub windows_after : Result (List Entry) SearchFault → List Window → List Window
windows_after (Ok list) old = replicate (length old) no_window
windows_after (Err e) old = unless_begun e old (replicate (length old) no_window)

-- what a search answers, and the list and window memory after it
pub record Searched (before : Job → Job → Bool) (s : Sheet) (entries : List Entry) (places : List Window) (r : Result ℕ SearchFault) (entries' : List Entry) (places' : List Window) : Type 0 where
  pub value : r ≡ answer_of (found before s (length entries) (length places))
  pub list : entries' ≡ list_after (found before s (length entries) (length places)) entries
  pub windows : places' ≡ windows_after (found before s (length entries) (length places)) places

-- the planned list was drawn at the start of the memory
pub record Planned (r : Result (List Entry) SearchFault) (n : ℕ) (before after : List Entry) : Type 0 where
  pub list : List Entry
  pub is : r ≡ Ok list
  pub wrote : Wrote list 0 n before after
  pub few : length list ≤ most_entries

-- the first n entries, and zero beyond
abbrev pub zero_from : ℕ → List Entry → List Entry
zero_from n es = take n es ++ replicate (length es - n) no_entry
