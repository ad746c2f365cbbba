-- What holds of a search on a sheet. Assumes nothing.
use Rattle.std.specs.Prelude.{◌≡◌, ℕ, zero, suc, ◌<◌, Bool, List, [], length}
use Rattle.traffic.specs.declared.packet.Job.{Job}
use Rattle.traffic.specs.Packets.{Traffic}
use Rattle.gates.specs.declared.entry.Entry.{Entry}
use Rattle.sheet.specs.declared.sheet.Sheet.{Sheet}
use Rattle.sheet.specs.Contents.{traffic_of}
use Rattle.search.specs.declared.window.Window.{Window}
use Rattle.search.specs.declared.fault.SearchFault.{SearchFault}
use Rattle.search.specs.declared.fault.SearchFault.TheVariants.{EmptySheet, LittleMemory, Late, TooLong}
use Rattle.search.specs.Drawn.{drawn}
use Rattle.search.specs.Search.{Cycle, most_entries}
use Rattle.coming.specs.Packets.{packets_before}
use Rattle.search_laws.specs.Laws.{WalkLaw, Windows, Rules, PlanLaw}

-- the mandatory packets of queue q in the cycle: none wait in queue 0
abbrev pub mandatory_packets : Traffic → ℕ → ℕ → List Job
mandatory_packets t long zero = []
mandatory_packets t long (suc q) = packets_before t (suc q) long

-- the packets of the sheet's cycle
abbrev pub served_cycle : Sheet → Cycle
served_cycle s = record {
  long = s.cycle;
  mandatory = mandatory_packets (traffic_of s) s.cycle;
  optional = packets_before (traffic_of s) 0 s.cycle;
}

-- the list is drawn from windows that fit and obey the law of walk and trials, and it keeps the rules
pub record Lawful (before : Job → Job → Bool) (s : Sheet) (list : List Entry) : Type 0 where
  pub windows : List Window
  pub drawn_from : list ≡ drawn 0 windows s.cycle
  pub fit : Windows (served_cycle s) windows
  pub law : PlanLaw before (served_cycle s) windows
  pub rules : Rules s.cycle (served_cycle s).optional list

-- a refusal in the walk is right: no windows obey the law of the walk, or their list is too long
abbrev pub Rightly : (Job → Job → Bool) → Sheet → SearchFault → Type 0
Rightly before s EmptySheet = Unit {0}
Rightly before s LittleMemory = Unit {0}
Rightly before s (Late flow number) = (ws : List Window) → WalkLaw before (served_cycle s) ws → ⊥
Rightly before s (TooLong flow number) = (ws : List Window) → WalkLaw before (served_cycle s) ws → most_entries < length (drawn 0 ws s.cycle)
