-- What a calendar's calls answer.
use Rattle.std.specs.Prelude.{◌≡◌, ℕ, ◌*◌, cond, ◌&&◌, List, [], ◌∷◌, Some, None, Option, nat_le}
use Rattle.traffic.specs.declared.flow.Flow.{Flow}
use Rattle.traffic.specs.declared.packet.Packet.{Packet}
use Rattle.sheet.specs.declared.sheet.Sheet.{Sheet}
use Rattle.sheet.specs.Contents.{traffic_of}
use Rattle.traffic.specs.declared.sort.Sort.{Sort}
use Rattle.traffic.specs.declared.sort.Sort.TheVariants.{Mandatory, Optional}
use Rattle.arrivals.specs.declared.faults.CalendarFault.{CalendarFault}
use Rattle.arrivals.specs.declared.faults.CalendarFault.TheVariants.{EmptySheet, CyclesOutOfRange}
use Rattle.arrivals.specs.declared.calendar.Calendar.{Calendar}
use Rattle.arrivals.specs.Sources.{Rises}
use Rattle.arrivals.specs.Merges.{merged, Apart}
use Rattle.arrivals.specs.Sorts.{other_sort, calendar, Exactly}
use Rattle.arrivals.specs.Cursors.{from_cursors}

-- why a calendar of the flows is not made for so many cycles: there is no flow, or the cycles are not from 1 to 4,000,000,000
abbrev pub calendar_fault : List Flow → ℕ → Option CalendarFault
calendar_fault [] cycles = Some EmptySheet
calendar_fault (f ∷ fs) cycles = cond (nat_le 1 cycles && nat_le cycles 4000000000) None (Some CyclesOutOfRange)

-- the packets that a calendar has still to hand over
abbrev pub to_come : Calendar → List Packet
to_come c = from_cursors c.sort (traffic_of c.sheet.now).flows c.end c.cursors

-- a calendar of the sheet for so many cycles: it holds exactly the packets of the sort before their end,
-- and shares no place with a calendar of the other sort
pub record CalendarMade (s : Sort) (sheet : Sheet) (cycles : ℕ) (left : List Packet) : Type 0 where
  pub taken : calendar_fault (traffic_of sheet).flows cycles ≡ None
  pub list : left ≡ calendar s (traffic_of sheet).flows (cycles * sheet.cycle)
  pub exactly : Exactly s (traffic_of sheet).flows (cycles * sheet.cycle) left
  pub apart : (end : ℕ) → Apart left (calendar (other_sort s) (traffic_of sheet).flows end)

-- the calendars of both sorts of the sheet for so many cycles as one: it holds the packets of either sort before their end, in order
pub record BothMade (sheet : Sheet) (cycles : ℕ) (left : List Packet) : Type 0 where
  pub taken : calendar_fault (traffic_of sheet).flows cycles ≡ None
  pub list : left ≡ merged (calendar Mandatory (traffic_of sheet).flows (cycles * sheet.cycle)) (calendar Optional (traffic_of sheet).flows (cycles * sheet.cycle))
  pub ordered : Rises left
