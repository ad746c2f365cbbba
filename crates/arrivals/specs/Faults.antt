-- Which refusal each fault of a source is.
use Rattle.refusal.specs.declared.Refusal.{Refusal}
use Rattle.refusal.specs.Told.{plain, at_place}
use Rattle.arrivals.specs.declared.faults.CaptureFault.{CaptureFault}
use Rattle.arrivals.specs.declared.faults.CalendarFault.{CalendarFault}
use Rattle.arrivals.specs.declared.faults.CalendarFault.TheVariants.{EmptySheet, CyclesOutOfRange}

-- 17: a capture record, the place, does not rise in delivery order or is one too many
abbrev pub capture_refusal : CaptureFault → Refusal
capture_refusal fault = at_place 17 fault.place

-- 7: a calendar is asked for of an empty sheet; 16: its cycles are out of range
abbrev pub calendar_refusal : CalendarFault → Refusal
calendar_refusal EmptySheet = plain 7
calendar_refusal CyclesOutOfRange = plain 16
