-- What the faults of a search stand for. Assumes nothing.
use Rattle.refusal.specs.declared.Refusal.{Refusal}
use Rattle.refusal.specs.Told.{plain}
use Rattle.search.specs.declared.fault.SearchFault.{SearchFault}
use Rattle.search.specs.declared.fault.SearchFault.TheVariants.{EmptySheet, LittleMemory, Late, TooLong}

-- 7: the sheet has no flows; 8: too little memory; 9: a packet of the walk is late; 10: its window makes the list too long.
-- The place is the packet's flow, the number its number in the cycle
abbrev pub search_refusal : SearchFault → Refusal
search_refusal EmptySheet = plain 7
search_refusal LittleMemory = plain 8
search_refusal (Late flow number) = record { code = 9; place = flow; number = number }
search_refusal (TooLong flow number) = record { code = 10; place = flow; number = number }

-- the walk stopped at a packet
abbrev pub InWalk : SearchFault → Type 0
InWalk EmptySheet = ⊥
InWalk LittleMemory = ⊥
InWalk (Late flow number) = Unit {0}
InWalk (TooLong flow number) = Unit {0}

-- what was there, where nothing was begun, and else what is left when the walk stopped
abbrev pub unless_begun : {X : Type 0} → SearchFault → X → X → X
unless_begun EmptySheet old new = old
unless_begun LittleMemory old new = old
unless_begun (Late flow number) old new = new
unless_begun (TooLong flow number) old new = new
