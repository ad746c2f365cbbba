-- What the faults of a check stand for. Assumes nothing.
use Rattle.std.specs.Prelude.{Some, None, Option, Ok, Err, Result}
use Rattle.refusal.specs.declared.Refusal.{Refusal}
use Rattle.sending.specs.Rules.{Broken, wrong_size, wrong_gates, wrong_name, wrong_total}
use Rattle.list_check.specs.declared.fault.CheckFault.{CheckFault}
use Rattle.list_check.specs.declared.fault.CheckFault.TheVariants.{EmptySheet, Size, Gates, Name, Total, Late}

-- the refusal that a fault is: which one on the list of refusals, its place and its number
abbrev pub refusal_of : CheckFault → Refusal
refusal_of EmptySheet = record { code = 7; place = 0; number = 0 }
refusal_of Size = record { code = 11; place = 0; number = 0 }
refusal_of (Gates place) = record { code = 12; place = place; number = 0 }
refusal_of (Name place) = record { code = 13; place = place; number = 0 }
refusal_of Total = record { code = 14; place = 0; number = 0 }
refusal_of (Late flow number) = record { code = 15; place = flow; number = number }

-- the fault that a broken rule is
abbrev pub fault_of : Broken → CheckFault
fault_of wrong_size = Size
fault_of (wrong_gates place) = Gates place
fault_of (wrong_name place) = Name place
fault_of wrong_total = Total

-- how a check ends where this is the first broken rule, if one is
abbrev pub outcome_of : Option Broken → Result (Unit {0}) CheckFault
outcome_of None = Ok tt
outcome_of (Some b) = Err (fault_of b)
