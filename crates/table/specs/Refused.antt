-- Which refusal a full table is.
use Rattle.refusal.specs.declared.Refusal.{Refusal}
use Rattle.refusal.specs.Told.{plain}
use Rattle.table.specs.declared.full.Full.{Full}

-- 19: the table is full
abbrev pub full_refusal : Full → Refusal
full_refusal full = plain 19
