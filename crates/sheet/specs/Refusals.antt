-- Which refusal each fault of a sheet is. Assumes nothing.
use Rattle.std.specs.Prelude.{Some, None, Option}
use Rattle.refusal.specs.declared.Refusal.{Refusal}
use Rattle.refusal.specs.Told.{plain, at_place}
use Rattle.sheet.specs.declared.faults.LineFault.{LineFault}
use Rattle.sheet.specs.declared.faults.LineFault.TheVariants.{Form, Number, Range, WireTime}
use Rattle.sheet.specs.declared.faults.SheetFault.{SheetFault}
use Rattle.sheet.specs.declared.faults.SheetFault.TheVariants.{Memory, Size, Line, Cycle}

-- 2: the line lacks its key or end, or text follows the last line; 3: its number is none, for a cause;
-- 4: that number is out of its range; 5: the wire time passes the deadline on that line. The place is the line
abbrev pub line_refusal : LineFault → Refusal
line_refusal (Form n) = at_place 2 n
line_refusal (Number d) = at_place 3 d.line
line_refusal (Range n) = at_place 4 n
line_refusal (WireTime n) = at_place 5 n

-- 1: the text is too long; 2 to 5: the fault of a line; 6: the cycle is too long
abbrev pub sheet_refusal : SheetFault → Option Refusal
sheet_refusal Memory = None
sheet_refusal Size = Some (plain 1)
sheet_refusal (Line f) = Some (line_refusal f)
sheet_refusal Cycle = Some (plain 6)
