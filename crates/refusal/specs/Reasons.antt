-- The codes of the refusals. Assumes nothing.
use Rattle.std.specs.Prelude.{ℕ}
use Rattle.refusal.specs.declared.Reason.{Reason}
use Rattle.refusal.specs.declared.Reason.TheVariants.{LongText, LineForm, LineNumber, LineRange, WireTime, LongCycle, EmptySheet, LittleMemory, LatePacket, LongList, ListSize, Gates, Name, Total, NotInTime, Cycles, CaptureRecord, Instant, FullTable, WrittenSize, ShortMemory}

-- the code of a refusal is told as a number
abbrev pub code_of : Reason → ℕ
code_of LongText = 1
code_of LineForm = 2
code_of LineNumber = 3
code_of LineRange = 4
code_of WireTime = 5
code_of LongCycle = 6
code_of EmptySheet = 7
code_of LittleMemory = 8
code_of LatePacket = 9
code_of LongList = 10
code_of ListSize = 11
code_of Gates = 12
code_of Name = 13
code_of Total = 14
code_of NotInTime = 15
code_of Cycles = 16
code_of CaptureRecord = 17
code_of Instant = 18
code_of FullTable = 19
code_of WrittenSize = 20
code_of ShortMemory = 21
