-- What the reader's calls do to its cursor. Assumes nothing.
use Rattle.std.specs.Prelude.{◌≡◌, Ok, Err, Result, MatchResult}
use Rattle.sheet.specs.declared.faults.LineFault.{LineFault}
use Rattle.sheet.specs.declared.lines.Line.{Line}
use Rattle.sheet.specs.declared.reader.Reader.{Reader}
use Rattle.sheet.specs.Lines.{line_key, line_part}
use Rattle.sheet.specs.Reading.{Cursor, Keyed}

-- where a reader stands
abbrev pub cursor : Reader → Cursor
cursor r = record { rest = r.rest.now; line = r.line }

-- a line without the place of its bytes in memory
abbrev pub keyed_line : Line → Keyed
keyed_line l = record { key = line_key l; number = (line_part l).bytes.now }

-- a call answers what the lines at the cursor say, and leaves the cursor behind them
abbrev pub Reads : {X : Type 0} → Result (X × Cursor) LineFault → Result X LineFault → (after : Cursor) → Type 0
Reads said answer after = MatchResult answer (λ x. said ≡ Ok (x, after)) (λ e. said ≡ Err e)
