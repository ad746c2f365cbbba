-- The lines of a sheet's text: a key, "=", a number, and byte 10. Assumes nothing.
use Rattle.std.specs.Prelude.{ℕ, Bool, cond, List, [], ◌∷◌, Some, None, Ok, Err, codes, Option, Result}
use Rattle.std.specs.Str.{bytes_eq}
use Rattle.sheet.specs.declared.lines.Key.{Key}
use Rattle.sheet.specs.declared.lines.Key.TheVariants as key
use Rattle.sheet.specs.declared.lines.Line.{Line}
use Rattle.sheet.specs.declared.lines.Line.TheVariants as line
use Rattle.sheet.specs.declared.lines.Part.{Part}
use Rattle.sheet.specs.declared.faults.DigitFault.{DigitFault}
use Rattle.sheet.specs.declared.faults.LineFault.{LineFault}
use Rattle.sheet.specs.declared.faults.LineFault.TheVariants.{Number, Range}
use Rattle.sheet.specs.Numbers.{read_number, on_line}
use Rattle.sheet.specs.Ranges.{between}

-- the bytes of a key
abbrev pub key_text : Key → List ℕ
key_text key.Rate = codes "rate"
key_text key.Flow = codes "flow"
key_text key.Queue = codes "queue"
key_text key.Octets = codes "octets"
key_text key.Period = codes "period"
key_text key.Deadline = codes "deadline"
key_text key.Miss = codes "miss"
key_text key.Of = codes "of"
key_text key.Weight = codes "weight"
key_text key.Flows = codes "flows"

-- that of these keys which the bytes spell
abbrev pub spelled : List ℕ → List Key → Option Key
spelled bs [] = None
spelled bs (k ∷ ks) = cond (bytes_eq bs (key_text k)) (Some k) (spelled bs ks)

-- all keys
abbrev pub keys : List Key
keys = key.Rate ∷ key.Flow ∷ key.Queue ∷ key.Octets ∷ key.Period ∷ key.Deadline ∷ key.Miss ∷ key.Of ∷ key.Weight ∷ key.Flows ∷ []

-- the key that the bytes spell
abbrev pub key_of : List ℕ → Option Key
key_of bs = spelled bs keys

-- the line with a key
abbrev pub line_with : Key → Part → Line
line_with key.Rate p = line.Rate p
line_with key.Flow p = line.Flow p
line_with key.Queue p = line.Queue p
line_with key.Octets p = line.Octets p
line_with key.Period p = line.Period p
line_with key.Deadline p = line.Deadline p
line_with key.Miss p = line.Miss p
line_with key.Of p = line.Of p
line_with key.Weight p = line.Weight p
line_with key.Flows p = line.Flows p

-- its key
abbrev pub line_key : Line → Key
line_key (line.Rate p) = key.Rate
line_key (line.Flow p) = key.Flow
line_key (line.Queue p) = key.Queue
line_key (line.Octets p) = key.Octets
line_key (line.Period p) = key.Period
line_key (line.Deadline p) = key.Deadline
line_key (line.Miss p) = key.Miss
line_key (line.Of p) = key.Of
line_key (line.Weight p) = key.Weight
line_key (line.Flows p) = key.Flows

-- its number
abbrev pub line_part : Line → Part
line_part (line.Rate p) = p
line_part (line.Flow p) = p
line_part (line.Queue p) = p
line_part (line.Octets p) = p
line_part (line.Period p) = p
line_part (line.Deadline p) = p
line_part (line.Miss p) = p
line_part (line.Of p) = p
line_part (line.Weight p) = p
line_part (line.Flows p) = p

-- one and the same key
abbrev pub same_key : Key → Key → Bool
same_key j k = bytes_eq (key_text j) (key_text k)

-- a number of line n, which has to lie between low and high
abbrev pub in_range : (n low high : ℕ) → Result ℕ DigitFault → Result ℕ LineFault
in_range n low high (Err d) = Err (Number d)
in_range n low high (Ok v) = cond (between low high v) (Ok v) (Err (Range n))

-- the number that the bytes on line n write, between low and high
abbrev pub ranged : (n low high : ℕ) → List ℕ → Result ℕ LineFault
ranged n low high bytes = in_range n low high (on_line n (read_number bytes))
