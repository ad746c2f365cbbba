-- The worked examples of the documents, as one statement over the definitions. Assumes nothing.
use Rattle.std.specs.Prelude.{◌≡◌}
use Rattle.traffic.specs.declared.rate.Rate.TheVariants.{Mbit10}
use Rattle.traffic.specs.Wire.{wire_time}
use Rattle.traffic.specs.Pattern.{pattern}
use Rattle.sending.specs.Examples.{WorkedLists, WorkedRun}

-- patterns: no packet may be missed; two of five may; four of five may
abbrev pub Patterns : Type 0
Patterns = (pattern 0 1 ≡ (0, 1)) × (pattern 2 5 ≡ (1, 2)) × (pattern 4 5 ≡ (4, 1))

-- the longest frame on the slowest line
abbrev pub LongestFrame : Type 0
LongestFrame = wire_time Mbit10 1522 ≡ 1233600

-- all of them, with the lists and the run of the sample sheet
abbrev pub WorkedExamples : Type 0
WorkedExamples = Patterns × LongestFrame × WorkedLists × WorkedRun
