-- The one text of a sheet. Assumes nothing.
use Rattle.std.specs.Prelude.{◌≡◌, ℕ, ◌+◌, ◌≤◌, true, List, [], ◌∷◌, ◌++◌, length, Ok, decimal, ◌≢◌}
use Rattle.traffic.specs.declared.rate.Rate.{Rate}
use Rattle.traffic.specs.declared.rate.Rate.TheVariants.{Mbit10, Mbit100, Mbit1000}
use Rattle.traffic.specs.declared.flow.Flow.{Flow}
use Rattle.traffic.specs.Packets.{Traffic}
use Rattle.cycle.specs.Cycle.{cycle_of}
use Rattle.sheet.specs.declared.lines.Key.{Key}
use Rattle.sheet.specs.declared.lines.Key.TheVariants as key
use Rattle.sheet.specs.Ranges.{all_kept}
use Rattle.sheet.specs.Lines.{key_text}
use Rattle.sheet.specs.Reading.{sheet_of}

-- a line: its key, "=", its number in base ten without a leading zero, and byte 10
abbrev pub line_text : Key → ℕ → List ℕ
line_text k n = key_text k ++ (61 ∷ (decimal n ++ (10 ∷ [])))

-- the lines of flow i
abbrev pub flow_text : ℕ → Flow → List ℕ
flow_text i f =
    line_text key.Flow i ++ (line_text key.Queue f.queue ++ (line_text key.Octets f.octets
    ++ (line_text key.Period f.period ++ (line_text key.Deadline f.deadline
    ++ (line_text key.Miss f.miss ++ (line_text key.Of f.among ++ line_text key.Weight f.weight))))))

-- the flows from number i on
abbrev pub flows_text : ℕ → List Flow → List ℕ
flows_text i [] = []
flows_text i (f ∷ fs) = flow_text i f ++ flows_text (i + 1) fs

-- the number of a rate
abbrev pub rate_number : Rate → ℕ
rate_number Mbit10 = 10
rate_number Mbit100 = 100
rate_number Mbit1000 = 1000

-- the text of a sheet: its rate, its flows, and how many they are
abbrev pub sheet_text : Traffic → List ℕ
sheet_text t = line_text key.Rate (rate_number t.rate) ++ (flows_text 1 t.flows ++ line_text key.Flows (length t.flows))

-- what a sheet keeps: 1 to 64 flows, each in its ranges with its wire time within its deadline, and the limit of the cycle
pub record Kept (t : Traffic) : Type 0 where
  pub some : 1 ≤ length t.flows
  pub few : length t.flows ≤ 64
  pub ranges : all_kept t.rate t.flows ≡ true
  pub short : cycle_of t.flows ≤ 1000000000

-- a text is read as a sheet exactly when it is the text of that sheet, which keeps all
abbrev pub ReadsExactly : Type 0
ReadsExactly =
    ((text : List ℕ) (t : Traffic) → sheet_of text ≡ Ok t → Kept t × (text ≡ sheet_text t))
    × ((t : Traffic) → Kept t → sheet_of (sheet_text t) ≡ Ok t)

-- the text of no sheet that keeps all
abbrev pub NoSheet : List ℕ → Type 0
NoSheet text = (t : Traffic) → Kept t → text ≢ sheet_text t

-- two sheets never share a text
abbrev pub OneSheet : Type 0
OneSheet = (t u : Traffic) → Kept t → Kept u → sheet_text t ≡ sheet_text u → t ≡ u
