-- The rules of a gate list, and which packets it admits. Assumes nothing.
use Rattle.std.specs.Prelude.{◌≡◌, ℕ, ◌+◌, ◌^◌, ◌<◌, Bool, true, false, cond, not, ◌&&◌, ◌||◌, List, [], ◌∷◌, ◌++◌, length, Some, None, Option, ◌==◌, nat_le}
use Rattle.std.specs.List.{AllByRecursion}
use Rattle.traffic.specs.declared.packet.Packet.{Packet}
use Rattle.traffic.specs.Packets.{Traffic}
use Rattle.traffic.specs.Pattern.{mandatory_at}
use Rattle.cycle.specs.Cycle.{packets_in, number_in_cycle}
use Rattle.gates.specs.declared.entry.Entry.{Entry}
use Rattle.gates.specs.Open.{opens, gate_of}
use Rattle.gates.specs.Entries.{names}
use Rattle.sending.specs.Sheet.{cycle, flow, mandatory}

-- the time that a list takes
abbrev pub total : List Entry → ℕ
total [] = 0
total (e ∷ es) = e.interval + total es

-- mandatory packets always are admitted, optional ones if the list names their number in the cycle
abbrev pub admitted : Traffic → List Entry → Packet → Bool
admitted s es p = mandatory s p || names es p.flow (number_in_cycle (cycle s) (flow s p.flow) p.number)

-- 1 to 1,024 entries
abbrev pub well_sized : List Entry → Bool
well_sized es = nat_le 1 (length es) && nat_le (length es) 1024

-- is there one
abbrev pub given : Option ℕ → Bool
given None = false
given (Some q) = true

-- no gate is open, or just one
abbrev pub at_most_one : (gates : ℕ) → Bool
at_most_one g = g == 0 || given (gate_of g)

-- so no two gates are open, and the other way round
abbrev pub AtMostOneGate : Type 0
AtMostOneGate =
    (g : ℕ) → g < 2 ^ 8 →
    (at_most_one g ≡ true → (q r : ℕ) → opens q g ≡ true → opens r g ≡ true → q ≡ r) ×
    (((q r : ℕ) → opens q g ≡ true → opens r g ≡ true → q ≡ r) → at_most_one g ≡ true)

-- an entry takes some time and opens at most one gate
abbrev pub well_gated : Entry → Bool
well_gated e = nat_le 1 e.interval && at_most_one e.gates

-- does an entry name a packet
abbrev pub names_packet : Entry → Bool
names_packet e = not (e.flow == 0 && e.number == 0)

-- is number n of flow i in the cycle an optional packet of the sheet
abbrev pub optional_there : Traffic → (i n : ℕ) → Bool
optional_there s i n = (nat_le 1 i && nat_le i (length s.flows)) && ((nat_le 1 n && nat_le n (packets_in (cycle s) (flow s i))) && not (mandatory_at (flow s i) n))

-- an entry behind others names no packet, or it opens gate 0 alone and names an optional packet of the cycle that none of them names
abbrev pub well_named : Traffic → List Entry → Entry → Bool
well_named s front e = not (names_packet e) || (e.gates == 1 && (optional_there s e.flow e.number && not (names front e.flow e.number)))

-- the list rules
pub record Rules (s : Traffic) (es : List Entry) : Type 0 where
  pub size : well_sized es ≡ true
  pub gating : AllByRecursion (λ e. well_gated e ≡ true) es
  pub naming : (front : List Entry) (e : Entry) (back : List Entry) → es ≡ front ++ (e ∷ back) → well_named s front e ≡ true
  pub whole : total es ≡ cycle s

-- a rule that is broken, and by which entry, from 1, if one breaks it
pub data Broken : Type 0 where
  wrong_size : Broken
  wrong_gates : ℕ → Broken
  wrong_name : ℕ → Broken
  wrong_total : Broken

-- the first rule that an entry breaks, behind others
abbrev pub entry_broken : Traffic → List Entry → Entry → Option Broken
entry_broken s front e = cond (well_gated e) (cond (well_named s front e) None (Some (wrong_name (length front + 1)))) (Some (wrong_gates (length front + 1)))

-- the first of two rules that is broken
abbrev pub or_else : Option Broken → Option Broken → Option Broken
or_else None b = b
or_else (Some a) b = Some a

-- the first rule that entries break behind others, entry by entry
abbrev pub entries_broken : Traffic → (front rest : List Entry) → Option Broken
entries_broken s front [] = None
entries_broken s front (e ∷ es) = or_else (entry_broken s front e) (entries_broken s (front ++ (e ∷ [])) es)

-- the first rule that a list breaks: its size, then entry by entry its gates and names, then its time
abbrev pub first_broken : Traffic → List Entry → Option Broken
first_broken s es = or_else (cond (well_sized es) None (Some wrong_size)) (or_else (entries_broken s [] es) (cond (total es == cycle s) None (Some wrong_total)))

-- a list breaks no rule exactly if it keeps them all
abbrev pub RulesAgree : Type 0
RulesAgree = (s : Traffic) (es : List Entry) → (first_broken s es ≡ None → Rules s es) × (Rules s es → first_broken s es ≡ None)
