-- A sheet with one flow, and lists for it. Assumes nothing.
use Rattle.std.specs.Prelude.{◌≡◌, ℕ, true, List, [], ◌∷◌, Some, None}
use Rattle.traffic.specs.declared.rate.Rate.TheVariants.{Mbit1000}
use Rattle.traffic.specs.Packets.{Traffic}
use Rattle.gates.specs.declared.entry.Entry.{Entry}
use Rattle.sending.specs.Sheet.{packet}
use Rattle.sending.specs.Rules.{first_broken, wrong_gates, wrong_name, wrong_total}
use Rattle.sending.specs.InTime.{InTime, Accepted}
use Rattle.sending.specs.Runs.{advance, calls, made}

-- 64 octets every 10,000 ns at 1,000 Mbit/s, within 5,000 ns; one of two may be lost
abbrev pub one_flow : Traffic
one_flow = record { rate = Mbit1000; flows = record { queue = 7; octets = 64; period = 10000; deadline = 5000; miss = 1; among = 2; weight = 0 } ∷ [] }

abbrev pub entry : (gates interval flow number : ℕ) → Entry
entry g l f n = record { gates = g; interval = l; flow = f; number = n }

-- a window for each packet at its arrival, the second of which is optional
abbrev pub list_e : List Entry
list_e = entry 128 672 0 0 ∷ entry 0 9328 0 0 ∷ entry 1 672 1 2 ∷ entry 0 9328 0 0 ∷ []

-- its first window ends at the deadline
abbrev pub just_e : List Entry
just_e = entry 0 4328 0 0 ∷ entry 128 672 0 0 ∷ entry 0 5000 0 0 ∷ entry 1 672 1 2 ∷ entry 0 9328 0 0 ∷ []

-- and here one instant after it
abbrev pub late_e : List Entry
late_e = entry 0 4329 0 0 ∷ entry 128 672 0 0 ∷ entry 0 4999 0 0 ∷ entry 1 672 1 2 ∷ entry 0 9328 0 0 ∷ []

-- its first window is one instant too short for its packet
abbrev pub narrow_e : List Entry
narrow_e = entry 128 671 0 0 ∷ entry 0 9329 0 0 ∷ entry 1 672 1 2 ∷ entry 0 9328 0 0 ∷ []

-- it ends one instant before the cycle does
abbrev pub short_e : List Entry
short_e = entry 128 672 0 0 ∷ entry 0 9328 0 0 ∷ entry 1 672 1 2 ∷ entry 0 9327 0 0 ∷ []

-- its first entry opens two gates
abbrev pub two_gates_e : List Entry
two_gates_e = entry 129 672 0 0 ∷ entry 0 9328 0 0 ∷ entry 1 672 1 2 ∷ entry 0 9328 0 0 ∷ []

-- its third entry names a mandatory packet
abbrev pub misnamed_e : List Entry
misnamed_e = entry 128 672 0 0 ∷ entry 0 9328 0 0 ∷ entry 1 672 1 1 ∷ entry 0 9328 0 0 ∷ []

-- the worked lists: two are accepted, two are not in time, three break a rule
pub record WorkedLists : Type 0 where
  pub e_accepted : Accepted one_flow list_e
  pub just_accepted : Accepted one_flow just_e
  pub late_refused : (first_broken one_flow late_e ≡ None) × (InTime one_flow late_e → ⊥)
  pub narrow_refused : (first_broken one_flow narrow_e ≡ None) × (InTime one_flow narrow_e → ⊥)
  pub short_refused : first_broken one_flow short_e ≡ Some wrong_total
  pub two_gates_refused : first_broken one_flow two_gates_e ≡ Some (wrong_gates 1)
  pub misnamed_refused : first_broken one_flow misnamed_e ≡ Some (wrong_name 3)

-- the worked run, with both packets of the cycle in the source: advances to 20,000 answer the starts 0 and 10,000, then none
pub record WorkedRun : Type 0 where
  pub starts :
      (calls one_flow (λ _. true) (advance 20000 ∷ advance 20000 ∷ advance 20000 ∷ []) (made list_e (packet one_flow 1 1 ∷ packet one_flow 1 2 ∷ []))).answered
      ≡ record { at = 0; packet = packet one_flow 1 1 } ∷ record { at = 10000; packet = packet one_flow 1 2 } ∷ []
  pub counts :
      (calls one_flow (λ _. true) (advance 20000 ∷ advance 20000 ∷ advance 20000 ∷ []) (made list_e (packet one_flow 1 1 ∷ packet one_flow 1 2 ∷ []))).port.counts
      ≡ record { mandatory = 1; optional = 1; foreign = 0; unadmitted = 0 }
