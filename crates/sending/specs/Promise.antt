-- What a port promises, whatever the calls. Assumes nothing.
use Rattle.std.specs.Prelude.{◌≡◌, ℕ, zero, suc, ◌+◌, ◌-◌, ◌*◌, ◌/◌, ◌^◌, ◌<◌, ◌≤◌, min, Bool, true, false, cond, not, ◌&&◌, ◌||◌, ◌⊎◌, List, [], ◌∷◌, length}
use Rattle.traffic.specs.declared.packet.Packet.{Packet}
use Rattle.traffic.specs.Packets.{Traffic, in_time}
use Rattle.gates.specs.declared.entry.Entry.{Entry}
use Rattle.sending.specs.Sheet.{Fits, OfSheet, cycle, flow, job_of, deadline, queue, mandatory, packet, same}
use Rattle.sending.specs.Rules.{admitted}
use Rattle.sending.specs.Port.{State, run, holds, losses}
use Rattle.sending.specs.InTime.{Accepted}
use Rattle.sending.specs.Calls.{Start}
use Rattle.sending.specs.Runs.{Ran, Call, Run, in_force, made, calls, starts_below, outcome}

-- the starts are exactly those that the three steps give below the clock for the packets that turned up
abbrev pub AsThreeSteps : Type 0
AsThreeSteps = (s : Traffic) → Fits s → (r : Run s) →
    ((n : ℕ) → Accepted s (in_force s (outcome s r).overs n)) ×
    ((outcome s r).answered ≡ starts_below s (in_force s (outcome s r).overs) (holds r.source) (outcome s r).port.clock)

-- is this start among those answered
abbrev pub In : Start → List Start → Type 0
In x [] = ⊥
In x (y ∷ ys) = (y ≡ x) ⊎ In x ys

-- how often p was started
abbrev pub how_often : Packet → List Start → ℕ
how_often p [] = 0
how_often p (x ∷ xs) = cond (same p x.packet) 1 0 + how_often p xs

-- was p started so that it ends in time
abbrev pub sent : Traffic → List Start → Packet → Bool
sent s [] p = false
sent s (x ∷ xs) p = (same p x.packet && in_time (job_of s p) x.at) || sent s xs p

-- started exactly once, not before its arrival, sent whole by its deadline
pub record StartedOnce (s : Traffic) (out : List Start) (p : Packet) : Type 0 where
  pub once : how_often p out ≡ 1
  pub when : ℕ
  pub answered : In (record { at = when; packet = p }) out
  pub arrived : p.arrival ≤ when
  pub ends : in_time (job_of s p) when ≡ true

-- in time, once, and few lost
pub record Punctual (s : Traffic) (source : List Packet) (r : Ran) : Type 0 where
  pub in_time : (p : Packet) → OfSheet s p → holds source p ≡ true → admitted s (in_force s r.overs (p.arrival / cycle s)) p ≡ true → deadline s p ≤ r.port.clock → StartedOnce s r.answered p
  pub exact : r.answered ≡ starts_below s (in_force s r.overs) (holds source) r.port.clock
  pub few_lost : (i j : ℕ) → 1 ≤ i → i ≤ length s.flows → 1 ≤ j →
      ((n : ℕ) → j ≤ n → n < j + (flow s i).among → deadline s (packet s i n) ≤ r.port.clock) →
      ((n : ℕ) → j ≤ n → n < j + (flow s i).among → mandatory s (packet s i n) ≡ true → holds source (packet s i n) ≡ true) →
      losses s (λ p. not (sent s r.answered p)) i j (flow s i).among ≤ (flow s i).miss

-- every run with a source in order is punctual
abbrev pub PortPunctual : Type 0
PortPunctual = (s : Traffic) → Fits s → (r : Run s) → Punctual s r.source (outcome s r)

-- queues are independent: two runs with the same packets of a queue and the same lists start them at the same instants
abbrev pub QueuesApart : Type 0
QueuesApart =
    (s : Traffic) → Fits s → (r r' : Run s) (q : ℕ) →
    ((p : Packet) → OfSheet s p → queue s p ≡ q → holds r.source p ≡ holds r'.source p) →
    ((n : ℕ) → n * cycle s < (outcome s r).port.clock → n * cycle s < (outcome s r').port.clock → in_force s (outcome s r).overs n ≡ in_force s (outcome s r').overs n) →
    (t : ℕ) → t < (outcome s r).port.clock → t < (outcome s r').port.clock → (p : Packet) → queue s p ≡ q →
    (In (record { at = t; packet = p }) (outcome s r).answered → In (record { at = t; packet = p }) (outcome s r').answered) ×
    (In (record { at = t; packet = p }) (outcome s r').answered → In (record { at = t; packet = p }) (outcome s r).answered)

-- a run is as if just these packets had turned up: the port is where the three steps bring it, each of them is in time, and no queue needs more than a place for each flow
pub record AsIf (s : Traffic) (joined : List Packet) (r : Ran) : Type 0 where
  pub lists : (n : ℕ) → Accepted s (in_force s r.overs n)
  pub state : r.port.state ≡ run s (in_force s r.overs) (holds joined) r.port.clock
  pub exact : r.answered ≡ starts_below s (in_force s r.overs) (holds joined) r.port.clock
  pub in_time : (p : Packet) → OfSheet s p → holds joined p ≡ true → admitted s (in_force s r.overs (p.arrival / cycle s)) p ≡ true → deadline s p ≤ r.port.clock → StartedOnce s r.answered p
  pub places : (q : ℕ) → length (r.port.state.waiting q) ≤ length s.flows

-- for any source, in order or not, a run is as if just the packets that joined had turned up
abbrev pub AnySource : Type 0
AnySource =
    (s : Traffic) → Fits s → (accepts : List Entry → Bool) → ((es : List Entry) → accepts es ≡ true → Accepted s es) →
    (first : List Entry) → accepts first ≡ true → (source : List Packet) (cs : List Call) →
    (joined : List Packet) × AsIf s joined (calls s accepts cs (made first source))

-- how many starts are of such packets
abbrev pub how_many : (Packet → Bool) → List Start → ℕ
how_many f [] = 0
how_many f (x ∷ xs) = cond (f x.packet) 1 0 + how_many f xs

-- the counts of starts are those of the starts answered, up to 2^64 - 1, whatever the source and the calls
abbrev pub StartsCounted : Type 0
StartsCounted =
    (s : Traffic) (accepts : List Entry → Bool) (first : List Entry) (source : List Packet) (cs : List Call) →
    ((calls s accepts cs (made first source)).port.counts.mandatory ≡ min (how_many (mandatory s) (calls s accepts cs (made first source)).answered) (2 ^ 64 - 1)) ×
    ((calls s accepts cs (made first source)).port.counts.optional ≡ min (how_many (λ p. not (mandatory s p)) (calls s accepts cs (made first source)).answered) (2 ^ 64 - 1))

-- how many packets wait in the first n queues
abbrev pub waiting_below : ℕ → State Packet → ℕ
waiting_below zero st = 0
waiting_below (suc n) st = length (st.waiting n) + waiting_below n st

-- every packet of the source has started, waits, was thrown away and counted, or is still to come
pub record Accounted (source : List Packet) (r : Ran) : Type 0 where
  pub foreign : ℕ
  pub unadmitted : ℕ
  pub foreign_counted : r.port.counts.foreign ≡ min foreign (2 ^ 64 - 1)
  pub unadmitted_counted : r.port.counts.unadmitted ≡ min unadmitted (2 ^ 64 - 1)
  pub all : length r.answered + (waiting_below 8 r.port.state + (foreign + (unadmitted + length r.left))) ≡ length source

-- so it is whatever the source and the calls
abbrev pub PacketsAccounted : Type 0
PacketsAccounted = (s : Traffic) → Fits s → (accepts : List Entry → Bool) (first : List Entry) (source : List Packet) (cs : List Call) → Accounted source (calls s accepts cs (made first source))

-- the promise, whole
abbrev pub Promise : Type 0
Promise = PortPunctual × QueuesApart
