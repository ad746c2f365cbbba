-- Runs of a port: a source and any calls. Assumes nothing.
use Rattle.std.specs.Prelude.{◌≡◌, ℕ, zero, suc, ◌-◌, ◌*◌, Bool, true, cond, List, [], ◌∷◌, ◌++◌, Some, None, Option, nat_le}
use Rattle.traffic.specs.declared.packet.Packet.{Packet}
use Rattle.traffic.specs.Packets.{Traffic}
use Rattle.gates.specs.declared.entry.Entry.{Entry}
use Rattle.sending.specs.Sheet.{cycle}
use Rattle.sending.specs.Port.{starts}
use Rattle.sending.specs.InTime.{Accepted}
use Rattle.sending.specs.Calls.{Port, Start, Advanced, after, new_port, advance_by, may_advance, pend}

-- the list rises strictly in delivery order, behind the packet taken last
abbrev pub Rises : Option Packet → List Packet → Type 0
Rises last [] = Unit {0}
Rises last (x ∷ xs) = (after last x ≡ true) × Rises (Some x) xs

-- a list taken over, at this clock
pub record Over : Type 0 where
  pub at : ℕ
  pub list : List Entry

-- the list in force in cycle n: of those taken over by its begin the last (the newest stands first)
abbrev pub in_force : Traffic → List Over → ℕ → List Entry
in_force s [] n = []
in_force s (o ∷ os) n = cond (nat_le o.at (n * cycle s)) o.list (in_force s os n)

-- a run so far: the port, what is left in the source, the starts answered, and the lists taken over
pub record Ran : Type 0 where
  pub port : Port
  pub left : List Packet
  pub answered : List Start
  pub overs : List Over

-- a port just made on a list, which counts as taken over at 0
abbrev pub made : List Entry → List Packet → Ran
made es source = record { port = new_port es; left = source; answered = []; overs = record { at = 0; list = es } ∷ [] }

-- the calls of a port
pub data Call : Type 0 where
  advance : ℕ → Call
  counts : Call
  take_over : List Entry → Call

-- the answer of an advance joins the others
abbrev pub answer : Option Start → List Start
answer None = []
answer (Some x) = x ∷ []

-- after an advance
abbrev pub advanced : Ran → Advanced → Ran
advanced r a = record { port = a.port; left = a.left; answered = r.answered ++ answer a.start; overs = r.overs }

-- after a take-over of an accepted list
abbrev pub over : List Entry → Ran → Ran
over es r = record { port = pend es r.port; left = r.left; answered = r.answered; overs = record { at = r.port.clock; list = es } ∷ r.overs }

-- a call, refused or not
abbrev pub call : Traffic → (List Entry → Bool) → Call → Ran → Ran
call s accepts (advance u) r = cond (may_advance r.port u) (advanced r (advance_by s (u - r.port.clock) r.port r.left)) r
call s accepts counts r = r
call s accepts (take_over es) r = cond (accepts es) (over es r) r

-- one call after another
abbrev pub calls : Traffic → (List Entry → Bool) → List Call → Ran → Ran
calls s accepts [] r = r
calls s accepts (c ∷ cs) r = calls s accepts cs (call s accepts c r)

-- a start at t
abbrev pub started : ℕ → Option Packet → List Start
started t None = []
started t (Some p) = record { at = t; packet = p } ∷ []

-- what the three steps start below t
abbrev pub starts_below : Traffic → (ℕ → List Entry) → (Packet → Bool) → ℕ → List Start
starts_below s lists up zero = []
starts_below s lists up (suc t) = starts_below s lists up t ++ started t (starts s lists up t)

-- a run: a port made on an accepted list, a source in order, and any calls
pub record Run (s : Traffic) : Type 0 where
  pub accepts : List Entry → Bool
  pub sound : (es : List Entry) → accepts es ≡ true → Accepted s es
  pub first : List Entry
  pub first_accepted : accepts first ≡ true
  pub source : List Packet
  pub ordered : Rises None source
  pub done : List Call

-- what a run has come to
abbrev pub outcome : (s : Traffic) → Run s → Ran
outcome s r = calls s r.accepts r.done (made r.first r.source)
