-- A port that takes its packets from a source: one instant, and an advance. Assumes nothing.
use Rattle.std.specs.Prelude.{ℕ, zero, suc, ◌+◌, ◌-◌, ◌%◌, ◌^◌, min, Bool, true, false, cond, not, ◌&&◌, List, [], ◌∷◌, length, Some, None, Option, ◌==◌, nat_le}
use Rattle.traffic.specs.declared.packet.Packet.{Packet}
use Rattle.traffic.specs.Packets.{Traffic, arrival}
use Rattle.traffic.specs.Orders.{delivered_before}
use Rattle.gates.specs.declared.entry.Entry.{Entry}
use Rattle.gates.specs.Open.{open_at, stays_open}
use Rattle.sending.specs.Sheet.{cycle, flow, wire, queue, mandatory, waits_before, placed}
use Rattle.sending.specs.Rules.{admitted}
use Rattle.sending.specs.Port.{State, Turn, empty, send, holds}

-- what a port has counted: mandatory and optional starts, foreign and unadmitted packets
pub record Counts : Type 0 where
  pub mandatory : ℕ
  pub optional : ℕ
  pub foreign : ℕ
  pub unadmitted : ℕ

-- nothing yet
abbrev pub no_counts : Counts
no_counts = record { mandatory = 0; optional = 0; foreign = 0; unadmitted = 0 }

-- one more; a count stops at 2^64 - 1
abbrev pub one_more : ℕ → ℕ
one_more n = min (n + 1) (2 ^ 64 - 1)

-- one more foreign packet
abbrev pub one_foreign : Counts → Counts
one_foreign c = record { mandatory = c.mandatory; optional = c.optional; foreign = one_more c.foreign; unadmitted = c.unadmitted }

-- one more unadmitted packet
abbrev pub one_unadmitted : Counts → Counts
one_unadmitted c = record { mandatory = c.mandatory; optional = c.optional; foreign = c.foreign; unadmitted = one_more c.unadmitted }

-- one more start
abbrev pub one_start : Bool → Counts → Counts
one_start true c = record { mandatory = one_more c.mandatory; optional = c.optional; foreign = c.foreign; unadmitted = c.unadmitted }
one_start false c = record { mandatory = c.mandatory; optional = one_more c.optional; foreign = c.foreign; unadmitted = c.unadmitted }

-- with what started
abbrev pub with_start : Traffic → Option Packet → Counts → Counts
with_start s None c = c
with_start s (Some p) c = one_start (mandatory s p) c

-- does a packet come after the one taken before it
abbrev pub after : Option Packet → Packet → Bool
after None x = true
after (Some y) x = delivered_before y x

-- its flow is on the sheet, and its number and arrival go together
abbrev pub of_sheet : Traffic → Packet → Bool
of_sheet s p = (nat_le 1 p.flow && nat_le p.flow (length s.flows)) && (nat_le 1 p.number && p.arrival == arrival (flow s p.flow) p.number)

-- not foreign: of the sheet, not late, after the packet taken before it, and not there already
abbrev pub welcome : Traffic → ℕ → Option Packet → State Packet → Packet → Bool
welcome s t last st p = of_sheet s p && (nat_le t p.arrival && (after last p && not (holds (st.waiting (queue s p)) p)))

-- it joins its queue, in queue order
abbrev pub enter : Traffic → State Packet → Packet → State Packet
enter s st p = record { waiting = λ q. cond (q == queue s p) (placed (waits_before s) p (st.waiting q)) (st.waiting q); free = st.free }

-- one packet is taken: it joins if it is welcome and admitted, else it is thrown away
abbrev pub take_in : Traffic → List Entry → ℕ → Option Packet → State Packet → Packet → State Packet
take_in s es t last st p = cond (welcome s t last st p && admitted s es p) (enter s st p) st

-- and a packet thrown away is counted
abbrev pub tallied : Traffic → List Entry → ℕ → Option Packet → State Packet → Packet → Counts → Counts
tallied s es t last st p c = cond (welcome s t last st p) (cond (admitted s es p) c (one_unadmitted c)) (one_foreign c)

-- after taking: the state, the packet taken last, the counts, and what is left in the source
pub record Taken : Type 0 where
  pub state : State Packet
  pub last : Option Packet
  pub counts : Counts
  pub left : List Packet

-- the second step: take while the head of the source has arrived
abbrev pub takes : Traffic → List Entry → ℕ → Counts → Option Packet → State Packet → List Packet → Taken
takes s es t c last st [] = record { state = st; last = last; counts = c; left = [] }
takes s es t c last st (x ∷ xs) =
    cond (nat_le x.arrival t)
    (takes s es t (tallied s es t last st x c) (Some x) (take_in s es t last st x) xs)
    (record { state = st; last = last; counts = c; left = x ∷ xs })

-- a port between two calls: what waits, the clock, the list in force, a pending one, the packet taken last, and the counts
pub record Port : Type 0 where
  pub state : State Packet
  pub clock : ℕ
  pub list : List Entry
  pub pending : Option (List Entry)
  pub last : Option Packet
  pub counts : Counts

-- a port just made on a list
abbrev pub new_port : List Entry → Port
new_port es = record { state = empty; clock = 0; list = es; pending = None; last = None; counts = no_counts }

-- the first step: where the clock is a multiple of the cycle a pending list comes into force
abbrev pub switch : Bool → List Entry → Option (List Entry) → List Entry
switch false es p = es
switch true es None = es
switch true es (Some l) = l

-- and it pends no more
abbrev pub still_pending : Bool → Option (List Entry) → Option (List Entry)
still_pending false p = p
still_pending true p = None

-- the list in force at the clock
abbrev pub now_in_force : Traffic → Port → List Entry
now_in_force s p = switch (p.clock % cycle s == 0) p.list p.pending

-- the second step at the clock
abbrev pub taken : Traffic → Port → List Packet → Taken
taken s p source = takes s (now_in_force s p) p.clock p.counts p.last p.state source

-- the third step at the clock
abbrev pub turn : Traffic → Port → List Packet → Turn Packet
turn s p source =
    let es = now_in_force s p in
    send (wire s) (λ q e. stays_open es q (p.clock % cycle s) e) p.clock (open_at es (p.clock % cycle s)) (taken s p source).state

-- an instant decided: the port after it, what is left in the source, and what started
pub record Decided : Type 0 where
  pub port : Port
  pub left : List Packet
  pub start : Option Packet

-- the three steps at the clock
abbrev pub decide : Traffic → Port → List Packet → Decided
decide s p source = record {
  port = record {
    state = (turn s p source).after;
    clock = suc p.clock;
    list = now_in_force s p;
    pending = still_pending (p.clock % cycle s == 0) p.pending;
    last = (taken s p source).last;
    counts = with_start s (turn s p source).start (taken s p source).counts;
  };
  left = (taken s p source).left;
  start = (turn s p source).start;
}

-- a start: when, and of which packet
pub record Start : Type 0 where
  pub at : ℕ
  pub packet : Packet

-- an advance: the port after it, what is left in the source, and the start it answers
pub record Advanced : Type 0 where
  pub port : Port
  pub left : List Packet
  pub start : Option Start

-- up to n instants are decided; a start ends it
abbrev pub advance_by : Traffic → ℕ → Port → List Packet → Advanced
advance_by s zero p source = record { port = p; left = source; start = None }
advance_by s (suc n) p source =
    let d = decide s p source in
    elim d.start [ None ↦ advance_by s n d.port d.left | Some x ↦ record { port = d.port; left = d.left; start = Some (record { at = p.clock; packet = x }) } ]

-- may the clock go there: not back, and not past 4 × 10^18
abbrev pub may_advance : Port → ℕ → Bool
may_advance p u = nat_le p.clock u && nat_le u 4000000000000000000

-- a list becomes pending, in place of an earlier one
abbrev pub pend : List Entry → Port → Port
pend es p = record { state = p.state; clock = p.clock; list = p.list; pending = Some es; last = p.last; counts = p.counts }
