-- How a port sends, instant by instant. Assumes nothing.
use Rattle.std.specs.Prelude.{ℕ, zero, suc, ◌+◌, ◌/◌, ◌%◌, Bool, false, cond, not, ◌&&◌, ◌||◌, List, [], ◌∷◌, ◌++◌, length, Some, None, filter, Option, ◌==◌, nat_le}
use Rattle.traffic.specs.declared.packet.Packet.{Packet}
use Rattle.traffic.specs.Packets.{Traffic, in_time}
use Rattle.gates.specs.declared.entry.Entry.{Entry}
use Rattle.gates.specs.Open.{open_at, stays_open}
use Rattle.sending.specs.Sheet.{cycle, job_of, wire, deadline, queue, packet, packet_at, arrives, same, waits_before, placed}
use Rattle.sending.specs.Rules.{admitted}

-- what waits in each queue, and up to when the wire is taken
pub record State (P : Type 0) : Type 0 where
  pub waiting : ℕ → List P
  pub free : ℕ

-- nothing waits and the wire is free
abbrev pub empty : {P : Type 0} → State P
empty = record { waiting = λ _. []; free = 0 }

-- an instant's outcome: the state after it, and what started
pub record Turn (P : Type 0) : Type 0 where
  pub after : State P
  pub start : Option P

-- nothing starts
abbrev pub idle : {P : Type 0} → State P → Turn P
idle s = record { after = s; start = None }

-- the second step: these join their queues
abbrev pub join : {P : Type 0} → (ℕ → List P) → State P → State P
join new s = record { waiting = λ q. s.waiting q ++ new q; free = s.free }

-- the third step at the open gate q: the first that waits there starts, if the wire is free and it fits
abbrev pub serve : {P : Type 0} → (P → ℕ) → (ℕ → Bool) → (t q : ℕ) → State P → List P → Turn P
serve wire fits t q s [] = idle s
serve wire fits t q s (p ∷ ps) =
    cond (nat_le s.free t && fits (wire p))
    (record { after = record { waiting = λ r. cond (r == q) ps (s.waiting r); free = t + wire p }; start = Some p })
    (idle s)

-- the third step, whichever gate is open
abbrev pub send : {P : Type 0} → (P → ℕ) → (ℕ → ℕ → Bool) → ℕ → Option ℕ → State P → Turn P
send wire fits t None s = idle s
send wire fits t (Some q) s = serve wire (fits q) t q s (s.waiting q)

-- the state before the instant t, for a gate at each instant, what fits behind it, and what comes to each queue
abbrev pub ticks : {P : Type 0} → (P → ℕ) → (ℕ → Option ℕ) → (ℕ → ℕ → ℕ → Bool) → (ℕ → ℕ → List P) → ℕ → State P
ticks wire gate fits comes zero = empty
ticks wire gate fits comes (suc t) = (send wire (fits t) t (gate t) (join (comes t) (ticks wire gate fits comes t))).after

-- what starts at the instant t
abbrev pub begins : {P : Type 0} → (P → ℕ) → (ℕ → Option ℕ) → (ℕ → ℕ → ℕ → Bool) → (ℕ → ℕ → List P) → ℕ → Option P
begins wire gate fits comes t = (send wire (fits t) t (gate t) (join (comes t) (ticks wire gate fits comes t))).start

-- does a packet of flow i that the list admits come to queue q at t
abbrev pub has_packet : Traffic → List Entry → (q t i : ℕ) → Bool
has_packet s es q t i = arrives s i t && (q == queue s (packet_at s i t) && admitted s es (packet_at s i t))

-- the admitted packets of the first n flows that come to queue q at t, in queue order
abbrev pub arriving : Traffic → List Entry → (q t n : ℕ) → List Packet
arriving s es q t zero = []
arriving s es q t (suc n) = cond (has_packet s es q t (suc n)) (placed (waits_before s) (packet_at s (suc n) t) (arriving s es q t n)) (arriving s es q t n)

-- the list in force at t, where lists come into force at the multiples of the cycle
abbrev pub list_at : Traffic → (ℕ → List Entry) → ℕ → List Entry
list_at s in_force t = in_force (t / cycle s)

-- the gate open at t
abbrev pub gate_at : Traffic → (ℕ → List Entry) → ℕ → Option ℕ
gate_at s in_force t = open_at (list_at s in_force t) (t % cycle s)

-- does gate q stay open in this cycle from t up to t + e
abbrev pub fits_at : Traffic → (ℕ → List Entry) → (t q e : ℕ) → Bool
fits_at s in_force t q e = stays_open (list_at s in_force t) q (t % cycle s) e

-- what joins queue q at t: the admitted packets that turned up
abbrev pub joining : Traffic → (ℕ → List Entry) → (Packet → Bool) → (t q : ℕ) → List Packet
joining s in_force up t q = filter up (arriving s (list_at s in_force t) q t (length s.flows))

-- the port before the instant t, for the list in force in each cycle and the packets that turned up
abbrev pub run : Traffic → (ℕ → List Entry) → (Packet → Bool) → ℕ → State Packet
run s in_force up = ticks (wire s) (gate_at s in_force) (fits_at s in_force) (joining s in_force up)

-- what starts at t
abbrev pub starts : Traffic → (ℕ → List Entry) → (Packet → Bool) → ℕ → Option Packet
starts s in_force up = begins (wire s) (gate_at s in_force) (fits_at s in_force) (joining s in_force up)

-- is p in the list
abbrev pub holds : List Packet → Packet → Bool
holds [] p = false
holds (x ∷ xs) p = same p x || holds xs p

-- is this a start of p
abbrev pub starts_it : Packet → Option Packet → Bool
starts_it p None = false
starts_it p (Some r) = same p r

-- was p started below t, so that it ends in time
abbrev pub sent_whole : Traffic → (ℕ → List Entry) → (Packet → Bool) → (p : Packet) (t : ℕ) → Bool
sent_whole s in_force up p zero = false
sent_whole s in_force up p (suc t) = (starts_it p (starts s in_force up t) && in_time (job_of s p) t) || sent_whole s in_force up p t

-- a packet not sent whole by its deadline is lost
abbrev pub lost : Traffic → (ℕ → List Entry) → (Packet → Bool) → Packet → Bool
lost s in_force up p = not (sent_whole s in_force up p (deadline s p))

-- how many of n packets of flow i in a row, from packet j on, are lost
abbrev pub losses : Traffic → (Packet → Bool) → (i j n : ℕ) → ℕ
losses s lost i j zero = 0
losses s lost i j (suc n) = cond (lost (packet s i j)) 1 0 + losses s lost i (suc j) n
