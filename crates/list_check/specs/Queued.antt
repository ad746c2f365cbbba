-- The packets of one queue in a cycle, as a list. Assumes nothing.
use Rattle.std.specs.Prelude.{◌≡◌, ℕ, true, false, ◌⊎◌, List, Option}
use Rattle.std.specs.List.{AllByRecursion}
use Rattle.std.specs.Iterator.{AlwaysYields}
use Rattle.traffic.specs.declared.packet.Packet.{Packet}
use Rattle.traffic.specs.declared.packet.Job.{Job}
use Rattle.traffic.specs.Packets.{Traffic, listed, job}
use Rattle.traffic.specs.Orders.{queue_before}
use Rattle.gates.specs.declared.entry.Entry.{Entry}
use Rattle.table.specs.Order.{placed}
use Rattle.sending.specs.Sheet.{flow, job_of, queue}
use Rattle.sending.specs.InTime.{InFirstCycle}
use Rattle.coming.specs.Rising.{In, Rises}

-- x is a packet of the cycle in queue q
pub record Of (s : Traffic) (es : List Entry) (q : ℕ) (x : Job) : Type 0 where
  pub packet : Packet
  pub is : job_of s packet ≡ x
  pub early : InFirstCycle s es packet
  pub own : queue s packet ≡ q

-- these are the packets of queue q that the list lets in, in queue order
pub record Queued (s : Traffic) (es : List Entry) (q : ℕ) (xs : List Job) : Type 0 where
  pub all_of : AllByRecursion (Of s es q) xs
  pub rises : Rises queue_before xs
  pub complete : (p : Packet) → InFirstCycle s es p → queue s p ≡ q → In (job_of s p) xs

-- the packets held after the one that an entry names has joined, if it names one
abbrev pub NamedJoins : Traffic → Entry → List Job → List Job → Type 0
NamedJoins s e before after =
    ((listed s.flows e.flow ≡ false) × (after ≡ before))
    ⊎ ((listed s.flows e.flow ≡ true) × (after ≡ placed queue_before (job s.rate e.flow (flow s e.flow) e.number) before))

-- what comes, step by step, are the packets of queue q, in queue order
abbrev pub QueueComes : {S : Type 0} → (S → Option Job → S → Type 0) → S → Traffic → List Entry → ℕ → Type 0
QueueComes steps packets s es q = (xs : List Job) × AlwaysYields steps (λ x. x) packets xs × Queued s es q xs
