-- The packets of a queue that are still to come. Assumes nothing.
use Rattle.std.specs.Prelude.{◌≡◌, ℕ, zero, suc, ◌+◌, ◌<◌, ◌≤◌, Bool, true, ◌⊎◌, List, [], ◌∷◌, length, take, ◌==◌}
use Rattle.std.specs.List.{AllByRecursion}
use Rattle.traffic.specs.declared.flow.Flow.{Flow}
use Rattle.traffic.specs.declared.packet.Job.{Job}
use Rattle.traffic.specs.Sorts.{FirstFrom}
use Rattle.traffic.specs.Packets.{Traffic, flow_at, arrival, queue_of, job}
use Rattle.traffic.specs.Orders.{queue_before}
use Rattle.table.specs.Order.{in_order, placed}
use Rattle.coming.specs.declared.coming.Queue.{Queue}

-- packet j of the flow waits in queue q
abbrev pub waits_in : ℕ → Flow → ℕ → Bool
waits_in q f j = queue_of f j == q

-- x is a packet of the sheet that waits in queue q and arrives in the cycle
pub record Due (s : Traffic) (long q : ℕ) (x : Job) : Type 0 where
  pub named : 0 < x.flow
  pub listed : x.flow ≤ length s.flows
  pub counted : 0 < x.number
  pub is : x ≡ job s.rate x.flow (flow_at s.flows x.flow) x.number
  pub early : x.arrival < long
  pub waits : x.queue ≡ q

-- x is the first such packet of flow i from number j on
pub record NextDue (s : Traffic) (long q i j : ℕ) (x : Job) : Type 0 where
  pub due : Due s long q x
  pub same_flow : x.flow ≡ i
  pub first : FirstFrom (waits_in q (flow_at s.flows i)) j x.number

-- flow i has no such packet from number j on
abbrev pub NoneDue : Traffic → ℕ → ℕ → ℕ → ℕ → Type 0
NoneDue s long q i j = (n : ℕ) → j ≤ n → waits_in q (flow_at s.flows i) n ≡ true → long ≤ arrival (flow_at s.flows i) n

-- the next packets that a queue holds
abbrev pub held : Queue → List Job
held c = take c.len c.next

-- the packets to come after the next one of flow i from number j on has joined, if there is one
abbrev pub Joins : Traffic → (long q i j : ℕ) → List Job → List Job → Type 0
Joins s long q i j before after =
    (NoneDue s long q i j × (after ≡ before))
    ⊎ ((y : Job) × (NextDue s long q i j y × (after ≡ placed queue_before y before)))

-- the packets to come once the first one of each of the flows 1 to n has joined
abbrev pub Built : Traffic → (long q n : ℕ) → List Job → Type 0
Built s long q zero ns = ns ≡ []
Built s long q (suc i) ns = (ms : List Job) × (Built s long q i ms × Joins s long q (suc i) 1 ms ns)

-- x was the first of the packets to come, and the next one of its flow has joined the others
abbrev pub Stepped : Traffic → (long q : ℕ) → Job → List Job → List Job → Type 0
Stepped s long q x before after = (rest : List Job) × ((before ≡ x ∷ rest) × Joins s long q x.flow (x.number + 1) rest after)

-- two next packets of different flows
abbrev pub OtherFlow : Job → Job → Type 0
OtherFlow n m = m.flow ≡ n.flow → ⊥

-- one next packet a flow
abbrev pub Once : List Job → Type 0
Once [] = Unit {0}
Once (n ∷ ns) = AllByRecursion (OtherFlow n) ns × Once ns

-- these are next packets in the queue, one a flow, in queue order
pub record Lined (s : Traffic) (long q : ℕ) (ns : List Job) : Type 0 where
  pub due : AllByRecursion (λ n. Due s long q n) ns
  pub ordered : in_order queue_before ns ≡ true
  pub once : Once ns

-- what a queue holds are such packets
pub record Comes (s : Traffic) (long q : ℕ) (c : Queue) : Type 0 where
  pub few : c.len ≤ 64
  pub lined : Lined s long q (held c)
