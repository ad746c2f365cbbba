-- The packets of a cycle, queue by queue. Assumes nothing.
use Rattle.std.specs.Prelude.{ℕ, zero, suc, ◌+◌, ◌/◌, ◌%◌, Bool, cond, ◌&&◌, List, [], ◌∷◌, ◌++◌, ◌==◌}
use Rattle.traffic.specs.declared.rate.Rate.{Rate}
use Rattle.traffic.specs.declared.flow.Flow.{Flow}
use Rattle.traffic.specs.declared.packet.Job.{Job}
use Rattle.traffic.specs.Packets.{Traffic, queue_of, job}
use Rattle.traffic.specs.Orders.{queue_before}
use Rattle.table.specs.Order.{placed}

-- a packet of the flow arrives at t and waits in queue q
abbrev pub arrives_in : ℕ → ℕ → Flow → Bool
arrives_in q t f = t % f.period == 0 && queue_of f (t / f.period + 1) == q

-- the packets of these flows, which count from i, that arrive at t and wait in queue q
abbrev pub arriving : Rate → (q t i : ℕ) → List Flow → List Job
arriving r q t i [] = []
arriving r q t i (f ∷ fs) = cond (arrives_in q t f) (job r i f (t / f.period + 1) ∷ arriving r q t (suc i) fs) (arriving r q t (suc i) fs)

-- these packets in queue order
abbrev pub in_queue_order : List Job → List Job
in_queue_order [] = []
in_queue_order (x ∷ xs) = placed queue_before x (in_queue_order xs)

-- the packets that wait in queue q and arrive before the instant t, in queue order
abbrev pub packets_before : Traffic → (q t : ℕ) → List Job
packets_before s q zero = []
packets_before s q (suc t) = packets_before s q t ++ in_queue_order (arriving s.rate q t 1 s.flows)
