-- The two serving orders. Assumes nothing.
use Rattle.std.specs.Prelude.{◌-◌, Bool}
use Rattle.traffic.specs.declared.packet.Job.{Job}
use Rattle.traffic.specs.Orders.{then_by, queue_before}

-- less time from the arrival to the deadline first, then queue order
abbrev pub deadline_monotonic : Job → Job → Bool
deadline_monotonic x y = then_by (x.deadline - x.arrival) (y.deadline - y.arrival) (queue_before x y)

-- earlier deadline first, then queue order
abbrev pub earliest_deadline : Job → Job → Bool
earliest_deadline x y = then_by x.deadline y.deadline (queue_before x y)
