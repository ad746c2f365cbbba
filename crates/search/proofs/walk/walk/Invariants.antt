-- The windows so far, and the packets still to come: what is left of the walk gives the whole walk.
use Rattle.std.proofs.Common.{◌≡◌, ◌<◌, ◌≤◌, [], length}
use Rattle.std.specs.List.{AllByRecursion}
use Rattle.sheet.specs.Contents.{traffic_of}
use Rattle.search.specs.Windows.{last_end, latest}
use Rattle.search.specs.Search.{walked_over, count}
use Rattle.search.specs.Queues.{left_in}
use Rattle.search.specs.Packets.{cycle_packets}
use Rattle.search.proofs.Nexts.{AllDue}
use Rattle.search.proofs.walk.walk.Given as goal

abbrev pub invariant-loop-w : goal.invariant-loop-w
invariant-loop-w g l =
    (length l.queues ≡ 7)
    × AllDue (traffic_of l.sheet) l.sheet.cycle (left_in l.queues)
    × (l.schedule.long ≡ l.sheet.cycle)
    × (l.t ≡ last_end 0 l.schedule.windows)
    × (l.t ≤ latest)
    × AllByRecursion (λ w. 0 < w.packet.queue) l.schedule.windows
    × (walked_over (g.O.ServingOrder.before l.order) l.sheet.cycle l.t (left_in l.queues) l.schedule.windows
    ≡ walked_over (g.O.ServingOrder.before l.order) l.sheet.cycle 0 (cycle_packets l.sheet).mandatory [])

abbrev pub decreases-loop-w : goal.decreases-loop-w
decreases-loop-w g l = count (left_in l.queues) 7
