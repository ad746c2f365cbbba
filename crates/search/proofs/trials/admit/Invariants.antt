-- The trials so far, and those of the packets that are left give them all; packets that are left arrive no earlier.
use Rattle.std.proofs.Common.{◌≡◌, ℕ, ◌≤◌}
use Rattle.std.specs.List.{AllByRecursion}
use Rattle.traffic.specs.Orders.{queue_before}
use Rattle.sheet.specs.Contents.{traffic_of}
use Rattle.coming.specs.Coming.{Due}
use Rattle.coming.specs.Rising.{Rises}
use Rattle.search.specs.Search.{admitted}
use Rattle.search.specs.Packets.{cycle_packets}
use Rattle.search.specs.Trials.{Tried}
use Rattle.search.proofs.trials.admit.Given as goal

abbrev pub invariant-loop-job : goal.invariant-loop-job
invariant-loop-job l =
    (goal.iterator-loop-job).can_next l.job-iterator
    × (goal.iterator-loop-job).is_finite l.job-iterator
    × ((a : ℕ)
    × Tried a l.schedule.windows l.trials
    × AllByRecursion (λ p. a ≤ p.arrival) l.job-iterator)
    × AllByRecursion (Due (traffic_of l.sheet) l.sheet.cycle 0) l.job-iterator
    × Rises queue_before l.job-iterator
    × (l.schedule.long ≡ l.sheet.cycle)
    × (admitted l.sheet.cycle l.job-iterator l.schedule.windows ≡ admitted l.sheet.cycle (cycle_packets l.sheet).optional l.initial.schedule.windows)
