-- What is left gives the packet's room.
use Rattle.std.proofs.Common.{◌≡◌, ◌+◌, ◌≤◌, length, take, drop}
use Rattle.search.specs.Windows.{last_end, latest}
use Rattle.search.specs.Search.{room}
use Rattle.search.proofs.trials.room_for.Given as goal

abbrev pub invariant-loop-w : goal.invariant-loop-w
invariant-loop-w l =
    (room l.start l.job.wire (drop l.place l.windows) ≡ room l.low l.job.wire (drop l.from l.windows))
    × (last_end 0 (take l.place l.windows) ≤ l.start)
    × (l.place ≡ l.from + l.w-index)
    × (l.place ≤ length l.windows)
    × (l.start ≤ latest)
