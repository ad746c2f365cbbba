-- The orders of the two record types.
use Rattle.std.specs.Prelude.{Bool, if◌then◌else◌, ◌&&◌, ◌||◌, ◌==◌, nat_lt}
use Rattle.table_uses.specs.declared.windows.Window.{Window}
use Rattle.table_uses.specs.declared.waiting.Waiting.{Waiting}

-- the earlier start
abbrev pub starts_before : Window → Window → Bool
starts_before v w = nat_lt v.start w.start

-- the earlier arrival, then the smaller flow
abbrev pub waits_before : Waiting → Waiting → Bool
waits_before p q = nat_lt p.arrival q.arrival || (p.arrival == q.arrival && nat_lt p.flow q.flow)

-- the later of two windows, the second where neither is before the other
abbrev pub later : Window → Window → Window
later v w = if starts_before w v then v else w
