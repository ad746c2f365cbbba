-- What is left to do gives what was to do.
use Rattle.std.proofs.Common.{◌≡◌, ◌-◌, ◌≤◌}
use Rattle.sending.specs.Calls.{advance_by}
use Rattle.port.specs.Meaning.{traffic, meaning}
use Rattle.port.proofs.port.Port.run_to.Given as goal

abbrev pub invariant-loop-self : goal.invariant-loop-self
invariant-loop-self g l =
    (l.self.station.sheet ≡ l.initial.self.station.sheet)
    × (l.self.clock ≤ l.end)
    × (advance_by (traffic l.initial.self) (l.end - l.self.clock) (meaning l.self) (g.S.ArrivalSource.arrivals l.source) ≡ advance_by (traffic l.initial.self) (l.end - l.initial.self.clock) (meaning l.initial.self) (g.S.ArrivalSource.arrivals l.initial.source))

abbrev pub decreases-loop-self : goal.decreases-loop-self
decreases-loop-self g l = l.end - l.self.clock
