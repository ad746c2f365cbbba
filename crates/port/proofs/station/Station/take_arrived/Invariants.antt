-- What is left to take gives what was to take.
use Rattle.std.proofs.Common.{◌≡◌, length}
use Rattle.port.specs.Station.{taking, Room}
use Rattle.port.proofs.station.Station.take_arrived.Given as goal

abbrev pub invariant-loop-packet : goal.invariant-loop-packet
invariant-loop-packet g l = record {
  sheet : l.self.sheet ≡ l.initial.self.sheet;
  rest : taking l.list l.at l.self (g.S.ArrivalSource.arrivals l.source) ≡ taking l.list l.at l.initial.self (g.S.ArrivalSource.arrivals l.initial.source);
  room : Room l.list l.at l.self;
}

abbrev pub decreases-loop-packet : goal.decreases-loop-packet
decreases-loop-packet g l = length (g.S.ArrivalSource.arrivals l.source)
