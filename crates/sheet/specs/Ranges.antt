-- What the numbers of a sheet keep to. Assumes nothing.
use Rattle.std.specs.Prelude.{ℕ, ◌+◌, Bool, true, ◌&&◌, List, [], ◌∷◌, nat_le}
use Rattle.traffic.specs.declared.rate.Rate.{Rate}
use Rattle.traffic.specs.declared.flow.Flow.{Flow}
use Rattle.traffic.specs.Wire.{wire_time}

-- at least low and at most high
abbrev pub between : ℕ → ℕ → ℕ → Bool
between low high n = nat_le low n && nat_le n high

-- each number of the flow keeps its range
abbrev pub flow_ranged : Flow → Bool
flow_ranged f =
    between 1 7 f.queue && (between 64 1522 f.octets && (between 1 1000000000 f.period && (between 1 f.period f.deadline
    && (between 0 19 f.miss && (between (f.miss + 1) 20 f.among && between 0 255 f.weight)))))

-- and its wire time does not pass its deadline
abbrev pub flow_kept : Rate → Flow → Bool
flow_kept r f = flow_ranged f && nat_le (wire_time r f.octets) f.deadline

-- all of them do
abbrev pub all_kept : Rate → List Flow → Bool
all_kept r [] = true
all_kept r (f ∷ fs) = flow_kept r f && all_kept r fs
