-- How long a frame takes on the wire. Assumes nothing.
use Rattle.std.specs.Prelude.{ℕ, ◌+◌, ◌*◌}
use Rattle.traffic.specs.declared.rate.Rate.{Rate}
use Rattle.traffic.specs.declared.rate.Rate.TheVariants.{Mbit10, Mbit100, Mbit1000}

-- the nanoseconds of one octet
abbrev pub octet_time : Rate → ℕ
octet_time Mbit10 = 800
octet_time Mbit100 = 80
octet_time Mbit1000 = 8

-- the wire time of a frame: its octets, and 20 more for preamble, start delimiter and gap
abbrev pub wire_time : Rate → ℕ → ℕ
wire_time rate octets = (octets + 20) * octet_time rate
