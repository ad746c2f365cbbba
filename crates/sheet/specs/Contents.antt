-- What a sheet says. Assumes nothing.
use Rattle.std.specs.Prelude.{[], vec_items}
use Rattle.traffic.specs.declared.rate.Rate.TheVariants.{Mbit10}
use Rattle.traffic.specs.Packets.{Traffic}
use Rattle.sheet.specs.declared.sheet.Sheet.{Sheet}

-- the rate and the flows of a sheet
abbrev pub traffic_of : Sheet → Traffic
traffic_of s = record { rate = s.rate; flows = vec_items s.flows }

-- what a sheet without flows says
abbrev pub no_traffic : Traffic
no_traffic = record { rate = Mbit10; flows = [] }
