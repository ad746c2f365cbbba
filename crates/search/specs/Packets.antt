-- The packets of a cycle. Assumes nothing.
use Rattle.coming.specs.Packets.{packets_before}
use Rattle.sheet.specs.declared.sheet.Sheet.{Sheet}
use Rattle.sheet.specs.Contents.{traffic_of}
use Rattle.search.specs.Search.{Cycle}

-- the packets of the sheet's cycle: those of queue 0 are the optional ones
abbrev pub cycle_packets : Sheet → Cycle
cycle_packets s = record {
  long = s.cycle;
  mandatory = λ q. packets_before (traffic_of s) q s.cycle;
  optional = packets_before (traffic_of s) 0 s.cycle;
}
