-- What a port's counts stand for. Assumes nothing.
use Rattle.sending.specs.Calls.{Counts}
use Rattle.port.specs.declared.counts.Counts.{Counts as Counter}

-- the counts, as numbers
abbrev pub counts_of : Counter → Counts
counts_of c = record { mandatory = c.mandatory; optional = c.optional; foreign = c.foreign; unadmitted = c.unadmitted }
