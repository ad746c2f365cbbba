-- The laws of a merge.
use Rattle.std.proofs.Common.{refl}
use Rattle.arrivals.proofs.Merging.{merge_laws}
use Rattle.arrivals.proofs.merge.Merge.new.Goals as goal

pub returns : goal.returns
returns g c = record { parts = (refl, refl); laws = merge_laws (g.P.ArrivalSource.arrivals c.args.first) (g.Q.ArrivalSource.arrivals c.args.second) }
