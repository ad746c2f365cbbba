-- The first source's head is taken where the second's is not before it.
use Rattle.std.proofs.Common.{◌≡◌, false}
use Rattle.arrivals.specs.Sources.{first}
use Rattle.arrivals.specs.Merges.{second_first}
use Rattle.arrivals.proofs.Merging.{first_taken}
use Rattle.arrivals.proofs.merge.MergeArrivalSource.take.Goals as goal

pub returns-else-is_second : goal.returns-else-is_second
returns-else-is_second g c =
    let xs = g.P.ArrivalSource.arrivals c.args.self.now.first in
    let ys = g.Q.ArrivalSource.arrivals c.args.self.now.second in
    let left : second_first (first xs) (first ys) ≡ false = cc in
    let t = first_taken xs ys left in
    record { value = cc; after = cc }
