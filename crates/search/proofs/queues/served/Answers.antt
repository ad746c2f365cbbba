-- The chain's answer.
use Rattle.std.proofs.Common.{leb, rules}
use Rattle.std.specs.List.{slice_get}
use Rattle.std.proofs.lemmas.Iterator.{YieldsList-from_slice}
use Rattle.std.proofs.lemmas.Iterator.Consumers.{YieldsList-at, YieldsList-from_filter_map, YieldsList-from_filter}
use Rattle.search.specs.Queues.{served_first}
use Rattle.search.proofs.Firsts.{reduced}
use Rattle.search.proofs.queues.served.Goals as goal

pub returns : goal.returns
returns g c =
    reduced _ (served_first (g.O.ServingOrder.before c.args.order.now)) _ _ c.reduce.result _ c.reduce.ensures.ran
    (YieldsList-from_filter _ (λ p. leb p.arrival c.args.t)
    (YieldsList-at c.filter.ensures.source (YieldsList-from_filter_map _ (λ q. slice_get q 0) (YieldsList-at c.filter_map.ensures.source (YieldsList-from_slice c.args.queues.now cc)) c.filter_map.ensures.closure (λ x r q k. search rules)))
    c.filter.ensures.closure (λ x b q k. search rules))
    (λ x y r q k. search rules)
