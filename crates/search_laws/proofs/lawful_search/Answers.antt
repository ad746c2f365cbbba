-- What the search answers and leaves is lawful.
use Rattle.std.proofs.Common.{length}
use Rattle.search_laws.specs.Words.{Serving}
use Rattle.search_laws.proofs.Sheeted.{outcome_law}
use Rattle.search_laws.proofs.lawful_search.Goals as goal

pub returns : goal.returns
returns g c =
    let o = c.args.order.now in
    let b = g.O.ServingOrder.before o in
    let m = g.met.O.ServingOrder in
    let laws : Serving b = record { never = m.never o; chained = m.chained o; decides = m.decides o } in
    record {
      searched = c.search.ensures;
      law = outcome_law b c.args.sheet.now (length c.args.list.now) (length c.args.windows.now) c.args.list.now c.search.new.list c.search.result laws c.search.ensures.value c.search.ensures.list;
    }
