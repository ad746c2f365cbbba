-- The table has 4,097 packets.
use Rattle.std.proofs.Common.{sym, arith}
use Rattle.std.proofs.lemmas.List.{length-take-le}
use Rattle.arrivals_cases.proofs.tests.a_capture_of_4096_and_one_more.Goals as goal

pub slice_bounds-new-end : goal.slice_bounds-new-end
slice_bounds-new-end g c = sym (length-take-le 4096 c.from_fn-packets.result (omega (arith, c.from_fn-packets.ensures.items.long)))
