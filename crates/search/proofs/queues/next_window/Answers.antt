-- The next window from the least arrival and the packet served first.
use Rattle.std.proofs.Common.{Some, None, sym, ◌∙◌}
use Rattle.search.proofs.Firsts.{next_is}
use Rattle.search.proofs.queues.next_window.Goals as goal

pub returns-in_err-packet : goal.returns-in_err-packet
returns-in_err-packet g c =
    c.from_residual-in_err-packet.ensures
    ∙ sym (next_is (g.O.ServingOrder.before c.args.order.now) c.args.t c.in_ok-least.least c.max-start.result c.args.queues.now None c.requires c.in_ok-least.ensures c.max-start.ensures c.in_err-packet.ensures)

pub returns : goal.returns
returns g c =
    sym (next_is (g.O.ServingOrder.before c.args.order.now) c.args.t c.in_ok-least.least c.max-start.result c.args.queues.now (Some c.in_ok-packet.packet) c.requires c.in_ok-least.ensures c.max-start.ensures c.in_ok-packet.ensures)
