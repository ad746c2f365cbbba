-- The answer and the memory after a search that began.
use Rattle.std.proofs.Common.{◌≡◌, length, replicate, ap, ◌∙◌, rules}
use Rattle.search.specs.Memory.{no_window, zero_from}
use Rattle.search.proofs.Outcomes.{found_planned, cleared, searched}
use Rattle.search.proofs.search.search.Goals as goal

pub returns : goal.returns
returns g c =
    let s = c.args.sheet.now in
    let b = g.O.ServingOrder.before c.args.order.now in
    let old = c.args.list.now in
    let ws = c.args.windows.now in
    let mid = c.planned-found.new.list in
    let n = c.unwrap_or-drawn.result in
    let flows = ap length c.flows.ensures in
    let is = found_planned b s (length old) (length ws) (λ z. let e : length c.flows.result.now ≡ 0 = flows ∙ z in search rules) c.if-list-lt-MOST_ENTRIES.false c.if-windows-lt-MOST_ENTRIES.false in
    let windows : c.clear_windows.new.windows ≡ replicate (length ws) no_window = c.clear_windows.ensures ∙ ap (λ k. replicate k no_window) c.planned-found.auto.windows in
    let list = cleared n mid c.clear_entries.new.list c.clear_entries.ensures ∙ ap (λ k. zero_from k mid) c.unwrap_or-drawn.ensures in
    let after = searched b s old mid ws c.planned-found.result is c.planned-found.ensures c.planned-found.auto.list in
    record { value = after.value; list = list ∙ after.list; windows = windows ∙ after.windows }
