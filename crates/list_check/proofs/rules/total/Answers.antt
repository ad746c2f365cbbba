-- The sum of the entries' times.
use Rattle.std.proofs.Common.{◌≡◌, ◌∙◌, rules}
use Rattle.std.specs.List.{sum_by}
use Rattle.list_check.proofs.Naming.{total_sum}
use Rattle.list_check.proofs.rules.total.Goals as goal

pub returns : goal.returns
returns c =
    let is : c.sum.result ≡ sum_by (λ e. e.interval) c.args.list.now = search rules in
    is ∙ total_sum c.args.list.now
