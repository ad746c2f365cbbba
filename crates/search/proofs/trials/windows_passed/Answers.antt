-- Those that are known to end by then, and those behind them.
use Rattle.std.proofs.Common.{◌≡◌, ℕ, ◌+◌, ◌-◌, leb, length, take, drop, sym, ap, ◌∙◌, subst, arith}
use Rattle.std.specs.List.{prefix_len}
use Rattle.std.proofs.lemmas.List.{take_all, length-drop, length-take}
use Rattle.std.proofs.lemmas.List.Sums.{prefix_len-le-length}
use Rattle.search.specs.declared.window.Window.{Window}
use Rattle.search.specs.Windows.{end}
use Rattle.search.specs.Trials.{Passed}
use Rattle.search.proofs.Admits.{passed_more}
use Rattle.search.proofs.trials.windows_passed.Goals as goal

pub overflow_add-result : goal.overflow_add-result
overflow_add-result c =
    let few = prefix_len-le-length (λ (w : Window). leb (end w) c.args.low) (take (length c.args.windows.now - c.args.from) (drop c.args.from c.args.windows.now)) in
    let short = length-take (length c.args.windows.now - c.args.from) (drop c.args.from c.args.windows.now) in
    let long = length-drop c.args.from c.args.windows.now in
    let size = c.well_formed in
    omega (arith, c.ended.ensures, c.requires.passed.within)

pub returns : goal.returns
returns c =
    let ws = c.args.windows.now in
    let n = c.args.from in
    let low = c.args.low in
    let long = length-drop n ws in
    let is : c.ended.result ≡ prefix_len (λ w. leb (end w) low) (drop n ws) = c.ended.ensures ∙ ap (prefix_len (λ (w : Window). leb (end w) low)) (take_all (length ws - n) (drop n ws) (omega arith)) in
    subst (λ (k : ℕ). Passed low (n + k) ws) (sym is) (passed_more low n ws c.requires.passed)
