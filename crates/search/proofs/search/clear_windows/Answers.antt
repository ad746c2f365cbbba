-- Record by record, zero.
use Rattle.std.proofs.Common.{◌≡◌, ℕ, ◌<◌, ◌≤◌, List, [], ◌∷◌, ◌++◌, length, replicate, sym, ap, ◌∙◌, arith}
use Rattle.std.proofs.lemmas.List.{take_more_set, take_all, replicate_more}
use Rattle.search.specs.declared.window.Window.{Window}
use Rattle.search.specs.Memory.{no_window}
use Rattle.search.proofs.search.clear_windows.Goals as goal

pub loop-window-preserved : goal.loop-window-preserved
loop-window-preserved c =
    let i = c.loop-window.window-index in
    let within : i < length c.loop-window.windows = omega arith in
    take_more_set c.loop-window.windows i no_window within ∙ ap (λ (zs : List Window). zs ++ (no_window ∷ [])) c.loop-window.invariant ∙ replicate_more i no_window

pub returns : goal.returns
returns c =
    let all : length c.loop-window.windows ≤ c.loop-window.window-index = omega arith in
    let same : c.loop-window.window-index ≡ length c.args.windows.now = omega arith in
    sym (take_all c.loop-window.window-index c.loop-window.windows all) ∙ c.loop-window.invariant ∙ ap (λ (k : ℕ). replicate k no_window) same
