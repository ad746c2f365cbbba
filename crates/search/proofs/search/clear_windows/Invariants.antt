-- Zero so far.
use Rattle.std.proofs.Common.{◌≡◌, take, replicate}
use Rattle.search.specs.Memory.{no_window}
use Rattle.search.proofs.search.clear_windows.Given as goal

abbrev pub invariant-loop-window : goal.invariant-loop-window
invariant-loop-window l = take l.window-index l.windows ≡ replicate l.window-index no_window
