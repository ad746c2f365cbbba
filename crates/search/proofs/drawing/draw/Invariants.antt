-- What is drawn so far, and what is left to draw, give the whole list.
use Rattle.std.proofs.Common.{◌≡◌, ◌≤◌, ◌++◌, length, take, drop}
use Rattle.search.specs.Drawn.{drawn}
use Rattle.search.proofs.drawing.draw.Given as goal

abbrev pub invariant-loop-w : goal.invariant-loop-w
invariant-loop-w l =
    (take l.n l.list ++ drawn l.at (drop l.w-index l.windows) l.cycle ≡ drawn 0 l.windows l.cycle)
    × (drop l.n l.list ≡ drop l.n l.initial.list)
    × (l.n ≤ length l.list)
