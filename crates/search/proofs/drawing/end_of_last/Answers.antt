-- The last window is the one at the last place.
use Rattle.std.proofs.Common.{◌≡◌, ◌+◌, ◌-◌, ◌<◌, length, take, sym, ap, ◌∙◌, arith}
use Rattle.std.proofs.lemmas.List.{take_all}
use Rattle.search.specs.Windows.{last_end, end}
use Rattle.search.proofs.Entries.{no_window, last_end-take}
use Rattle.search.proofs.drawing.end_of_last.Goals as goal

pub returns-in-Some : goal.returns-in-Some
returns-in-Some c =
    let ws = c.args.windows.now in
    let there = c.in-Some.ensures.item.3 in
    let some : 0 < length ws = there.0 in
    let all : take (length ws - 1 + 1) ws ≡ ws = take_all (length ws - 1 + 1) ws (omega arith) in
    c.end.ensures ∙ ap end (there.1 no_window) ∙ sym (ap (last_end 0) (sym all) ∙ last_end-take ws (length ws - 1) (omega arith))
