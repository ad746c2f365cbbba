-- Window by window, what is drawn and what is left give the whole list.
use Rattle.std.proofs.Common.{◌≡◌, ℕ, ◌+◌, ◌≤◌, [], ◌∷◌, ◌++◌, length, get_or, take, drop, ap, ◌∙◌, subst, arith}
use Rattle.std.proofs.lemmas.List.{at_drop_more, at_drop_all}
use Rattle.std.proofs.ByRecursion.{All-get_or}
use Rattle.gates.specs.declared.entry.Entry.{Entry}
use Rattle.search.specs.Windows.{Fits, latest, end}
use Rattle.search.specs.Drawn.{closed, entry, drawn, Wrote}
use Rattle.search.proofs.Entries.{no_window, length-closed, left-room, drawn_more, drawn_all}
use Rattle.search.proofs.drawing.draw.Goals as goal

pub close-n-requires : goal.close-n-requires
close-n-requires c =
    let ws = c.args.windows.now in
    let i = c.loop-w.w-index in
    let w = get_or ws i no_window in
    let fits = All-get_or Fits ws i no_window c.loop-w-test.true c.requires.fit.0 in
    let early : end w ≤ latest = fits.early in
    let step : drawn c.loop-w.at (drop i ws) c.args.cycle ≡ closed c.loop-w.at w.start (entry w ∷ drawn (end w) (drop (i + 1) ws) c.args.cycle) = at_drop_more (λ zs. drawn c.loop-w.at zs c.args.cycle) ws i no_window c.loop-w-test.true in
    let room = left-room c.loop-w.n c.loop-w.list _ _ c.loop-w.invariant.2 c.loop-w.invariant.0 in
    let long = length-closed c.loop-w.at w.start (entry w ∷ drawn (end w) (drop (i + 1) ws) c.args.cycle) in
    let short = length-closed c.loop-w.at w.start [] in
    let all = ap length step in
    record { short = omega arith; room = omega (arith, c.requires.room, c.loop-w.auto.list) }

pub write-n-requires : goal.write-n-requires
write-n-requires c =
    let ws = c.args.windows.now in
    let i = c.loop-w.w-index in
    let w = get_or ws i no_window in
    let step : drawn c.loop-w.at (drop i ws) c.args.cycle ≡ closed c.loop-w.at w.start (entry w ∷ drawn (end w) (drop (i + 1) ws) c.args.cycle) = at_drop_more (λ zs. drawn c.loop-w.at zs c.args.cycle) ws i no_window c.loop-w-test.true in
    let room = left-room c.loop-w.n c.loop-w.list _ _ c.loop-w.invariant.2 c.loop-w.invariant.0 in
    let long = length-closed c.loop-w.at w.start (entry w ∷ drawn (end w) (drop (i + 1) ws) c.args.cycle) in
    let short = length-closed c.loop-w.at w.start [] in
    let all = ap length step in
    omega (arith, c.requires.room, c.loop-w.auto.list, c.close-n.auto.list, c.close-n.ensures.count)

pub loop-w-preserved : goal.loop-w-preserved
loop-w-preserved c =
    let ws = c.args.windows.now in
    let i = c.loop-w.w-index in
    let w = get_or ws i no_window in
    let m = c.close-n.result in
    let k = c.write-n.result in
    let l₂ = c.close-n.new.list in
    let l₃ = c.write-n.new.list in
    let put : Wrote (entry w ∷ []) m k l₂ l₃ = subst (λ (e : Entry). Wrote (e ∷ []) m k l₂ l₃) c.entry_of.ensures c.write-n.ensures in
    let more = drawn_more c.loop-w.at c.args.cycle i c.loop-w.n m k ws (drawn 0 ws c.args.cycle) c.args.list.now c.loop-w.list l₂ l₃ c.loop-w-test.true c.loop-w.invariant.0 c.loop-w.invariant.1 c.close-n.ensures put in (
      ap (λ (t : ℕ). take k l₃ ++ drawn t (drop (i + 1) ws) c.args.cycle) c.end-at.ensures ∙ more.0,
      more.1,
      let step : drawn c.loop-w.at (drop i ws) c.args.cycle ≡ closed c.loop-w.at w.start (entry w ∷ drawn (end w) (drop (i + 1) ws) c.args.cycle) = at_drop_more (λ zs. drawn c.loop-w.at zs c.args.cycle) ws i no_window c.loop-w-test.true in
          let room = left-room c.loop-w.n c.loop-w.list _ _ c.loop-w.invariant.2 c.loop-w.invariant.0 in
          let long = length-closed c.loop-w.at w.start (entry w ∷ drawn (end w) (drop (i + 1) ws) c.args.cycle) in
          let short = length-closed c.loop-w.at w.start [] in
          let all = ap length step in
          omega (arith, c.requires.room, c.loop-w.auto.list, c.close-n.auto.list, c.close-n.ensures.count, c.write-n.auto.list, c.write-n.ensures.count),
    )

pub entry_of-requires : goal.entry_of-requires
entry_of-requires c = All-get_or Fits c.args.windows.now c.loop-w.w-index no_window c.loop-w-test.true c.requires.fit.0

pub end-at-requires : goal.end-at-requires
end-at-requires c =
    let w = get_or c.args.windows.now c.loop-w.w-index no_window in
    let fits = All-get_or Fits c.args.windows.now c.loop-w.w-index no_window c.loop-w-test.true c.requires.fit.0 in
    let early : end w ≤ latest = fits.early in
    omega arith

pub close-requires : goal.close-requires
close-requires c =
    let ws = c.args.windows.now in
    let i = c.loop-w.w-index in
    let last : drawn c.loop-w.at (drop i ws) c.args.cycle ≡ closed c.loop-w.at c.args.cycle [] = at_drop_all (λ zs. drawn c.loop-w.at zs c.args.cycle) ws i c.loop-w-test.false in
    let room = left-room c.loop-w.n c.loop-w.list _ _ c.loop-w.invariant.2 c.loop-w.invariant.0 in
    let all = ap length last in
    record { short = c.requires.fit.1; room = omega (arith, c.requires.room, c.loop-w.auto.list) }

pub returns : goal.returns
returns c =
    drawn_all c.loop-w.at c.args.cycle c.loop-w.w-index c.loop-w.n c.close.result c.args.windows.now _ c.args.list.now c.loop-w.list c.close.new.list
    c.loop-w-test.false c.loop-w.invariant.2 c.loop-w.invariant.0 c.loop-w.invariant.1 c.close.ensures
