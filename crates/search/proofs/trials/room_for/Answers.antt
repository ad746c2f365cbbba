-- Window by window, where the packet has room.
use Rattle.std.proofs.Common.{◌≡◌, ℕ, ◌+◌, ◌-◌, ◌<◌, max, length, get_or, take, drop, sym, refl, ap, ◌∙◌, subst, arith}
use Rattle.std.proofs.lemmas.List.{length-take, get_or-take, get_or-drop}
use Rattle.search.specs.declared.window.Window.{Window}
use Rattle.search.specs.Windows.{end}
use Rattle.search.specs.Search.{room}
use Rattle.search.proofs.Entries.{no_window, last_end-take}
use Rattle.search.proofs.Rooms.{last_end_passed, room_from, room_at_more, fits_at}
use Rattle.search.proofs.trials.room_for.Goals as goal

pub loop-w-init : goal.loop-w-init
loop-w-init c = (refl, last_end_passed c.args.low 0 (take c.args.from c.args.windows.now) (omega arith) c.requires.passed.ended, omega arith, c.requires.passed.within, c.requires.fit.2)

pub loop-w-preserved : goal.loop-w-preserved
loop-w-preserved c =
    let ws = c.args.windows.now in
    let from = c.args.from in
    let e = c.args.job.now.wire in
    let start = c.loop-w.start in
    let place = c.loop-w.place in
    let cut = length-take (length ws - from) (drop from ws) in
    let at = c.loop-w.invariant.2 in
    let rest : c.loop-w.w-index < length ws - from = omega (arith, c.loop-w-test.true) in
    let within : place < length ws = omega arith in
    let is : get_or (take (length ws - from) (drop from ws)) c.loop-w.w-index no_window ≡ get_or ws place no_window =
    get_or-take (length ws - from) (drop from ws) c.loop-w.w-index no_window rest ∙ get_or-drop from ws c.loop-w.w-index no_window ∙ ap (λ (k : ℕ). get_or ws k no_window) (sym at) in
    let late : (get_or ws place no_window).start < start + e = subst (λ (w : Window). w.start < start + e) is c.if-start-wire.false in
    let ends : c.max-start.result ≡ max start (end (get_or ws place no_window)) = c.max-start.ensures ∙ ap (max start) (c.end.ensures ∙ ap end is) in
    let on = room_at_more start e place ws within late in
    let last = last_end-take ws place within in
    let early = fits_at ws place within c.requires.fit.0 in
    let low = c.loop-w.invariant.4 in
    (ap (λ (k : ℕ). room k e (drop (place + 1) ws)) ends ∙ sym on ∙ c.loop-w.invariant.0, omega arith, omega arith, omega arith, omega arith)

pub returns-then-start-wire-3 : goal.returns-then-start-wire-3
returns-then-start-wire-3 c =
    let from = room_from c.loop-w.start c.args.job.now.wire (drop c.loop-w.place c.args.windows.now) in
    let same = c.loop-w.invariant.0 in
    omega (arith, c.if-start-wire-3.true)
