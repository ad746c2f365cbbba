-- Behind its place in the list the packet is sent at its first fit.
use Rattle.std.proofs.Common.{ℕ, subst, inl, inr, arith}
use Rattle.list_check.specs.Serving.{FirstFit, NoFit}
use Rattle.list_check.proofs.Fitting.{placed_moved}
use Rattle.list_check.proofs.service.Service.serve.Goals as goal

pub returns-in_err-start : goal.returns-in_err-start
returns-in_err-start c es ok at =
    let x = c.args.x.now in
    let none = c.in_err-start.ensures.fits es ok (placed_moved es _ _ _ at c.moved_to-cursor.ensures) in
    rw c.from_residual.ensures (inl (subst (λ (n : ℕ). NoFit es x.queue n x.wire) c.max-from.ensures none))

pub returns-then-free-x : goal.returns-then-free-x
returns-then-free-x c es ok at =
    let x = c.args.x.now in
    let fit = c.in_ok-start.ensures.fits es ok (placed_moved es _ _ _ at c.moved_to-cursor.ensures) in
    let free = c.saturating_add-free.ensures in
    let due = c.requires.due in
    inr (c.in_ok-start.start, (subst (λ (n : ℕ). FirstFit es x.queue n x.wire c.in_ok-start.start) c.max-from.ensures fit, omega arith))

pub returns : goal.returns
returns c es ok at =
    let x = c.args.x.now in
    let moved = placed_moved es _ _ _ at c.moved_to-cursor.ensures in
    let fit = c.in_ok-start.ensures.fits es ok moved in
    let free = c.saturating_add-free.ensures in
    let due = c.requires.due in
    (moved, (c.in_ok-start.start, record { fit = subst (λ (n : ℕ). FirstFit es x.queue n x.wire c.in_ok-start.start) c.max-from.ensures fit; ends = omega arith; free = omega arith }))
