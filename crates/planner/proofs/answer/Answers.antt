-- Memory is short.
use Rattle.std.proofs.lemmas.Result.{err_from_is_err_and}
use Rattle.planner.proofs.answer.Goals as goal

pub returns-in_err-windows : goal.returns-in_err-windows
returns-in_err-windows c =
    let p = err_from_is_err_and c.from_residual-in_err-windows.result c.from_residual-in_err-windows.ensures.1 in
    rw p.1 tt
