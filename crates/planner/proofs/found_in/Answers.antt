-- The search's two answers.
use Rattle.std.proofs.Common.{◌≡◌, ℕ, ◌-◌, length, take, sym, ap, ◌∙◌, arith}
use Rattle.gates.specs.Writes.{write_fault}
use Rattle.refusal.specs.Told.{refusal_text}
use Rattle.search.specs.Serving.{deadline_monotonic}
use Rattle.search.specs.Memory.{found}
use Rattle.planner.specs.Answer.{written, search_answer}
use Rattle.planner.proofs.Answering.{made-same, found-is, found-list, found_fault}
use Rattle.planner.proofs.found_in.Goals as goal

pub returns-in-Ok : goal.returns-in-Ok
returns-in-Ok c =
    let s = c.args.sheet.now in
    let old = c.args.list.now in
    let after = c.lawful_search.new.list in
    let n = c.in-Ok.n in
    let r = found deadline_monotonic s (length old) (length c.args.windows.now) in
    let list = found-list r n old after c.in-Ok.ensures.searched.value c.in-Ok.ensures.searched.list in
    let same = found-is deadline_monotonic s (length old) (length c.args.windows.now) c.requires.some c.requires.memory.0 c.requires.memory.1 in
    let whole : n - 0 ≡ n = omega arith in
    let part : written (take (n - 0) after) (write_fault (take (n - 0) after) 30720) ≡ written (take n after) (write_fault (take n after) 30720) = ap (λ (m : ℕ). written (take m after) (write_fault (take m after) 30720)) whole in
    made-same c.list_text.result _ _ (part ∙ sym list ∙ ap search_answer same) c.list_text.ensures

pub returns-in-Err : goal.returns-in-Err
returns-in-Err c =
    let s = c.args.sheet.now in
    let r = found deadline_monotonic s (length c.args.list.now) (length c.args.windows.now) in
    let fault = found_fault r c.in-Err.fault c.in-Err.ensures.searched.value in
    let same = found-is deadline_monotonic s (length c.args.list.now) (length c.args.windows.now) c.requires.some c.requires.memory.0 c.requires.memory.1 in
    made-same c.refused.result _ _ (ap refusal_text c.from.ensures ∙ sym fault ∙ ap search_answer same) c.refused.ensures
