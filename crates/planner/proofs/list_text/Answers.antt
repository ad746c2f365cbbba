-- The memory has so many bytes.
use Rattle.std.proofs.Common.{◌≡◌, ℕ, length, ap, ◌∙◌}
use Rattle.gates.specs.Writes.{write_fault}
use Rattle.planner.specs.Answer.{written}
use Rattle.planner.proofs.Answering.{made-same}
use Rattle.planner.proofs.list_text.Goals as goal

pub returns : goal.returns
returns c =
    let list = c.args.list.now in
    let room : length c.as_mut_slice.result.now ≡ 30720 = c.as_mut_slice.ensures.len ∙ c.in_ok-memory.ensures.len in
    made-same c.written_in.result _ _ (ap (λ (n : ℕ). written list (write_fault list n)) room) c.written_in.ensures
