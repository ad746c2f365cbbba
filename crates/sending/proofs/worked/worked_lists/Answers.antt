-- The worked lists.
use Rattle.sending.proofs.Examples.{worked_lists}
use Rattle.sending.proofs.worked.worked_lists.Goals as goal

pub returns : goal.returns
returns c = worked_lists
