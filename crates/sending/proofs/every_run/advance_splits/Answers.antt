-- Advances in parts.
use Rattle.sending.proofs.Jumping.{advance_splits}
use Rattle.sending.proofs.every_run.advance_splits.Goals as goal

pub returns : goal.returns
returns c = advance_splits
