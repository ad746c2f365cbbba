-- Accepted lists.
use Rattle.sending.proofs.Accepting.{accepts_exactly}
use Rattle.sending.proofs.checks.accepts_exactly.Goals as goal

pub returns : goal.returns
returns c = accepts_exactly
