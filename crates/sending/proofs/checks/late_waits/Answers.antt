-- A late packet still waits.
use Rattle.sending.proofs.Late.{late_waits}
use Rattle.sending.proofs.checks.late_waits.Goals as goal

pub returns : goal.returns
returns c = late_waits
