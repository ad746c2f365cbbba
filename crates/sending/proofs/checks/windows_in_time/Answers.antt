-- Windows of their own.
use Rattle.sending.proofs.Windowed.{windows_in_time}
use Rattle.sending.proofs.checks.windows_in_time.Goals as goal

pub returns : goal.returns
returns c = windows_in_time
