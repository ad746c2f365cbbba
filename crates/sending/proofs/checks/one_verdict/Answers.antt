-- One verdict a list.
use Rattle.sending.proofs.Verdicts.{one_verdict}
use Rattle.sending.proofs.checks.one_verdict.Goals as goal

pub returns : goal.returns
returns c = one_verdict
