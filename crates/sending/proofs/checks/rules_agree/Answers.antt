-- The rules agree.
use Rattle.sending.proofs.Keeping.{rules_agree}
use Rattle.sending.proofs.checks.rules_agree.Goals as goal

pub returns : goal.returns
returns c = rules_agree
