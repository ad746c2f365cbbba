-- One solution.
use Rattle.search_laws.proofs.Once.{plan_once}
use Rattle.search_laws.proofs.plan_once.Goals as goal

pub returns : goal.returns
returns c = plan_once
