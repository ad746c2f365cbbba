-- Walk and trials.
use Rattle.search_laws.proofs.Once.{plan_lawful}
use Rattle.search_laws.proofs.plan_lawful.Goals as goal

pub returns : goal.returns
returns c = plan_lawful
