-- The windows of walk and trials.
use Rattle.search_laws.proofs.Admit.{windows_fit}
use Rattle.search_laws.proofs.windows_fit.Goals as goal

pub returns : goal.returns
returns c = windows_fit
