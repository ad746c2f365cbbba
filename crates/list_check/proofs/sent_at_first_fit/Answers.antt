-- The theorem as it is proved.
use Rattle.list_check.proofs.Serving.{sent_at-first_fit}
use Rattle.list_check.proofs.sent_at_first_fit.Goals as goal

pub returns : goal.returns
returns c = sent_at-first_fit
