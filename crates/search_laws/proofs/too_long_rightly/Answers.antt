-- Length.
use Rattle.search_laws.proofs.Refusals.{too_long_rightly}
use Rattle.search_laws.proofs.too_long_rightly.Goals as goal

pub returns : goal.returns
returns c = too_long_rightly
