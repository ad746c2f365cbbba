-- Lateness.
use Rattle.search_laws.proofs.Refusals.{late_rightly}
use Rattle.search_laws.proofs.late_rightly.Goals as goal

pub returns : goal.returns
returns c = late_rightly
