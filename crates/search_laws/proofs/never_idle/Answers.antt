-- The next window.
use Rattle.search_laws.proofs.Next.{never_idle}
use Rattle.search_laws.proofs.never_idle.Goals as goal

pub returns : goal.returns
returns c = never_idle
