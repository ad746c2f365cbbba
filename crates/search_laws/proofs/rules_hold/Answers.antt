-- The rules, entry by entry.
use Rattle.search_laws.proofs.Admit.{rules_hold}
use Rattle.search_laws.proofs.rules_hold.Goals as goal

pub returns : goal.returns
returns c = rules_hold
