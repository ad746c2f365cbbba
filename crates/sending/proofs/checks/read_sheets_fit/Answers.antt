-- Sheets that were read fit.
use Rattle.sending.proofs.Fitting.{read_sheets_fit}
use Rattle.sending.proofs.checks.read_sheets_fit.Goals as goal

pub returns : goal.returns
returns c = read_sheets_fit
