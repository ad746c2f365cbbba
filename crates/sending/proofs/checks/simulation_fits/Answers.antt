-- What a simulation needs.
use Rattle.sending.proofs.Waiting.{simulation_fits}
use Rattle.sending.proofs.checks.simulation_fits.Goals as goal

pub returns : goal.returns
returns c = simulation_fits
