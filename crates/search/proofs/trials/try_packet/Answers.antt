-- A trial starts no later than the windows end.
use Rattle.std.proofs.Common.{arith}
use Rattle.search.proofs.Admits.{admitted_early}
use Rattle.search.proofs.trials.try_packet.Goals as goal

pub admit_packet-requires-clause-fits : goal.admit_packet-requires-clause-fits
admit_packet-requires-clause-fits c =
    let low = admitted_early c.args.schedule.now.windows c.windows.ensures.fit in
    (c.requires.fits.0, c.requires.fits.1, omega (arith, c.requires.tried.last, c.max-low.ensures, c.requires.fits.2))
