-- A packet of the sheet waits in one of the eight queues.
use Rattle.std.proofs.Common.{◌<◌, sym, subst}
use Rattle.std.proofs.lemmas.Option.{cond_some}
use Rattle.traffic.specs.declared.packet.Job.{Job}
use Rattle.sending.proofs.Fitting.{read_sheets_fit}
use Rattle.sending.proofs.Source.{ours_from}
use Rattle.port.specs.Station.{sheet_of}
use Rattle.port.proofs.Sheets.{queue_low}
use Rattle.port.proofs.station.Station.welcome.Goals as goal

pub holds-requires : goal.holds-requires
holds-requires c =
    let s = sheet_of c.args.self.now in
    let p = c.args.packet.now in
    let told = cond_some _ _ _ (sym c.in_ok-job.ensures) in
    subst (λ (j : Job). j.queue < 8) told.1 (queue_low s (read_sheets_fit s c.args.self.now.sheet.now.kept) p (ours_from s p told.0))
