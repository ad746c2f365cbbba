-- Whether the sheet has the packet.
use Rattle.std.proofs.Common.{◌≡◌, ◌&&◌, eqb, ltb, None, rules}
use Rattle.std.specs.Bool.{then_some}
use Rattle.std.specs.Option.{MatchOption}
use Rattle.sheet.specs.Contents.{traffic_of}
use Rattle.port.proofs.Sheets.{job_told}
use Rattle.port.proofs.membership.job_on_sheet.Goals as goal

pub returns : goal.returns
returns c =
    let p = c.args.packet.now in
    let told : MatchOption c.job.result (c.filter.result ≡ None) (λ x. c.filter.result ≡ then_some (ltb 0 p.number && eqb x.arrival p.arrival) x) = search rules in
    job_told (traffic_of c.args.sheet.now) c.args.sheet.now.kept p c.requires c.job.result c.filter.result c.job.ensures told
