-- The first cursor is at the packet that comes next.
use Rattle.std.proofs.Common.{ap, ◌∙◌}
use Rattle.std.specs.List.{slice_get}
use Rattle.arrivals.proofs.Belonging.{kept_periodic}
use Rattle.arrivals.proofs.Taking.{next_shown}
use Rattle.arrivals.proofs.calendar.calls.CalendarArrivalSource.head.Goals as goal

pub returns : goal.returns
returns c =
    let m = c.args.self.now in
    let sheet = m.sheet.now in
    c.copied.ensures ∙ c.first.ensures.value ∙ ap (λ cs. slice_get cs 0) c.records.ensures.value ∙ next_shown m.sort sheet.flows.items m.end (kept_periodic sheet.rate sheet.flows.items sheet.kept) m.cursors m.stands c.records.ensures.ordered
