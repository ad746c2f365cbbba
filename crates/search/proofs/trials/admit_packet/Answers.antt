-- The window with the least start, if it is in time and the list stays within its limit.
use Rattle.std.proofs.Common.{◌≡◌, ℕ, ◌+◌, ◌≤◌, List, length, sym, refl, ap, ◌∙◌, subst, arith}
use Rattle.search.specs.declared.window.Window.{Window}
use Rattle.search.specs.Windows.{end}
use Rattle.search.specs.Drawn.{drawn, inserted_at}
use Rattle.search.specs.Search.{most_entries, trial, inserted}
use Rattle.search.specs.Trials.{Tried, HasRoom, NoRoom}
use Rattle.search.specs.Schedules.{Plan}
use Rattle.search.proofs.Admits.{trial_start, trial-is, tried_in, tried_late, tried_long, tried_ok}
use Rattle.search.proofs.trials.admit_packet.Goals as goal

pub returns-in_err-room-clause-tried : goal.returns-in_err-room-clause-tried
returns-in_err-room-clause-tried c =
    let p = c.args.job in
    let ws = c.args.schedule.now.windows in
    let start = trial_start c.args.passed c.args.low p ws c.requires.fits.0.some_wire c.requires.low c.requires.passed in
    let none : NoRoom c.args.low c.args.passed p ws = subst (NoRoom c.args.low c.args.passed p) c.windows.ensures.value c.in_err-room.ensures in
    (sym (tried_late c.args.schedule.now.long p ws (omega arith)), refl)

pub returns-in-Ok-clause-result : goal.returns-in-Ok-clause-result
returns-in-Ok-clause-result c =
    let p = c.args.job in
    let ws = c.args.schedule.now.windows in
    let m = c.in_ok-room.room in
    let has : HasRoom c.args.low c.args.passed p ws m = subst (λ (vs : List Window). HasRoom c.args.low c.args.passed p vs m) c.windows.ensures.value c.in_ok-room.ensures in
    let zs = c.insert.new.self.windows in
    let is : zs ≡ inserted_at m.place (record { start = m.start; packet = p }) ws = ap (λ (q : Plan). q.windows) c.in-Ok.ensures.cases.1 ∙ c.in-Ok.ensures.there in
    let then = subst (λ (vs : List Window). Tried p.arrival vs (record { last = m.start + p.wire; passed = c.args.passed })) (sym is) (tried_in c.args.passed c.args.low p ws m c.requires.fits.1 c.requires.low c.requires.passed has) in
    subst (λ (k : ℕ). Tried p.arrival zs (record { last = k; passed = c.args.passed })) (sym c.end.ensures) then

pub returns-in-Ok-clause-tried : goal.returns-in-Ok-clause-tried
returns-in-Ok-clause-tried c =
    let p = c.args.job in
    let ws = c.args.schedule.now.windows in
    let long = c.args.schedule.now.long in
    let m = c.in_ok-room.room in
    let has : HasRoom c.args.low c.args.passed p ws m = subst (λ (vs : List Window). HasRoom c.args.low c.args.passed p vs m) c.windows.ensures.value c.in_ok-room.ensures in
    let w : Window = record { start = m.start; packet = p } in
    let is : w ≡ trial p ws = trial-is c.args.passed c.args.low p ws m c.requires.fits.0.some_wire c.requires.low c.requires.passed has in
    let in_time : end (trial p ws) ≤ p.deadline = subst (λ (v : Window). end v ≤ p.deadline) is has.in_time in
    let few : length (drawn 0 (inserted (trial p ws) ws) long) ≤ most_entries = subst (λ (v : Window). length (drawn 0 (inserted v ws) long) ≤ most_entries) is c.in-Ok.ensures.cases.0 in
    (ap (λ (q : Plan). q.windows) c.in-Ok.ensures.cases.1 ∙ ap (λ (v : Window). inserted v ws) is ∙ sym (tried_ok long p ws in_time few), ap (λ (q : Plan). q.long) c.in-Ok.ensures.cases.1)

pub returns-in-Err-clause-tried : goal.returns-in-Err-clause-tried
returns-in-Err-clause-tried c =
    let p = c.args.job in
    let ws = c.args.schedule.now.windows in
    let long = c.args.schedule.now.long in
    let m = c.in_ok-room.room in
    let has : HasRoom c.args.low c.args.passed p ws m = subst (λ (vs : List Window). HasRoom c.args.low c.args.passed p vs m) c.windows.ensures.value c.in_ok-room.ensures in
    let is : record { start = m.start; packet = p } ≡ trial p ws = trial-is c.args.passed c.args.low p ws m c.requires.fits.0.some_wire c.requires.low c.requires.passed has in
    let many = ap (λ (v : Window). length (drawn 0 (inserted v ws) long)) is in
    (ap (λ (q : Plan). q.windows) c.in-Err.ensures.cases.1 ∙ sym (tried_long long p ws (omega (arith, c.in-Err.ensures.cases.0))), ap (λ (q : Plan). q.long) c.in-Err.ensures.cases.1)
