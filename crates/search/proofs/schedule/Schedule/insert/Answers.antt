-- One window more, where the list stays within its limit.
use Rattle.std.proofs.Common.{◌≡◌, List, length, take, sym, refl, ap, ◌∙◌, subst, arith}
use Rattle.std.proofs.lemmas.List.{length-take-le}
use Rattle.search.specs.declared.window.Window.{Window}
use Rattle.search.specs.Windows.{Apart, latest}
use Rattle.search.specs.Drawn.{drawn, inserted_at}
use Rattle.search.specs.Schedules.{Plan, GoesAt}
use Rattle.search.proofs.Inserts.{goes_there, goes_place, inserted_tally, fewer_windows, length-inserted_at}
use Rattle.search.proofs.schedule.Schedule.insert.Goals as goal

pub returns-then-entries-gt-MOST_ENTRIES-clause-there : goal.returns-then-entries-gt-MOST_ENTRIES-clause-there
returns-then-entries-gt-MOST_ENTRIES-clause-there c = goes_there c.args.place c.args.w c.args.self.now.windows (subst (λ (p : Plan). Apart 0 p.windows latest) c.self.view_is c.self.invariant.apart) c.requires

pub returns-then-entries-gt-MOST_ENTRIES-clause-cases : goal.returns-then-entries-gt-MOST_ENTRIES-clause-cases
returns-then-entries-gt-MOST_ENTRIES-clause-cases c =
    let there = ap (λ (vs : List Window). length (drawn 0 vs c.args.self.now.long)) (returns-then-entries-gt-MOST_ENTRIES-clause-there c) in
    (omega (arith, c.entries_with-entries.ensures), refl)

-- the place is the window's place in the table
pub put_at-requires : goal.put_at-requires
put_at-requires c =
    let goes : GoesAt c.args.place c.args.w (take c.self.inside.count c.self.inside.memory.now) = subst (λ (p : Plan). GoesAt c.args.place c.args.w p.windows) (sym c.self.view_is) c.requires in
    goes_place c.args.place c.args.w _ c.self.invariant.apart goes

pub returns-in_err-self-inside-clause-there : goal.returns-in_err-self-inside-clause-there
returns-in_err-self-inside-clause-there c = goes_there c.args.place c.args.w c.args.self.now.windows (subst (λ (p : Plan). Apart 0 p.windows latest) c.self.view_is c.self.invariant.apart) c.requires

-- the memory has room, since each window has an entry
pub returns-in_err-self-inside-clause-cases : goal.returns-in_err-self-inside-clause-cases
returns-in_err-self-inside-clause-cases c =
    let ms = c.self.inside.memory.now in
    let n = c.self.inside.count in
    let p = c.args.self.now in
    let long : length (take n ms) ≡ n = length-take-le n ms c.self.invariant.within in
    let same : length (take n ms) ≡ length p.windows = ap (λ (q : Plan). length q.windows) c.self.view_is in
    let each = fewer_windows 0 p.long (inserted_at c.args.place c.args.w p.windows) in
    let more = length-inserted_at c.args.place c.args.w p.windows c.requires.within in
    let full = c.in_err-self-inside.ensures.full in
    let memory = c.self.invariant.memory in
    absurd (omega (arith, c.entries_with-entries.ensures, c.if-entries-gt-MOST_ENTRIES.false))

pub invariant_of-self-2 : goal.invariant_of-self-2
invariant_of-self-2 c =
    let ms = c.self.inside.memory.now in
    let n = c.self.inside.count in
    let i = c.args.place in
    let w = c.args.w in
    let long = c.self.inside.cycle in
    let goes : GoesAt i w (take n ms) = subst (λ (p : Plan). GoesAt i w p.windows) (sym c.self.view_is) c.requires in
    let e : c.entries_with-entries.result ≡ length (drawn 0 (inserted_at i w (take n ms)) long) = c.entries_with-entries.ensures ∙ ap (λ (p : Plan). length (drawn 0 (inserted_at i w p.windows) p.long)) (sym c.self.view_is) in
    (inserted_tally long i c.entries_with-entries.result c.in_ok-self-inside.field-0 n c.self.inside.entries ms c.put_at.new.table w c.self.invariant goes e c.if-entries-gt-MOST_ENTRIES.false c.put_at.auto.table c.in_ok-self-inside.ensures).1

pub returns-clause-there : goal.returns-clause-there
returns-clause-there c = goes_there c.args.place c.args.w c.args.self.now.windows (subst (λ (p : Plan). Apart 0 p.windows latest) c.self.view_is c.self.invariant.apart) c.requires

pub returns-clause-cases : goal.returns-clause-cases
returns-clause-cases c =
    let ms = c.self.inside.memory.now in
    let n = c.self.inside.count in
    let i = c.args.place in
    let w = c.args.w in
    let long = c.self.inside.cycle in
    let more = c.in_ok-self-inside.field-0 in
    let p = c.args.self.now in
    let goes : GoesAt i w (take n ms) = subst (λ (p : Plan). GoesAt i w p.windows) (sym c.self.view_is) c.requires in
    let e : c.entries_with-entries.result ≡ length (drawn 0 (inserted_at i w (take n ms)) long) = c.entries_with-entries.ensures ∙ ap (λ (p : Plan). length (drawn 0 (inserted_at i w p.windows) p.long)) (sym c.self.view_is) in
    let is = (inserted_tally long i c.entries_with-entries.result more n c.self.inside.entries ms c.put_at.new.table w c.self.invariant goes e c.if-entries-gt-MOST_ENTRIES.false c.put_at.auto.table c.in_ok-self-inside.ensures).0 in
    let there = goes_there i w p.windows (subst (λ (p : Plan). Apart 0 p.windows latest) c.self.view_is c.self.invariant.apart) c.requires in
    let few = ap (λ (vs : List Window). length (drawn 0 vs p.long)) there in (
      omega (arith, c.entries_with-entries.ensures, c.if-entries-gt-MOST_ENTRIES.false),
      ap (λ (vs : List Window). record { windows = vs; long = long }) is ∙ ap (λ (q : Plan). record { windows = inserted_at i w q.windows; long = q.long }) c.self.view_is ∙ ap (λ (vs : List Window). record { windows = vs; long = p.long }) (sym there),
    )
