-- The entries with one window more.
use Rattle.std.proofs.Common.{◌≡◌, List, length, take, drop, ap, ◌∙◌, arith}
use Rattle.search.specs.declared.window.Window.{Window}
use Rattle.search.specs.Windows.{end, last_end, first_start}
use Rattle.search.specs.Drawn.{drawn}
use Rattle.search.specs.Schedules.{Plan}
use Rattle.search.proofs.Entries.{gap, length_inserted, gap_within}
use Rattle.search.proofs.schedule.Schedule.entries_with.Goals as goal

pub overflow_sub-result : goal.overflow_sub-result
overflow_sub-result c =
    let place = c.args.place in
    let ws = c.args.self.now.windows in
    let long = c.args.self.now.long in
    let cycle : c.self.inside.cycle ≡ long = ap (λ (p : Plan). p.long) c.self.view_is in
    let so_far : c.self.inside.entries ≡ length (drawn 0 ws long) = c.self.invariant.count ∙ ap (λ (p : Plan). length (drawn 0 p.windows p.long)) c.self.view_is in
    let before : c.end_of_last-before.result ≡ last_end 0 (take place ws) = c.end_of_last-before.ensures ∙ ap (last_end 0) (c.split_at.ensures.front ∙ ap (take place) c.windows.ensures.value) in
    let after : c.start_of_first-after.result ≡ first_start (drop place ws) long = c.start_of_first-after.ensures ∙ ap (first_start c.split_at.result.1.now) cycle ∙ ap (λ (vs : List Window). first_start vs long) (c.split_at.ensures.back ∙ ap (drop place) c.windows.ensures.value) in
    let within = gap_within place long ws in
    let s : c.stretch.result ≡ gap (last_end 0 (take place ws)) (first_start (drop place ws) long) = cc in
    omega arith

pub returns : goal.returns
returns c =
    let w = c.args.w.now in
    let place = c.args.place in
    let ws = c.args.self.now.windows in
    let long = c.args.self.now.long in
    let cycle : c.self.inside.cycle ≡ long = ap (λ (p : Plan). p.long) c.self.view_is in
    let so_far : c.self.inside.entries ≡ length (drawn 0 ws long) = c.self.invariant.count ∙ ap (λ (p : Plan). length (drawn 0 p.windows p.long)) c.self.view_is in
    let before : c.end_of_last-before.result ≡ last_end 0 (take place ws) = c.end_of_last-before.ensures ∙ ap (last_end 0) (c.split_at.ensures.front ∙ ap (take place) c.windows.ensures.value) in
    let after : c.start_of_first-after.result ≡ first_start (drop place ws) long = c.start_of_first-after.ensures ∙ ap (first_start c.split_at.result.1.now) cycle ∙ ap (λ (vs : List Window). first_start vs long) (c.split_at.ensures.back ∙ ap (drop place) c.windows.ensures.value) in
    let within = gap_within place long ws in
    let s : c.stretch.result ≡ gap (last_end 0 (take place ws)) (first_start (drop place ws) long) = cc in
    let h = length_inserted place long w ws in
    let t : c.stretch-2.result ≡ gap (last_end 0 (take place ws)) w.start = cc in
    let u : c.stretch-3.result ≡ gap (end w) (first_start (drop place ws) long) = cc in
    omega arith
