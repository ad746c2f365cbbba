-- One entry after another.
use Rattle.std.proofs.Common.{◌≡◌, ◌+◌, max, true, false, cond, leb, get_or, drop, Some, None, sym, ap, ◌∙◌, arith}
use Rattle.std.proofs.lemmas.List.{at_drop_more, at_drop_all}
use Rattle.std.proofs.lemmas.Bool.{le-leb, lt-leb}
use Rattle.gates.specs.Entries.{no_entry}
use Rattle.gates.specs.Open.{opens}
use Rattle.list_check.specs.Fit.{fit_from}
use Rattle.list_check.proofs.Fitting.{fit_found, total_split, total_more}
use Rattle.list_check.proofs.fit.Cursor.first_fit.Goals as goal
use Rattle.list_check.proofs.fit.Cursor.first_fit.Goals.{then-not-opens, else-not-opens+else-start-wire}

pub overflow_add-end : goal.overflow_add-end
overflow_add-end c =
    let xs = c.args.self.rest.now in
    let split = total_split c.loop-entry.entry-index xs in
    let more = total_more c.loop-entry.entry-index xs c.loop-entry-test.true in
    let most = total_split (c.loop-entry.entry-index + 1) xs in
    let short = c.args.self.short in
    let is = c.loop-entry.invariant.1 in
    omega arith

pub returns-then-start-wire-clause-fits : goal.returns-then-start-wire-clause-fits
returns-then-start-wire-clause-fits c =
    let xs = c.args.self.rest.now in
    let i = c.loop-entry.entry-index in
    let q = c.args.queue in
    let e = c.args.wire in
    let x = get_or xs i no_entry in
    let start = c.loop-entry.start in
    let n = c.loop-entry.end + x.interval in
    let step : fit_from (drop i xs) q e start c.loop-entry.end ≡ cond (opens q x.gates) (cond (leb (start + e) n) (Some start) (fit_from (drop (i + 1) xs) q e start n)) (fit_from (drop (i + 1) xs) q e (max start n) n) =
    at_drop_more (λ l. fit_from l q e start c.loop-entry.end) xs i no_entry c.loop-entry-test.true in
    let on : opens q x.gates ≡ true = sym c.if-not-opens.ensures in
    let fits : leb (start + e) n ≡ true = le-leb _ _ c.if-start-wire.true in
    let here : fit_from (drop i xs) q e start c.loop-entry.end ≡ Some start = rw (on, fits) at step in
    fit_found c.args.self q c.args.from e c.requires.onward c.requires.some (Some start) (sym c.loop-entry.invariant.0 ∙ here)

pub loop-entry-preserved : goal.loop-entry-preserved
loop-entry-preserved c =
    let xs = c.args.self.rest.now in
    let i = c.loop-entry.entry-index in
    let q = c.args.queue in
    let e = c.args.wire in
    let x = get_or xs i no_entry in
    let start = c.loop-entry.start in
    let n = c.loop-entry.end + x.interval in
    let step : fit_from (drop i xs) q e start c.loop-entry.end ≡ cond (opens q x.gates) (cond (leb (start + e) n) (Some start) (fit_from (drop (i + 1) xs) q e start n)) (fit_from (drop (i + 1) xs) q e (max start n) n) =
    at_drop_more (λ l. fit_from l q e start c.loop-entry.end) xs i no_entry c.loop-entry-test.true in
    let more = total_more i xs c.loop-entry-test.true in
    let split = total_split (i + 1) xs in
    let short = c.args.self.short in
    let is = c.loop-entry.invariant.1 in
    let low = c.loop-entry.invariant.3 in
    let from = c.loop-entry.invariant.2 in
    elim c.if-not-opens.branch [
      | then-not-opens w ↦
          let off : opens q x.gates ≡ false = sym w.if-not-opens.ensures in
          let here : fit_from (drop i xs) q e start c.loop-entry.end ≡ fit_from (drop (i + 1) xs) q e (max start n) n = rw off at step in
          let now : c.if-not-opens.start ≡ max start n = w.start-is ∙ w.max-start.ensures in
          (ap (λ s. fit_from (drop (i + 1) xs) q e s n) now ∙ sym here ∙ c.loop-entry.invariant.0, omega arith, omega arith, omega arith)
      | else-not-opens+else-start-wire w ↦
          let on : opens q x.gates ≡ true = sym w.if-not-opens.ensures in
          let full : leb (start + e) n ≡ false = lt-leb _ _ w.if-start-wire.false in
          let here : fit_from (drop i xs) q e start c.loop-entry.end ≡ fit_from (drop (i + 1) xs) q e start n = rw (on, full) at step in
          let now : c.if-not-opens.start ≡ start = w.start-is in
          (ap (λ s. fit_from (drop (i + 1) xs) q e s n) now ∙ sym here ∙ c.loop-entry.invariant.0, omega arith, omega arith, omega arith)
    ]

pub returns-clause-fits : goal.returns-clause-fits
returns-clause-fits c =
    let xs = c.args.self.rest.now in
    let end : fit_from (drop c.loop-entry.entry-index xs) c.args.queue c.args.wire c.loop-entry.start c.loop-entry.end ≡ None = at_drop_all (λ l. fit_from l c.args.queue c.args.wire c.loop-entry.start c.loop-entry.end) xs _ c.loop-entry-test.false in
    fit_found c.args.self c.args.queue c.args.from c.args.wire c.requires.onward c.requires.some None (sym c.loop-entry.invariant.0 ∙ end)
