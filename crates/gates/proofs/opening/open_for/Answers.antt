-- One entry after another.
use Rattle.std.proofs.Common.{◌≡◌, ◌+◌, ◌-◌, true, get_or, drop, sym, ap, ◌∙◌, arith}
use Rattle.std.proofs.lemmas.List.{drop_more}
use Rattle.gates.specs.Open.{opens, open_for}
use Rattle.gates.proofs.Stays.{for_open_here, for_later, stays_for, one_stretch}
use Rattle.gates.specs.Entries.{no_entry}
use Rattle.gates.proofs.opening.open_for.Goals as goal
use Rattle.gates.proofs.opening.open_for.Goals.{then-ahead-interval, else-ahead-interval+then-opens}

pub loop-entry-preserved : goal.loop-entry-preserved
loop-entry-preserved c =
    let xs = c.args.list.now in
    let i = c.loop-entry.entry-index in
    let ahead = c.loop-entry.ahead in
    let q = c.args.queue in
    let x = get_or xs i no_entry in
    let step = ap (λ l. open_for l q ahead) (drop_more xs i no_entry c.loop-entry-test.true) in
    elim c.if-ahead-interval.branch [
      | then-ahead-interval w ↦
          let past = w.if-ahead-interval.true in
          let later = step ∙ for_later x (drop (i + 1) xs) q ahead (ahead - x.interval) (omega arith) in
          let a = w.ahead-is in
          let b = w.time-is in
          let same : open_for (drop (i + 1) xs) q c.if-ahead-interval.ahead ≡ open_for (drop i xs) q ahead = ap (open_for (drop (i + 1) xs) q) a ∙ sym later in
          (omega arith, omega arith)
      | else-ahead-interval+then-opens w ↦
          let on : opens q x.gates ≡ true = sym w.opens.ensures ∙ w.if-opens.true in
          let here = step ∙ for_open_here x (drop (i + 1) xs) q ahead (omega arith) on in
          let a = w.ahead-is in
          let b = w.time-is in
          let s = w.saturating_add-time.ensures in
          let same : open_for (drop (i + 1) xs) q c.if-ahead-interval.ahead ≡ open_for (drop (i + 1) xs) q 0 = ap (open_for (drop (i + 1) xs) q) a in
          (omega arith, omega arith)
    ]

pub returns-else-opens-clause-stays : goal.returns-else-opens-clause-stays
returns-else-opens-clause-stays c = stays_for

pub returns-else-opens-clause-stretch : goal.returns-else-opens-clause-stretch
returns-else-opens-clause-stretch c = one_stretch

pub returns-clause-stays : goal.returns-clause-stays
returns-clause-stays c = stays_for

pub returns-clause-stretch : goal.returns-clause-stretch
returns-clause-stretch c = one_stretch
