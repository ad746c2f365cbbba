-- Entry by entry.
use Rattle.std.proofs.Common.{◌+◌, List, get_or, take, drop, sym, subst, arith}
use Rattle.std.proofs.lemmas.List.{take_more, take_all}
use Rattle.gates.specs.declared.entry.Entry.{Entry}
use Rattle.gates.specs.Entries.{no_entry}
use Rattle.sheet.specs.Contents.{traffic_of}
use Rattle.sending.proofs.Fitting.{read_sheets_fit}
use Rattle.list_check.proofs.Gathering.{Gathered, gathered_joins, gathered_all, joins_few, entry_at}
use Rattle.list_check.proofs.Looking.{lawful_rules}
use Rattle.list_check.proofs.named.named.Goals as goal

pub loop-entry-preserved : goal.loop-entry-preserved
loop-entry-preserved c =
    let s = traffic_of c.args.lawful.sheet.now in
    let es = c.args.lawful.list.now in
    let i = c.loop-entry.entry-index in
    let e = get_or es i no_entry in
    let at = entry_at s es (lawful_rules c.args.lawful) i no_entry c.loop-entry-test.true in
    let g = gathered_joins s (read_sheets_fit s c.args.lawful.sheet.now.kept) es (take i es) (drop (i + 1) es) e at.0 at.1 c.loop-entry.named c.join.new.named c.join.ensures c.loop-entry.invariant.0 in
    let low = c.loop-entry.invariant.1 in
    let count = joins_few s e c.loop-entry.named c.join.new.named c.join.ensures in
    (subst (λ (l : List Entry). Gathered s es l c.join.new.named) (sym (take_more es i no_entry c.loop-entry-test.true)) g, omega arith)

pub returns : goal.returns
returns c =
    let s = traffic_of c.args.lawful.sheet.now in
    let es = c.args.lawful.list.now in
    let all = take_all c.loop-entry.entry-index es c.loop-entry-test.false in
    gathered_all s (read_sheets_fit s c.args.lawful.sheet.now.kept) es c.loop-entry.named (subst (λ (l : List Entry). Gathered s es l c.loop-entry.named) all c.loop-entry.invariant.0)
