-- One entry after another.
use Rattle.std.proofs.Common.{◌≡◌, ◌+◌, true, List, [], ◌∷◌, ◌++◌, get_or, take, drop, None, Err, sym, ap, ◌∙◌, subst, arith}
use Rattle.std.proofs.lemmas.Result.{err_from_is_err_and}
use Rattle.std.proofs.lemmas.List.{at_drop_more, take_more}
use Rattle.gates.specs.declared.entry.Entry.{Entry}
use Rattle.gates.specs.Entries.{no_entry}
use Rattle.sheet.specs.Contents.{traffic_of}
use Rattle.sending.specs.Rules.{entry_broken, or_else, entries_broken}
use Rattle.list_check.specs.Faults.{outcome_of}
use Rattle.list_check.specs.Named.{known}
use Rattle.list_check.proofs.Judging.{unbroken, first_outcome}
use Rattle.list_check.proofs.rules.check_entries.Goals as goal

pub returns-in_err-check : goal.returns-in_err-check
returns-in_err-check c =
    let s = traffic_of c.args.sheet.now in
    let xs = c.args.list.now in
    let i = c.loop-at.at in
    let x = get_or xs i no_entry in
    let step : entries_broken s (take i xs) (drop i xs) ≡ or_else (entry_broken s (take i xs) x) (entries_broken s (take i xs ++ (x ∷ [])) (drop (i + 1) xs)) = at_drop_more (entries_broken s (take i xs)) xs i no_entry c.loop-at-test.true in
    let p = err_from_is_err_and c.from_residual.result c.from_residual.ensures.1 in
    let read : c.new.result.entries.now ≡ take i xs = grind arith in
    let here : Err c.in_err-check.field-0.0 ≡ outcome_of (entry_broken s (take i xs) x) = c.in_err-check.ensures ∙ ap (λ (l : List Entry). outcome_of (entry_broken s l x)) read in
    rw (p.1, p.2) (first_outcome _ _ _ here ∙ ap outcome_of (sym step ∙ c.loop-at.invariant.0))

pub loop-at-preserved : goal.loop-at-preserved
loop-at-preserved c =
    let s = traffic_of c.args.sheet.now in
    let xs = c.args.list.now in
    let i = c.loop-at.at in
    let x = get_or xs i no_entry in
    let step : entries_broken s (take i xs) (drop i xs) ≡ or_else (entry_broken s (take i xs) x) (entries_broken s (take i xs ++ (x ∷ [])) (drop (i + 1) xs)) = at_drop_more (entries_broken s (take i xs)) xs i no_entry c.loop-at-test.true in
    let front : take (i + 1) xs ≡ take i xs ++ (x ∷ []) = take_more xs i no_entry c.loop-at-test.true in
    let read : c.new.result.entries.now ≡ take i xs = grind arith in
    let none : entry_broken s (take i xs) x ≡ None = unbroken (entry_broken s (take i xs) x) (c.in_ok-check.ensures ∙ ap (λ (l : List Entry). outcome_of (entry_broken s l x)) read) in
    let here : entries_broken s (take i xs) (drop i xs) ≡ entries_broken s (take i xs ++ (x ∷ [])) (drop (i + 1) xs) = rw none at step in (
      ap (λ (l : List Entry). entries_broken s l (drop (i + 1) xs)) front ∙ sym here ∙ c.loop-at.invariant.0,
      subst (λ (l : List Entry). known c.note.new.latest l ≡ true) (sym front) (c.note.ensures (take i xs) c.loop-at.invariant.1),
      c.note.array_long,
    )
