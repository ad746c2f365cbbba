-- The two parts.
use Rattle.std.proofs.Common.{◌≡◌, ℕ, ◌+◌, ◌-◌, List, length, take, drop, Some, sym, ap, ◌∙◌, arith, length-drop}
use Rattle.std.specs.Option.{option_map}
use Rattle.std.proofs.lemmas.List.{take_all}
use Rattle.sheet.proofs.Cutting.{parts_at, cut-at_position}
use Rattle.sheet.proofs.cuts.cut.Goals as goal

parts : (i : ℕ) (xs : List ℕ) → ◌≡◌ {A = List ℕ × List ℕ} (take (i - 0) xs, take (length xs - (i + 1)) (drop (i + 1) xs)) (parts_at xs i)
parts i xs =
    let a : i - 0 ≡ i = omega arith in
    let b : take (length xs - (i + 1)) (drop (i + 1) xs) ≡ drop (i + 1) xs = take_all _ _ (omega (arith, length-drop (i + 1) xs)) in
    rw (a, b)

pub returns-in_err-i-clause-parts : goal.returns-in_err-i-clause-parts
returns-in_err-i-clause-parts c =
    let xs = c.args.text.now in
    rw c.from_residual.ensures (ap (option_map (parts_at xs)) c.in_err-i.ensures ∙ sym (cut-at_position c.args.b xs))

pub returns-clause-parts : goal.returns-clause-parts
returns-clause-parts c =
    let xs = c.args.text.now in
    ap Some (parts c.in_ok-i.i xs) ∙ ap (option_map (parts_at xs)) c.in_ok-i.ensures ∙ sym (cut-at_position c.args.b xs)
