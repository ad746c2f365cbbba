-- One call of the reader after another. Assumes nothing.
use Rattle.std.proofs.Common.{◌≡◌, ℕ, true, false, cond, Ok, Err, Result, sym, ap, ◌∙◌, ⊎_elim}
use Rattle.std.proofs.lemmas.Bool.{cases_Bool}
use Rattle.sheet.specs.declared.faults.LineFault.{LineFault}
use Rattle.sheet.specs.declared.faults.LineFault.TheVariants.{Form}
use Rattle.sheet.specs.declared.lines.Key.{Key}
use Rattle.sheet.specs.declared.lines.Line.{Line}
use Rattle.sheet.specs.declared.lines.Part.{Part}
use Rattle.sheet.specs.Lines.{line_key, line_part, same_key, ranged}
use Rattle.sheet.specs.Reading.{Cursor, and_then, next_line, number_line}
use Rattle.sheet.specs.Readers.{keyed_line, Reads}
use Rattle.sheet.proofs.Outcomes.{no_fault}

-- an answer after which the cursor stands there
reads_from : {X : Type 0} (said : Result (X × Cursor) LineFault) (r : Result X LineFault) (after : Cursor) → said ≡ and_then r (λ x. Ok (x, after)) → Reads said r after
reads_from said (Ok x) after h = h
reads_from said (Err e) after h = h

-- a line with its key, and then its number
pub number_reads : (k : Key) (low high : ℕ) (c : Cursor) (l : Line) (after : Cursor) (part : Part) (r : Result ℕ LineFault) →
    next_line c ≡ Ok (keyed_line l, after) → (line_part l).line ≡ c.line →
    Ok part ≡ cond (same_key (line_key l) k) (Ok (line_part l)) (Err (Form (line_part l).line)) →
    r ≡ ranged part.line low high part.bytes.now →
    Reads (number_line k low high c) r after
number_reads k low high c l after part r next place key num = ⊎_elim
    (λ (b : same_key (line_key l) k ≡ true).
    let key-is : ◌≡◌ {A = Result Part LineFault} (Ok part) (Ok (line_part l)) = rw b at key in
    let part-is : part ≡ line_part l = cc in
    let num-is : r ≡ ranged c.line low high (line_part l).bytes.now = num ∙ ap (λ (p : Part). ranged p.line low high p.bytes.now) part-is ∙ ap (λ (m : ℕ). ranged m low high (line_part l).bytes.now) place in
    reads_from _ r after (rw (next, b, num-is)))
    (λ (b : same_key (line_key l) k ≡ false). absurd (no_fault _ part (sym (rw b at key))))
    (cases_Bool (same_key (line_key l) k))
