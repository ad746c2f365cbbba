-- A line of a sheet's text and its one spelling. Assumes nothing.
use Rattle.std.proofs.Common.{◌≡◌, ℕ, ◌+◌, ◌^◌, ◌<◌, ◌≤◌, Bool, true, ◌&&◌, eqb, ltb, leb, List, [], ◌∷◌, ◌++◌, length, Some, None, Ok, decimal, Option, sym, refl, ap, ◌∙◌, subst, ⊎_elim, append_assoc, arith, length-append}
use Rattle.std.proofs.lemmas.Bool.{eqb-true, ltb-true, leb-true, eq-eqb, ne_eqb, and_parts, and_from, cases_Bool}
use Rattle.std.proofs.lemmas.Option.{none-some}
use Rattle.std.proofs.lemmas.Bool.Decides.{nat_tests}
use Rattle.std.proofs.lemmas.Slice.Eq.{bytes_eq-Decides}
use Rattle.std.specs.Char.{is_ascii_digit}
use Rattle.std.specs.Str.{all_ascii_digits, bytes_eq}
use Rattle.sheet.specs.declared.lines.Key.{Key}
use Rattle.sheet.specs.declared.lines.Key.TheVariants as key
use Rattle.sheet.specs.Cuts.{cut_at, behind}
use Rattle.sheet.specs.Lines.{key_text, keys, spelled, key_of, same_key, ranged}
use Rattle.sheet.specs.Ranges.{between}
use Rattle.sheet.specs.Reading.{Cursor, Keyed, with_key, keyed, line_of, first_line, next_line, expected, number_line}
use Rattle.sheet.specs.Spelling.{line_text}
use Rattle.sheet.proofs.Outcomes.{no_fault, and_then_ok, met}
use Rattle.sheet.proofs.Numerals.{between_parts, ranged_parts, ranged-made, digits_of_decimal, length_of_decimal}

-- each byte is greater than b
abbrev above : ℕ → List ℕ → Bool
above b [] = true
above b (x ∷ xs) = ltb b x && above b xs

-- where something was put in front, there was something
behind_some : (front : List ℕ) (o : Option (List ℕ × List ℕ)) (p : List ℕ × List ℕ) → behind front o ≡ Some p → (q : List ℕ × List ℕ) × (o ≡ Some q) × (◌≡◌ {A = List ℕ × List ℕ} (front ++ q.0, q.1) p)
behind_some front None p h = absurd (none-some p h)
behind_some front (Some q) p h = (q, refl, cc)

-- the two parts of a text, with the byte between them
cut_parts : (b : ℕ) (zs : List ℕ) (p : List ℕ × List ℕ) → cut_at b zs ≡ Some p → zs ≡ p.0 ++ (b ∷ p.1)
cut_parts b [] p h = absurd (none-some p h)
cut_parts b (z ∷ zs) p h =
    let joined = λ (q : List ℕ × List ℕ). q.0 ++ (b ∷ q.1) in
    ⊎_elim
    (λ e.
    let g : ◌≡◌ {A = Option (List ℕ × List ℕ)} (Some ([], zs)) (Some p) = rw e at h in
    let s : ◌≡◌ {A = List ℕ × List ℕ} ([], zs) p = cc in
    rw (eqb-true z b e) (ap joined s))
    (λ e.
    let g : behind (z ∷ []) (cut_at b zs) ≡ Some p = rw e at h in
    let q = behind_some (z ∷ []) (cut_at b zs) p g in
    ap (λ (l : List ℕ). z ∷ l) (cut_parts b zs q.0 q.1) ∙ ap joined q.2)
    (cases_Bool (eqb z b))

-- cut at the first such byte
cut_made : (b : ℕ) (xs ys : List ℕ) → above b xs ≡ true → cut_at b (xs ++ (b ∷ ys)) ≡ Some (xs, ys)
cut_made b [] ys h = rw (eq-eqb b b refl)
cut_made b (x ∷ xs) ys h =
    let p = and_parts (ltb b x) (above b xs) h in
    let l = ltb-true b x p.0 in
    rw (ne_eqb x b (λ z. omega arith), cut_made b xs ys p.1)

-- of both parts, and of digits
above-append : (b : ℕ) (xs ys : List ℕ) → above b xs ≡ true → above b ys ≡ true → above b (xs ++ ys) ≡ true
above-append b [] ys h k = k
above-append b (x ∷ xs) ys h k = let p = and_parts (ltb b x) (above b xs) h in and_from _ _ p.0 (above-append b xs ys p.1 k)

digits_above : (ds : List ℕ) → all_ascii_digits ds ≡ true → above 10 ds ≡ true
digits_above [] h = refl
digits_above (d ∷ ds) h =
    let p = and_parts (is_ascii_digit d) (all_ascii_digits ds) h in
    let a : ltb 10 d ≡ true = grind (arith, nat_tests) in
    and_from _ _ a (digits_above ds p.1)

-- a key holds neither "=" nor byte 10, is told by its bytes, and is short
record Told (k : Key) : Type 0 where
  free : above 61 (key_text k) ≡ true
  one_line : above 10 (key_text k) ≡ true
  tells_key : key_of (key_text k) ≡ Some k
  short : leb (length (key_text k)) 8 ≡ true

-- each key
told : (k : Key) → Told k
told key.Rate = record { free = refl; one_line = refl; tells_key = refl; short = refl }
told key.Flow = record { free = refl; one_line = refl; tells_key = refl; short = refl }
told key.Queue = record { free = refl; one_line = refl; tells_key = refl; short = refl }
told key.Octets = record { free = refl; one_line = refl; tells_key = refl; short = refl }
told key.Period = record { free = refl; one_line = refl; tells_key = refl; short = refl }
told key.Deadline = record { free = refl; one_line = refl; tells_key = refl; short = refl }
told key.Miss = record { free = refl; one_line = refl; tells_key = refl; short = refl }
told key.Of = record { free = refl; one_line = refl; tells_key = refl; short = refl }
told key.Weight = record { free = refl; one_line = refl; tells_key = refl; short = refl }
told key.Flows = record { free = refl; one_line = refl; tells_key = refl; short = refl }

-- bytes that spell a key are its bytes
spelled_text : (bs : List ℕ) (ks : List Key) (k : Key) → spelled bs ks ≡ Some k → bs ≡ key_text k
spelled_text bs [] k h = absurd (none-some k h)
spelled_text bs (j ∷ ks) k h =
    ⊎_elim
    (λ e. let g : ◌≡◌ {A = Option Key} (Some j) (Some k) = rw e at h in let s : j ≡ k = cc in (bytes_eq-Decides bs (key_text j)).0 e ∙ ap key_text s)
    (λ e. spelled_text bs ks k (rw e at h))
    (cases_Bool (bytes_eq bs (key_text j)))

-- what is read between two places of a text, over so many lines
pub record Passed (text : List ℕ) (lines : ℕ) (c after : Cursor) : Type 0 where
  pub rest : c.rest ≡ text ++ after.rest
  pub line : after.line ≡ c.line + lines

-- a line with these bytes for its number
abbrev line_bytes : Key → List ℕ → List ℕ
line_bytes k bs = key_text k ++ (61 ∷ (bs ++ (10 ∷ [])))

-- up to its end
regroup : (k : Key) (bs rest : List ℕ) → line_bytes k bs ++ rest ≡ (key_text k ++ (61 ∷ bs)) ++ (10 ∷ rest)
regroup k bs rest = simp append_assoc

-- the key and the bytes of the number
with_key_ok : (m : ℕ) (o : Option Key) (bs : List ℕ) (l : Keyed) → with_key m o bs ≡ Ok l → (o ≡ Some l.key) × (bs ≡ l.number)
with_key_ok m None bs l h = absurd (no_fault _ l h)
with_key_ok m (Some k) bs l h = let e : record { key = k; number = bs } ≡ l = cc in (ap (λ (x : Keyed). Some x.key) e, ap (λ (x : Keyed). x.number) e)

-- the line without its end
keyed_ok : (m : ℕ) (bs : List ℕ) (o : Option (List ℕ × List ℕ)) (l : Keyed) → cut_at 61 bs ≡ o → keyed m o ≡ Ok l → bs ≡ key_text l.key ++ (61 ∷ l.number)
keyed_ok m bs None l cut h = absurd (no_fault _ l h)
keyed_ok m bs (Some p) l cut h =
    let q = with_key_ok m (key_of p.0) p.1 l h in
    cut_parts 61 bs p cut ∙ ap (λ (xs : List ℕ). xs ++ (61 ∷ p.1)) (spelled_text p.0 keys l.key q.0) ∙ ap (λ (ys : List ℕ). key_text l.key ++ (61 ∷ ys)) q.1

-- the line with its end
first_ok : (c : Cursor) (o : Option (List ℕ × List ℕ)) (s : Keyed × Cursor) → cut_at 10 c.rest ≡ o → first_line c.line o ≡ Ok s → Passed (line_bytes s.0.key s.0.number) 1 c s.1
first_ok c None s cut h = absurd (no_fault _ s h)
first_ok c (Some p) s cut h =
    let q = and_then_ok (line_of c.line p.0) _ _ h in
    let e : ◌≡◌ {A = Keyed × Cursor} (q.0, record { rest = p.1; line = c.line + 1 }) s = cc in
    let t = keyed_ok c.line p.0 (cut_at 61 p.0) q.0 refl q.1 in
    let all : c.rest ≡ line_bytes q.0.key q.0.number ++ p.1 = cut_parts 10 c.rest p cut ∙ ap (λ (xs : List ℕ). xs ++ (10 ∷ p.1)) t ∙ sym (regroup q.0.key q.0.number p.1) in
    subst (λ (s : Keyed × Cursor). Passed (line_bytes s.0.key s.0.number) 1 c s.1) e (record { rest = all; line = refl })

-- the next line
next_parts : (c : Cursor) (s : Keyed × Cursor) → next_line c ≡ Ok s → Passed (line_bytes s.0.key s.0.number) 1 c s.1
next_parts c s h = first_ok c (cut_at 10 c.rest) s refl h

-- and each such line is read
next-made : (k : Key) (bs : List ℕ) (c after : Cursor) → above 10 bs ≡ true → Passed (line_bytes k bs) 1 c after → next_line c ≡ Ok (record { key = k; number = bs }, after)
next-made k bs c after one p =
    let free : above 10 (key_text k ++ (61 ∷ bs)) ≡ true = above-append 10 (key_text k) (61 ∷ bs) (told k).one_line one in
    let end = ap (cut_at 10) (p.rest ∙ regroup k bs after.rest) ∙ cut_made 10 (key_text k ++ (61 ∷ bs)) after.rest free in
    let eq = cut_made 61 (key_text k) bs (told k).free in
    rw (end, eq, (told k).tells_key, ← p.line)

-- one text after another
pub passed_then : {t u : List ℕ} {j k : ℕ} {a b c : Cursor} → Passed t j a b → Passed u k b c → Passed (t ++ u) (j + k) a c
passed_then {t} {u} {j} {k} {a} {b} {c} p q =
    record {
      rest = p.rest ∙ ap (λ (l : List ℕ). t ++ l) q.rest ∙ sym (append_assoc t u c.rest);
      line = let x = p.line in let y = q.line in omega arith;
    }

-- and back
pub passed_split : (t u : List ℕ) (j k : ℕ) (a c : Cursor) → Passed (t ++ u) (j + k) a c → (b : Cursor) × Passed t j a b × Passed u k b c
passed_split t u j k a c p =
    let x = p.line in
    (record { rest = u ++ c.rest; line = a.line + j }, record { rest = p.rest ∙ append_assoc t u c.rest; line = refl }, record { rest = refl; line = omega arith })

-- a line with this key and a number between low and high
pub record Numbered (k : Key) (low high : ℕ) (c : Cursor) (n : ℕ) (after : Cursor) : Type 0 where
  pub passed : Passed (line_text k n) 1 c after
  pub range : between low high n ≡ true

-- the next line, with the key and the number that are asked for
pub line_parts : (k : Key) (m low high n : ℕ) (c : Cursor) (s : Keyed × Cursor) → next_line c ≡ Ok s → same_key s.0.key k ≡ true → ranged m low high s.0.number ≡ Ok n → Numbered k low high c n s.1
line_parts k m low high n c s h same r =
    let p = ranged_parts m low high s.0.number n r in
    let key = (bytes_eq-Decides (key_text s.0.key) (key_text k)).0 same in
    let text : line_bytes s.0.key s.0.number ≡ line_text k n = rw (key, p.0) in
    record { passed = subst (λ (t : List ℕ). Passed t 1 c s.1) text (next_parts c s h); range = p.1 }

-- and each such line is read
pub line_made : (k : Key) (n : ℕ) (c after : Cursor) → n < 10 ^ 10 → Passed (line_text k n) 1 c after → next_line c ≡ Ok (record { key = k; number = decimal n }, after)
line_made k n c after few p = next-made k (decimal n) c after (digits_above (decimal n) (digits_of_decimal n few)) p

-- the number of a line
pub number_parts : (k : Key) (low high : ℕ) (c : Cursor) (s : ℕ × Cursor) → number_line k low high c ≡ Ok s → Numbered k low high c s.0 s.1
number_parts k low high c s h =
    let l = and_then_ok (next_line c) _ _ h in
    let b = and_then_ok (expected k c.line l.0.0) _ _ l.2 in
    let n = and_then_ok (ranged c.line low high b.0) _ _ b.2 in
    let same = met (same_key l.0.0.key k) _ _ _ b.1 in
    let bytes : l.0.0.number ≡ b.0 = cc in
    let e : ◌≡◌ {A = ℕ × Cursor} (n.0, l.0.1) s = cc in
    subst (λ (s : ℕ × Cursor). Numbered k low high c s.0 s.1) e (line_parts k c.line low high n.0 c l.0 l.1 same.0 (ap (ranged c.line low high) bytes ∙ n.1))

-- and each such number is read
pub number_made : (k : Key) (low high n : ℕ) (c after : Cursor) → high < 10 ^ 10 → Numbered k low high c n after → number_line k low high c ≡ Ok (n, after)
number_made k low high n c after few p =
    let in-it = between_parts low high n p.range in
    let next = line_made k n c after (omega arith) p.passed in
    let same = (bytes_eq-Decides (key_text k) (key_text k)).1 refl in
    let read = ranged-made c.line low high n few p.range in
    rw (next, same, read)

-- a line is short
pub line_short : (k : Key) (n : ℕ) → n < 10 ^ 10 → length (line_text k n) ≤ 20
line_short k n few =
    let name = leb-true (length (key_text k)) 8 (told k).short in
    let number = length_of_decimal n few in
    omega (arith, length-append (key_text k) (61 ∷ (decimal n ++ (10 ∷ []))), length-append (decimal n) (10 ∷ []))

-- with a number in a range
pub ranged_short : (k : Key) (low high n : ℕ) → high < 10 ^ 10 → between low high n ≡ true → length (line_text k n) ≤ 20
ranged_short k low high n few h = let p = between_parts low high n h in line_short k n (omega arith)
