-- One queue by itself: a line behind a gate.
use Rattle.std.proofs.Common.{◌≡◌, ℕ, zero, suc, ◌+◌, ◌<◌, ◌≤◌, Bool, true, false, cond, ◌&&◌, eqb, leb, List, [], ◌∷◌, ◌++◌, Some, None, Option, sym, refl, ap, ◌∙◌, arith}
use Rattle.std.proofs.lemmas.Bool.{and_parts, and_right, eqb-true, eq-eqb, false≢true}

-- is this gate q
abbrev pub is : ℕ → Option ℕ → Bool
is q None = false
is q (Some r) = eqb q r

pub is_self : (q : ℕ) (g : Option ℕ) → g ≡ Some q → is q g ≡ true
is_self q g e = rw e (eq-eqb q q refl)

pub is_some : (q : ℕ) (g : Option ℕ) → is q g ≡ true → g ≡ Some q
is_some q None e = absurd (false≢true e)
is_some q (Some r) e = ap (λ (n : ℕ). Some n) (sym (eqb-true q r e))

-- what waits in one queue, and up to when the wire is taken
pub record Line (P : Type 0) : Type 0 where
  pub waiting : List P
  pub free : ℕ

-- what starts
abbrev pub first : {P : Type 0} → (P → ℕ) → (ℕ → Bool) → ℕ → ℕ → List P → Option P
first wire fits t free [] = None
first wire fits t free (p ∷ ps) = cond (leb free t && fits (wire p)) (Some p) None

-- what is left after the start
abbrev pub lsend : {P : Type 0} → (P → ℕ) → (ℕ → Bool) → ℕ → ℕ → List P → Line P
lsend wire fits t free [] = record { waiting = []; free = free }
lsend wire fits t free (p ∷ ps) = cond (leb free t && fits (wire p)) (record { waiting = ps; free = t + wire p }) (record { waiting = p ∷ ps; free = free })

-- what is left after the instants below t
abbrev pub line : {P : Type 0} → (P → ℕ) → (ℕ → ℕ → Bool) → (ℕ → List P) → ℕ → Line P
line wire fits arr zero = record { waiting = []; free = 0 }
line wire fits arr (suc t) = lsend wire (fits t) t (line wire fits arr t).free ((line wire fits arr t).waiting ++ arr t)

-- what starts at t
abbrev pub lstart : {P : Type 0} → (P → ℕ) → (ℕ → ℕ → Bool) → (ℕ → List P) → ℕ → Option P
lstart wire fits arr t = first wire (fits t) t (line wire fits arr t).free ((line wire fits arr t).waiting ++ arr t)

-- a line whose packets do not fit stays as it is
pub lsend_shut : {P : Type 0} (wire : P → ℕ) (fits : ℕ → Bool) (t f : ℕ) (ws : List P) → ((e : ℕ) → fits e ≡ false) → lsend wire fits t f ws ≡ record { waiting = ws; free = f }
lsend_shut wire fits t f [] no-fit = refl
lsend_shut wire fits t f (p ∷ ps) no-fit = let e : (leb f t && fits (wire p)) ≡ false = and_right (leb f t) (fits (wire p)) (no-fit (wire p)) in rw e

-- lines that are given the same are the same
pub line_same : {P : Type 0} (wire : P → ℕ) (fits fits' : ℕ → ℕ → Bool) (arr arr' : ℕ → List P) (t : ℕ) →
    ((u : ℕ) → u < t → fits u ≡ fits' u) → ((u : ℕ) → u < t → arr u ≡ arr' u) → line wire fits arr t ≡ line wire fits' arr' t
line_same wire fits fits' arr arr' zero f a = refl
line_same wire fits fits' arr arr' (suc t) f a =
    let before : line wire fits arr t ≡ line wire fits' arr' t = line_same wire fits fits' arr arr' t (λ u h. f u (omega arith)) (λ u h. a u (omega arith)) in
    let fe : fits t ≡ fits' t = f t (omega arith) in
    let ae : arr t ≡ arr' t = a t (omega arith) in
    cc

pub lstart-same : {P : Type 0} (wire : P → ℕ) (fits fits' : ℕ → ℕ → Bool) (arr arr' : ℕ → List P) (t : ℕ) →
    ((u : ℕ) → u < suc t → fits u ≡ fits' u) → ((u : ℕ) → u < suc t → arr u ≡ arr' u) → lstart wire fits arr t ≡ lstart wire fits' arr' t
lstart-same wire fits fits' arr arr' t f a =
    let before : line wire fits arr t ≡ line wire fits' arr' t = line_same wire fits fits' arr arr' t (λ u h. f u (omega arith)) (λ u h. a u (omega arith)) in
    let fe : fits t ≡ fits' t = f t (omega arith) in
    let ae : arr t ≡ arr' t = a t (omega arith) in
    cc

-- what starts fits
first_fits : {P : Type 0} (wire : P → ℕ) (fits : ℕ → Bool) (t f : ℕ) (ws : List P) (p : P) → first wire fits t f ws ≡ Some p → fits (wire p) ≡ true
first_fits wire fits t f [] p e = let z : ◌≡◌ {A = ℕ} 0 1 = cc in absurd (omega arith)
first_fits wire fits t f (w ∷ ws) p e = go (leb f t && fits (wire w)) refl e
  where
    go : (b : Bool) → (leb f t && fits (wire w)) ≡ b → cond b (Some w) None ≡ Some p → fits (wire p) ≡ true
    go true h k = let same : w ≡ p = cc in ap (λ x. fits (wire x)) (sym same) ∙ (and_parts (leb f t) (fits (wire w)) h).1
    go false h k = let z : ◌≡◌ {A = ℕ} 0 1 = cc in absurd (omega arith)

pub lstart-fits : {P : Type 0} (wire : P → ℕ) (fits : ℕ → ℕ → Bool) (arr : ℕ → List P) (t : ℕ) (p : P) → lstart wire fits arr t ≡ Some p → fits t (wire p) ≡ true
lstart-fits wire fits arr t p e = first_fits wire (fits t) t _ _ p e

-- where nothing fits past an instant, the wire is free by then
free_send : {P : Type 0} (wire : P → ℕ) (fits : ℕ → Bool) (t f far : ℕ) → ((e : ℕ) → fits e ≡ true → t + e ≤ far) → f ≤ far → (ws : List P) → (lsend wire fits t f ws).free ≤ far
free_send wire fits t f far h l [] = l
free_send {P} wire fits t f far h l (w ∷ ws) = go (leb f t && fits (wire w)) refl
  where
    go : (b : Bool) → (leb f t && fits (wire w)) ≡ b → (cond {A = Line P} b (record { waiting = ws; free = t + wire w }) (record { waiting = w ∷ ws; free = f })).free ≤ far
    go true e = h (wire w) (and_parts (leb f t) (fits (wire w)) e).1
    go false e = l

pub free_inside : {P : Type 0} (wire : P → ℕ) (fits : ℕ → ℕ → Bool) (arr : ℕ → List P) (far : ℕ) → ((t e : ℕ) → t < far → fits t e ≡ true → t + e ≤ far) → (t : ℕ) → t ≤ far → (line wire fits arr t).free ≤ far
free_inside wire fits arr far h zero l = omega arith
free_inside wire fits arr far h (suc t) l = free_send wire (fits t) t _ far (λ e k. h t e (omega arith) k) (free_inside wire fits arr far h t (omega arith)) ((line wire fits arr t).waiting ++ arr t)
