-- Packets that are missing from a line delay no other.
use Rattle.std.proofs.Common.{◌≡◌, ℕ, zero, suc, ◌+◌, ◌≤◌, max, Bool, true, false, cond, ◌&&◌, leb, List, [], ◌∷◌, ◌++◌, filter, sym, refl, ap, ◌∙◌, append_assoc, arith}
use Rattle.std.proofs.lemmas.List.Elements.{filter-append}
use Rattle.std.proofs.lemmas.Bool.{leb-true, le-leb, and_parts, and_from}
use Rattle.sending.proofs.Line.{Line, lsend, line}

-- the line of the packets that turned up has sent, at each instant, all that the line of all packets has
pub data Lag {P : Type 0} (wire : P → ℕ) (keep : P → Bool) (t : ℕ) (s all : Line P) : Type 0 where
  level : s.waiting ≡ filter keep all.waiting → s.free ≤ max all.free t → Lag wire keep t s all
  ahead : (gone : List P) (last : P) → filter keep all.waiting ≡ gone ++ (last ∷ s.waiting) → s.free ≤ t + wire last → Lag wire keep t s all

kept_no : {P : Type 0} (f : P → Bool) (x : P) (xs : List P) → f x ≡ false → filter f (x ∷ xs) ≡ filter f xs
kept_no {P} f x xs e = ap (λ (b : Bool). cond b (x ∷ filter f xs) (filter f xs)) e

kept_yes : {P : Type 0} (f : P → Bool) (x : P) (xs : List P) → f x ≡ true → filter f (x ∷ xs) ≡ x ∷ filter f xs
kept_yes {P} f x xs e = ap (λ (b : Bool). cond b (x ∷ filter f xs) (filter f xs)) e

module _ {P : Type 0} (wire : P → ℕ) (fits : ℕ → ℕ → Bool) (keep : P → Bool) where
  -- after the packets of an instant have joined both lines, before the send
  joined : (t : ℕ) (new : List P) (s all : Line P) → Lag wire keep t s all → Lag wire keep t (record { waiting = s.waiting ++ filter keep new; free = s.free }) (record { waiting = all.waiting ++ new; free = all.free })
  joined t new s all (level w f) = level (ap (λ (l : List P). l ++ filter keep new) w ∙ sym (filter-append keep all.waiting new)) f
  joined t new s all (ahead gone last e f) = ahead gone last (filter-append keep all.waiting new ∙ ap (λ (l : List P). l ++ filter keep new) e ∙ append_assoc gone (last ∷ s.waiting) (filter keep new)) f

  -- what the smaller run sends keeps it level or brings it ahead
  gains : (t : ℕ) (w : List P) (f : ℕ) (all : Line P) → Lag wire keep (suc t) (record { waiting = w; free = f }) all → Lag wire keep (suc t) (lsend wire (fits t) t f w) all
  gains t [] f all lag = lag
  gains t (q ∷ qs) f all lag = go (leb f t && fits t (wire q)) lag
    where
      go : (b : Bool) → Lag wire keep (suc t) (record { waiting = q ∷ qs; free = f }) all → Lag wire keep (suc t) (cond b (record { waiting = qs; free = t + wire q }) (record { waiting = q ∷ qs; free = f })) all
      go false l = l
      go true (level e h) = ahead [] q (sym e) (omega arith)
      go true (ahead gone last e h) = ahead (gone ++ (last ∷ [])) q (e ∙ sym (append_assoc gone (last ∷ []) (q ∷ qs))) (omega arith)

  later : (t : ℕ) (s all : Line P) → Lag wire keep t s all → Lag wire keep (suc t) s all
  later t s all (level e h) = level e (omega arith)
  later t s all (ahead gone last e h) = ahead gone last e (omega arith)

  -- the larger run sends p
  loses : (t : ℕ) (w : List P) (f g : ℕ) (p : P) (ps : List P) → g ≤ t → fits t (wire p) ≡ true → (k : Bool) → keep p ≡ k → Lag wire keep t (record { waiting = w; free = f }) (record { waiting = p ∷ ps; free = g }) → Lag wire keep (suc t) (lsend wire (fits t) t f w) (record { waiting = ps; free = t + wire p })
  loses t w f g p ps gt fit false e (level d h) = gains t w f _ (level (d ∙ kept_no keep p ps e) (omega arith))
  loses t w f g p ps gt fit false e (ahead gone last d h) = gains t w f _ (ahead gone last (sym (kept_no keep p ps e) ∙ d) (omega arith))
  loses t w f g p ps gt fit true e (level d h) =
      let same : w ≡ p ∷ filter keep ps = d ∙ kept_yes keep p ps e in
      let ready : (leb f t && fits t (wire p)) ≡ true = and_from _ _ (le-leb f t (omega arith)) fit in
      let went : lsend wire (fits t) t f w ≡ record { waiting = filter keep ps; free = t + wire p } = rw (same, ready) in
      level (ap (λ (l : Line P). l.waiting) went) (let free : (lsend wire (fits t) t f w).free ≡ t + wire p = ap (λ (l : Line P). l.free) went in omega arith)
  loses t w f g p ps gt fit true e (ahead [] last d h) =
      let same : p ∷ filter keep ps ≡ last ∷ w = sym (kept_yes keep p ps e) ∙ d in
      let first : p ≡ last = cc in
      let rest : w ≡ filter keep ps = cc in
      let width : wire p ≡ wire last = ap wire first in
      gains t w f _ (level rest (omega arith))
  loses t w f g p ps gt fit true e (ahead (g0 ∷ gone) last d h) =
      let same : p ∷ filter keep ps ≡ g0 ∷ (gone ++ (last ∷ w)) = sym (kept_yes keep p ps e) ∙ d in
      let rest : filter keep ps ≡ gone ++ (last ∷ w) = cc in
      gains t w f _ (ahead gone last rest (omega arith))

  sent : (t : ℕ) (w v : List P) (f g : ℕ) → Lag wire keep t (record { waiting = w; free = f }) (record { waiting = v; free = g }) → Lag wire keep (suc t) (lsend wire (fits t) t f w) (lsend wire (fits t) t g v)
  sent t w [] f g lag = gains t w f _ (later t _ _ lag)
  sent t w (p ∷ ps) f g lag = go (leb g t && fits t (wire p)) refl
    where
      go : (b : Bool) → (leb g t && fits t (wire p)) ≡ b → Lag wire keep (suc t) (lsend wire (fits t) t f w) (cond b (record { waiting = ps; free = t + wire p }) (record { waiting = p ∷ ps; free = g }))
      go false e = gains t w f _ (later t _ _ lag)
      go true e = let both = and_parts (leb g t) (fits t (wire p)) e in loses t w f g p ps (leb-true g t both.0) both.1 (keep p) refl lag

  pub never_later : (arr : ℕ → List P) (t : ℕ) → Lag wire keep t (line wire fits (λ u. filter keep (arr u)) t) (line wire fits arr t)
  never_later arr zero = level refl (omega arith)
  never_later arr (suc t) = sent t _ _ _ _ (joined t (arr t) (line wire fits (λ u. filter keep (arr u)) t) (line wire fits arr t) (never_later arr t))
