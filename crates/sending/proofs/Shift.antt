-- A line that is given the same some time later does the same that time later.
use Rattle.std.proofs.Common.{◌≡◌, ℕ, zero, suc, ◌+◌, ◌<◌, ◌≤◌, max, Bool, true, false, cond, ◌&&◌, leb, List, [], ◌∷◌, ◌++◌, map, Some, None, sym, refl, ap, arith}
use Rattle.std.proofs.lemmas.Bool.Decides.{nat_tests}
use Rattle.std.proofs.lemmas.List.{map-append}
use Rattle.sending.proofs.Line.{Line, first, lsend, line, lstart}

module _ {P : Type 0} (wire : P → ℕ) (f : P → P) (keeps : (p : P) → wire (f p) ≡ wire p) (k : ℕ) where
  pub record Moved (l c : Line P) : Type 0 where
    pub waits : l.waiting ≡ map f c.waiting
    pub frees : max l.free k ≡ k + c.free

  same_test : (lf cf t o : ℕ) → t ≡ k + o → max lf k ≡ k + cf → leb lf t ≡ leb cf o
  same_test lf cf t o e m = grind (arith, nat_tests)

  moved-send : (fits : ℕ → Bool) (t o lf cf : ℕ) → t ≡ k + o → max lf k ≡ k + cf → (ws : List P) → Moved (lsend wire fits t lf (map f ws)) (lsend wire fits o cf ws)
  moved-send fits t o lf cf e m [] = record { waits = refl; frees = m }
  moved-send fits t o lf cf e m (p ∷ ps) = rw (same_test lf cf t o e m, keeps p) (go (leb cf o && fits (wire p)))
    where
      go : (b : Bool) → Moved (cond b (record { waiting = map f ps; free = t + wire p }) (record { waiting = f p ∷ map f ps; free = lf })) (cond b (record { waiting = ps; free = o + wire p }) (record { waiting = p ∷ ps; free = cf }))
      go true = record { waits = refl; frees = omega arith }
      go false = record { waits = refl; frees = m }

  moved-first : (fits : ℕ → Bool) (t o lf cf : ℕ) → t ≡ k + o → max lf k ≡ k + cf → (ws : List P) (p : P) → first wire fits o cf ws ≡ Some p → first wire fits t lf (map f ws) ≡ Some (f p)
  moved-first fits t o lf cf e m [] p h = let z : ◌≡◌ {A = ℕ} 0 1 = cc in absurd (omega arith)
  moved-first fits t o lf cf e m (w ∷ ws) p h = rw (same_test lf cf t o e m, keeps w) (go (leb cf o && fits (wire w)) h)
    where
      go : (b : Bool) → cond b (Some w) None ≡ Some p → cond b (Some (f w)) None ≡ Some (f p)
      go true h = let same : w ≡ p = cc in ap (λ (x : P). Some (f x)) same
      go false h = let z : ◌≡◌ {A = ℕ} 0 1 = cc in absurd (omega arith)

  module _ (fits fits' : ℕ → ℕ → Bool) (arr arr' : ℕ → List P) (far : ℕ)
      (same-fits : (o : ℕ) → o < far → fits (k + o) ≡ fits' o) (same-arr : (o : ℕ) → o < far → arr (k + o) ≡ map f (arr' o))
      (start : Moved (line wire fits arr k) (line wire fits' arr' 0)) where
    pub moved-line : (o : ℕ) → o ≤ far → (t : ℕ) → t ≡ k + o → Moved (line wire fits arr t) (line wire fits' arr' o)
    moved-line zero h t e = let z : t ≡ k = omega arith in rw z start
    moved-line (suc o) h zero e = absurd (omega arith)
    moved-line (suc o) h (suc t) e =
        let te : t ≡ k + o = omega arith in
        let m = moved-line o (omega arith) t te in
        let fe : fits t ≡ fits' o = rw te (same-fits o (omega arith)) in
        let ae : arr t ≡ map f (arr' o) = rw te (same-arr o (omega arith)) in
        let ws : (line wire fits arr t).waiting ++ arr t ≡ map f ((line wire fits' arr' o).waiting ++ arr' o) = rw (m.waits, ae) (sym (map-append f (line wire fits' arr' o).waiting (arr' o))) in
        rw (ws, fe) (moved-send (fits' o) t o (line wire fits arr t).free (line wire fits' arr' o).free te m.frees ((line wire fits' arr' o).waiting ++ arr' o))

    pub moved_start : (o : ℕ) → o < far → (t : ℕ) → t ≡ k + o → (p : P) → lstart wire fits' arr' o ≡ Some p → lstart wire fits arr t ≡ Some (f p)
    moved_start o h t te p e =
        let m = moved-line o (omega arith) t te in
        let fe : fits t ≡ fits' o = rw te (same-fits o (omega arith)) in
        let ae : arr t ≡ map f (arr' o) = rw te (same-arr o (omega arith)) in
        let ws : (line wire fits arr t).waiting ++ arr t ≡ map f ((line wire fits' arr' o).waiting ++ arr' o) = rw (m.waits, ae) (sym (map-append f (line wire fits' arr' o).waiting (arr' o))) in
        rw (ws, fe) (moved-first (fits' o) t o (line wire fits arr t).free (line wire fits' arr' o).free te m.frees ((line wire fits' arr' o).waiting ++ arr' o) p e)
