-- A queue of the port is a line by itself: while its gate is open the wire is busy with nothing but its own packets.
use Rattle.std.proofs.Common.{◌≡◌, ℕ, zero, suc, ◌+◌, ◌<◌, ◌≤◌, Bool, true, false, cond, ◌&&◌, eqb, leb, ◌⊎◌, List, [], ◌∷◌, ◌++◌, Some, None, Option, sym, refl, ap, ◌∙◌, subst, inl, inr, ⊎_elim, arith}
use Rattle.std.proofs.lemmas.Bool.{and_parts, cases_Bool, eqb-true, eq-eqb, leb-true, le-leb, cases_lt, both_ways}
use Rattle.sending.specs.Port.{State, begins, idle, join, send, serve, ticks}
use Rattle.sending.proofs.Line.{is, is_self, Line, first, lsend, line, lstart, lsend_shut}

pub record Same {P : Type 0} (gate : ℕ → Option ℕ) (q t : ℕ) (s : State P) (l : Line P) : Type 0 where
  pub waits : s.waiting q ≡ l.waiting
  pub behind : l.free ≤ s.free
  pub busy : (s.free ≤ t) ⊎ ((s.free ≡ l.free) ⊎ ((u : ℕ) → t ≤ u → u < s.free → is q (gate u) ≡ false))

-- an open gate that can only be r is not q
is_other : (q r : ℕ) → eqb q r ≡ false → (g : Option ℕ) → ((v : ℕ) → g ≡ Some v → v ≡ r) → is q g ≡ false
is_other q r ne None h = refl
is_other q r ne (Some v) h = ap (eqb q) (h v refl) ∙ ne

module _ {P : Type 0} (wire : P → ℕ) (gate : ℕ → Option ℕ) (fits : ℕ → ℕ → ℕ → Bool) (comes : ℕ → ℕ → List P) where
  abbrev pub qfits : (q t e : ℕ) → Bool
  qfits q t e = is q (gate t) && fits t q e

  abbrev pub alone : (q t : ℕ) → Line P
  alone q t = line wire (qfits q) (λ u. comes u q) t

  module _ (hold : (t q e : ℕ) → fits t q e ≡ true → (u : ℕ) → t ≤ u → u < t + e → (r : ℕ) → gate u ≡ Some r → r ≡ q) where
    -- the tests of the wire agree while the gate is open
    same_free : (q t : ℕ) (s : State P) (l : Line P) → Same gate q t s l → is q (gate t) ≡ true → leb s.free t ≡ leb l.free t
    same_free q t s l m here = ⊎_elim (λ h. le-leb s.free t h ∙ sym (le-leb l.free t (omega arith))) (λ d. ⊎_elim
        (λ e. rw e)
        (λ away. ⊎_elim (λ (h : t < s.free). absurd (both_ways (is q (gate t)) (away t (omega arith) h) here)) (λ (h : s.free ≤ t). le-leb s.free t h ∙ sym (le-leb l.free t (omega arith))) (cases_lt t s.free)) d) m.busy

    later : (q t : ℕ) (s : State P) (l : Line P) (new : ℕ → List P) → Same gate q t s l → Same gate q (suc t) (join new s) (record { waiting = l.waiting ++ new q; free = l.free })
    later q t s l new m = record {
      waits = ap (λ (ps : List P). ps ++ new q) m.waits;
      behind = m.behind;
      busy = ⊎_elim (λ h. inl (omega arith)) (λ d. ⊎_elim (λ e. inr (inl e)) (λ away. inr (inr (λ u h k. away u (omega arith) k))) d) m.busy;
    }

    -- another queue is served
    other : (q r t : ℕ) → eqb q r ≡ false → (s : State P) (l : Line P) → Same gate q (suc t) s l → (ws : List P) → Same gate q (suc t) (serve wire (fits t r) t r s ws).after l
    other q r t ne s l m [] = m
    other q r t ne s l m (p ∷ ps) = go (leb s.free t && fits t r (wire p)) refl
      where
        go : (b : Bool) → (leb s.free t && fits t r (wire p)) ≡ b → Same gate q (suc t) (cond b (record { after = record { waiting = λ v. cond (eqb v r) ps (s.waiting v); free = t + wire p }; start = Some p }) (idle s)).after l
        go false e = m
        go true e =
            let both = and_parts (leb s.free t) (fits t r (wire p)) e in
            let early : s.free ≤ t = leb-true s.free t both.0 in
            record {
              waits = ap (λ (b : Bool). cond b ps (s.waiting q)) ne ∙ m.waits;
              behind = let b = m.behind in omega arith;
              busy = inr (inr (λ u h k. is_other q r ne (gate u) (hold t r (wire p) both.1 u (omega arith) k)));
            }

    -- the queue itself is served
    own : (q t : ℕ) → gate t ≡ Some q → (s : State P) (l : Line P) → leb s.free t ≡ leb l.free t → Same gate q (suc t) s l → (ws : List P) → l.waiting ≡ ws → Same gate q (suc t) (serve wire (fits t q) t q s ws).after (lsend wire (qfits q t) t l.free ws)
    own q t g s l fe m [] e = record { waits = m.waits ∙ e; behind = m.behind; busy = m.busy }
    own q t g s l fe m (p ∷ ps) e = rw (sym tests) (go (leb s.free t && fits t q (wire p)))
      where
        opens : is q (gate t) ≡ true
        opens = is_self q (gate t) g

        tests : (leb s.free t && fits t q (wire p)) ≡ (leb l.free t && (is q (gate t) && fits t q (wire p)))
        tests = rw (fe, opens)

        go : (b : Bool) → Same gate q (suc t) (cond b (record { after = record { waiting = λ v. cond (eqb v q) ps (s.waiting v); free = t + wire p }; start = Some p }) (idle s)).after (cond b (record { waiting = ps; free = t + wire p }) (record { waiting = p ∷ ps; free = l.free }))
        go false = record { waits = m.waits ∙ e; behind = m.behind; busy = m.busy }
        go true = record { waits = ap (λ (b : Bool). cond b ps (s.waiting q)) (eq-eqb q q refl); behind = omega arith; busy = inr (inl refl) }

    step : (q t : ℕ) (g : Option ℕ) → gate t ≡ g → (s : State P) (l : Line P) → Same gate q t s l → Same gate q (suc t) (send wire (fits t) t g (join (comes t) s)).after (lsend wire (qfits q t) t l.free (l.waiting ++ comes t q))
    step q t None e s l m =
        let shut : lsend wire (qfits q t) t l.free (l.waiting ++ comes t q) ≡ record { waiting = l.waiting ++ comes t q; free = l.free } = lsend_shut wire (qfits q t) t l.free (l.waiting ++ comes t q) (λ w. rw e) in
        rw shut (later q t s l (comes t) m)
    step q t (Some r) e s l m = ⊎_elim
        (λ (y : eqb q r ≡ true).
        let same : q ≡ r = eqb-true q r y in
        let g : gate t ≡ Some q = rw same e in
        rw (← same) (subst (λ (ws : List P). Same gate q (suc t) (serve wire (fits t q) t q (join (comes t) s) ws).after (lsend wire (qfits q t) t l.free (l.waiting ++ comes t q))) (sym (ap (λ (ws : List P). ws ++ comes t q) m.waits))
        (own q t g (join (comes t) s) (record { waiting = l.waiting ++ comes t q; free = l.free }) (same_free q t s l m (is_self q (gate t) g)) (later q t s l (comes t) m) (l.waiting ++ comes t q) refl)))
        (λ (y : eqb q r ≡ false).
        let shut : lsend wire (qfits q t) t l.free (l.waiting ++ comes t q) ≡ record { waiting = l.waiting ++ comes t q; free = l.free } = lsend_shut wire (qfits q t) t l.free (l.waiting ++ comes t q) (λ w. rw (e, y)) in
        rw shut (other q r t y (join (comes t) s) _ (later q t s l (comes t) m) (s.waiting r ++ comes t r)))
        (cases_Bool (eqb q r))

    pub is-alone : (q t : ℕ) → Same gate q t (ticks wire gate fits comes t) (alone q t)
    is-alone q zero = record { waits = refl; behind = omega arith; busy = inl (omega arith) }
    is-alone q (suc t) = step q t (gate t) refl (ticks wire gate fits comes t) (alone q t) (is-alone q t)

    -- what starts is what the line of the open gate starts
    first-same : (q t : ℕ) → gate t ≡ Some q → (s : State P) (f : ℕ) (ws : List P) → leb s.free t ≡ leb f t → (serve wire (fits t q) t q s ws).start ≡ first wire (qfits q t) t f ws
    first-same q t g s f [] fe = refl
    first-same q t g s f (p ∷ ps) fe = rw (sym tests) (go (leb s.free t && fits t q (wire p)))
      where
        tests : (leb s.free t && fits t q (wire p)) ≡ (leb f t && (is q (gate t) && fits t q (wire p)))
        tests = rw (fe, is_self q (gate t) g)

        go : (b : Bool) → (cond b (record { after = record { waiting = λ v. cond (eqb v q) ps (s.waiting v); free = t + wire p }; start = Some p }) (idle s)).start ≡ cond b (Some p) None
        go true = refl
        go false = refl

    pub begins_shut : (t : ℕ) → gate t ≡ None → begins wire gate fits comes t ≡ None
    begins_shut t e = ap (λ (g : Option ℕ). (send wire (fits t) t g (join (comes t) (ticks wire gate fits comes t))).start) e

    pub begins-alone : (q t : ℕ) → gate t ≡ Some q → begins wire gate fits comes t ≡ lstart wire (qfits q) (λ u. comes u q) t
    begins-alone q t e =
        let s = ticks wire gate fits comes t in
        let m = is-alone q t in
        let fe = same_free q t s (alone q t) m (is_self q (gate t) e) in
        ap (λ (g : Option ℕ). (send wire (fits t) t g (join (comes t) s)).start) e
        ∙ first-same q t e (join (comes t) s) (alone q t).free (s.waiting q ++ comes t q) fe
        ∙ ap (λ (ws : List P). first wire (qfits q t) t (alone q t).free (ws ++ comes t q)) m.waits
