-- The run of a port as it is: what waits and starts came, and the wire is taken by one packet at a time.
use Rattle.std.proofs.Common.{◌≡◌, ℕ, zero, suc, ◌+◌, ◌<◌, ◌≤◌, Bool, true, false, cond, ◌&&◌, eqb, leb, List, [], ◌∷◌, Some, None, Option, refl, ap, subst, ⊎_elim, arith}
use Rattle.std.specs.List.{AllByRecursion}
use Rattle.std.proofs.ByRecursion.{All-append}
use Rattle.std.proofs.lemmas.Bool.{and_parts, cases_eq, leb-true}
use Rattle.sending.specs.Port.{State, Turn, idle, join, serve, send, ticks, begins}

-- what holds of all that comes holds of all that waits, and of what starts
module _ {P : Type 0} (Q : P → Type 0) (wire : P → ℕ) where
  serve_all : (fits : ℕ → Bool) (t q : ℕ) (s : State P) (ws : List P) → AllByRecursion Q ws → ((r : ℕ) → AllByRecursion Q (s.waiting r)) → (r : ℕ) → AllByRecursion Q ((serve wire fits t q s ws).after.waiting r)
  serve_all fits t q s [] a b r = b r
  serve_all fits t q s (p ∷ ps) a b r = go (leb s.free t && fits (wire p)) (eqb r q)
    where
      pick : (d : Bool) → AllByRecursion Q (cond {A = List P} d ps (s.waiting r))
      pick true = a.1
      pick false = b r

      go : (c : Bool) (d : Bool) → AllByRecursion Q ((cond {A = Turn P} c (record { after = record { waiting = λ v. cond (eqb v q) ps (s.waiting v); free = t + wire p }; start = Some p }) (idle s)).after.waiting r)
      go true d = pick (eqb r q)
      go false d = b r

  serve_start : (fits : ℕ → Bool) (t q : ℕ) (s : State P) (ws : List P) (p : P) → AllByRecursion Q ws → (serve wire fits t q s ws).start ≡ Some p → Q p
  serve_start fits t q s [] p a e = let z : ◌≡◌ {A = ℕ} 0 1 = cc in absurd (omega arith)
  serve_start fits t q s (w ∷ ws) p a e = go (leb s.free t && fits (wire w)) e
    where
      go : (c : Bool) → (cond {A = Turn P} c (record { after = record { waiting = λ v. cond (eqb v q) ws (s.waiting v); free = t + wire w }; start = Some w }) (idle s)).start ≡ Some p → Q p
      go true h = let same : w ≡ p = cc in subst Q same a.0
      go false h = let z : ◌≡◌ {A = ℕ} 0 1 = cc in absurd (omega arith)

  send_all : (fits : ℕ → ℕ → Bool) (t : ℕ) (g : Option ℕ) (s : State P) → ((r : ℕ) → AllByRecursion Q (s.waiting r)) → (r : ℕ) → AllByRecursion Q ((send wire fits t g s).after.waiting r)
  send_all fits t None s a = a
  send_all fits t (Some q) s a = serve_all (fits q) t q s (s.waiting q) (a q) a

  send_start : (fits : ℕ → ℕ → Bool) (t : ℕ) (g : Option ℕ) (s : State P) (p : P) → ((r : ℕ) → AllByRecursion Q (s.waiting r)) → (send wire fits t g s).start ≡ Some p → Q p
  send_start fits t None s p a e = let z : ◌≡◌ {A = ℕ} 0 1 = cc in absurd (omega arith)
  send_start fits t (Some q) s p a e = serve_start (fits q) t q s (s.waiting q) p (a q) e

  module _ (gate : ℕ → Option ℕ) (fits : ℕ → ℕ → ℕ → Bool) (comes : ℕ → ℕ → List P) where
    pub ticks_all : (t : ℕ) → ((u q : ℕ) → u < t → AllByRecursion Q (comes u q)) → (q : ℕ) → AllByRecursion Q ((ticks wire gate fits comes t).waiting q)
    ticks_all zero a q = tt
    ticks_all (suc t) a q = send_all (fits t) t (gate t) (join (comes t) (ticks wire gate fits comes t))
        (λ r. All-append Q ((ticks wire gate fits comes t).waiting r) (comes t r) (ticks_all t (λ u v h. a u v (omega arith)) r) (a t r (omega arith))) q

    pub begins_all : (t : ℕ) → ((u q : ℕ) → u ≤ t → AllByRecursion Q (comes u q)) → (p : P) → begins wire gate fits comes t ≡ Some p → Q p
    begins_all t a p e = send_start (fits t) t (gate t) (join (comes t) (ticks wire gate fits comes t)) p
        (λ r. All-append Q ((ticks wire gate fits comes t).waiting r) (comes t r) (ticks_all t (λ u v h. a u v (omega arith)) r) (a t r (omega arith))) e

-- the wire is taken by one packet at a time
module _ {P : Type 0} (wire : P → ℕ) where
  pub record Takes (t : ℕ) (s : State P) (p : P) (k : Turn P) : Type 0 where
    pub was_free : s.free ≤ t
    pub is-taken : k.after.free ≡ t + wire p

  serve-takes : (fits : ℕ → Bool) (t q : ℕ) (s : State P) (ws : List P) (p : P) → (serve wire fits t q s ws).start ≡ Some p → Takes t s p (serve wire fits t q s ws)
  serve-takes fits t q s [] p e = let z : ◌≡◌ {A = ℕ} 0 1 = cc in absurd (omega arith)
  serve-takes fits t q s (w ∷ ws) p e = go (leb s.free t && fits (wire w)) refl e
    where
      go : (c : Bool) → (leb s.free t && fits (wire w)) ≡ c → (cond {A = Turn P} c (record { after = record { waiting = λ v. cond (eqb v q) ws (s.waiting v); free = t + wire w }; start = Some w }) (idle s)).start ≡ Some p →
          Takes t s p (cond {A = Turn P} c (record { after = record { waiting = λ v. cond (eqb v q) ws (s.waiting v); free = t + wire w }; start = Some w }) (idle s))
      go true h k = let same : w ≡ p = cc in record { was_free = leb-true s.free t (and_parts _ _ h).0; is-taken = ap (λ (x : P). t + wire x) same }
      go false h k = let z : ◌≡◌ {A = ℕ} 0 1 = cc in absurd (omega arith)

  serve_grows : (fits : ℕ → Bool) (t q : ℕ) (s : State P) (ws : List P) → s.free ≤ (serve wire fits t q s ws).after.free
  serve_grows fits t q s [] = omega arith
  serve_grows fits t q s (w ∷ ws) = go (leb s.free t && fits (wire w)) refl
    where
      go : (c : Bool) → (leb s.free t && fits (wire w)) ≡ c → s.free ≤ (cond {A = Turn P} c (record { after = record { waiting = λ v. cond (eqb v q) ws (s.waiting v); free = t + wire w }; start = Some w }) (idle s)).after.free
      go true h = let k = leb-true s.free t (and_parts _ _ h).0 in omega arith
      go false h = omega arith

  send-takes : (fits : ℕ → ℕ → Bool) (t : ℕ) (g : Option ℕ) (s : State P) (p : P) → (send wire fits t g s).start ≡ Some p → Takes t s p (send wire fits t g s)
  send-takes fits t None s p e = let z : ◌≡◌ {A = ℕ} 0 1 = cc in absurd (omega arith)
  send-takes fits t (Some q) s p e = serve-takes (fits q) t q s (s.waiting q) p e

  send_grows : (fits : ℕ → ℕ → Bool) (t : ℕ) (g : Option ℕ) (s : State P) → s.free ≤ (send wire fits t g s).after.free
  send_grows fits t None s = omega arith
  send_grows fits t (Some q) s = serve_grows (fits q) t q s (s.waiting q)

  module _ (gate : ℕ → Option ℕ) (fits : ℕ → ℕ → ℕ → Bool) (comes : ℕ → ℕ → List P) where
    ticks_grow : (t u : ℕ) → t ≤ u → (ticks wire gate fits comes t).free ≤ (ticks wire gate fits comes u).free
    ticks_grow t zero l = let z : t ≡ 0 = omega arith in rw z (omega arith)
    ticks_grow t (suc u) l = ⊎_elim
        (λ (e : t ≡ suc u). rw e (omega arith))
        (λ ne. let a = ticks_grow t u (omega arith) in let b = send_grows (fits u) u (gate u) (join (comes u) (ticks wire gate fits comes u)) in omega arith)
        (cases_eq t (suc u))

    pub one_at_a_time : (t u : ℕ) (p r : P) → begins wire gate fits comes t ≡ Some p → begins wire gate fits comes u ≡ Some r → t < u → t + wire p ≤ u
    one_at_a_time t u p r e f l =
        let a = send-takes (fits t) t (gate t) (join (comes t) (ticks wire gate fits comes t)) p e in
        let b = send-takes (fits u) u (gate u) (join (comes u) (ticks wire gate fits comes u)) r f in
        let c = ticks_grow (suc t) u l in
        let d = a.is-taken in
        let g = b.was_free in
        omega arith
