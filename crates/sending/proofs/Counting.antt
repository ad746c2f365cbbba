-- How often a packet comes, waits and starts in a line.
use Rattle.std.proofs.Common.{◌≡◌, ℕ, zero, suc, ◌+◌, ◌<◌, ◌≤◌, Bool, true, false, cond, ◌&&◌, leb, List, [], ◌∷◌, ◌++◌, Some, None, filter, Option, sym, refl, ap, ◌∙◌, ⊎_elim, arith}
use Rattle.std.proofs.lemmas.Bool.{cases_Bool, cases_eq, cases_lt, cases_order}
use Rattle.sending.proofs.Line.{Line, first, lsend, line, lstart}
use Rattle.sending.proofs.Lagging.{Lag, level, ahead, never_later}

module _ {P : Type 0} (same : P → P → Bool) (same-is : (p r : P) → same p r ≡ true → p ≡ r) (same_self : (p : P) → same p p ≡ true) (p : P) where
  abbrev pub one : Option P → ℕ
  one None = 0
  one (Some r) = cond (same p r) 1 0

  abbrev pub count : List P → ℕ
  count [] = 0
  count (x ∷ xs) = cond (same p x) 1 0 + count xs

  abbrev pub begun : (ℕ → Option P) → ℕ → ℕ
  begun st zero = 0
  begun st (suc t) = one (st t) + begun st t

  abbrev pub came : (ℕ → List P) → ℕ → ℕ
  came arr zero = 0
  came arr (suc t) = came arr t + count (arr t)

  pub count-append : (xs ys : List P) → count (xs ++ ys) ≡ count xs + count ys
  count-append [] ys = omega arith
  count-append (x ∷ xs) ys = let h = count-append xs ys in omega arith

  pub count_kept : (keep : P → Bool) (xs : List P) → count (filter keep xs) ≡ cond (keep p) (count xs) 0
  count_kept keep [] = ⊎_elim (λ e. rw e) (λ e. rw e) (cases_Bool (keep p))
  count_kept keep (x ∷ xs) = go (same p x) refl (keep p) refl (keep x) refl (count_kept keep xs)
    where
      go : (b : Bool) → same p x ≡ b → (k : Bool) → keep p ≡ k → (l : Bool) → keep x ≡ l → count (filter keep xs) ≡ cond (keep p) (count xs) 0 → count (cond l (x ∷ filter keep xs) (filter keep xs)) ≡ cond k (cond b 1 0 + count xs) 0
      go true e true f true g h = let i : count (filter keep xs) ≡ count xs = rw f at h in rw e (omega arith)
      go true e true f false g h = let z : keep p ≡ keep x = ap keep (same-is p x e) in let y : ◌≡◌ {A = Bool} true false = cc in let w : ◌≡◌ {A = ℕ} 0 1 = cc in absurd (omega arith)
      go true e false f true g h = let z : keep p ≡ keep x = ap keep (same-is p x e) in let y : ◌≡◌ {A = Bool} true false = cc in let w : ◌≡◌ {A = ℕ} 0 1 = cc in absurd (omega arith)
      go true e false f false g h = rw f at h
      go false e true f true g h = let i : count (filter keep xs) ≡ count xs = rw f at h in rw e (omega arith)
      go false e true f false g h = let i : count (filter keep xs) ≡ count xs = rw f at h in omega arith
      go false e false f true g h = let i : count (filter keep xs) ≡ 0 = rw f at h in rw e (omega arith)
      go false e false f false g h = rw f at h

  pub one_some : (o : Option P) → 0 < one o → o ≡ Some p
  one_some None h = absurd (omega arith)
  one_some (Some r) h = go (same p r) refl h
    where
      go : (b : Bool) → same p r ≡ b → 0 < cond b 1 0 → Some r ≡ Some p
      go true e h = ap (λ (x : P). Some x) (sym (same-is p r e))
      go false e h = absurd (omega arith)

  pub one-is : (o : Option P) → o ≡ Some p → one o ≡ 1
  one-is o e = rw (e, same_self p)

  pub find : (st : ℕ → Option P) (t : ℕ) → 0 < begun st t → (u : ℕ) × (u < t) × (st u ≡ Some p)
  find st zero h = absurd (omega arith)
  find st (suc t) h = ⊎_elim
      (λ (l : 0 < one (st t)). (t, omega arith, one_some (st t) l))
      (λ (l : one (st t) ≤ 0). let r = find st t (omega arith) in let rl = r.1 in (r.0, omega arith, r.2))
      (cases_lt 0 (one (st t)))

  pub begun_more : (st : ℕ → Option P) (u t : ℕ) → st u ≡ Some p → u < t → 0 < begun st t
  begun_more st u zero e h = absurd (omega arith)
  begun_more st u (suc t) e h = ⊎_elim
      (λ (l : u ≡ t). let o : one (st t) ≡ 1 = one-is (st t) (rw l at e) in omega arith)
      (λ l. let k = begun_more st u t e (omega arith) in omega arith)
      (cases_eq u t)

  pub only_once : (st : ℕ → Option P) → ((t : ℕ) → begun st t ≤ 1) → (u v : ℕ) → st u ≡ Some p → st v ≡ Some p → u ≡ v
  only_once st few u v e f = ⊎_elim (λ h. h) (λ d. absurd (⊎_elim (λ h. twice u v e f h) (λ h. twice v u f e h) d)) (cases_order u v)
    where
      twice : (u v : ℕ) → st u ≡ Some p → st v ≡ Some p → u < v → ⊥
      twice u v e f h = let k = begun_more st u v e h in let o = one-is (st v) f in let l = few (suc v) in omega arith

  -- a packet comes at one instant only
  module _ (arr : ℕ → List P) (a : ℕ) (only : (u : ℕ) → (u ≡ a → ⊥) → count (arr u) ≡ 0) where
    pub came_not : (t : ℕ) → t ≤ a → came arr t ≡ 0
    came_not zero h = refl
    came_not (suc t) h = let k = came_not t (omega arith) in let o = only t (λ e. omega arith) in omega arith

    pub came-then : (t : ℕ) → a < t → came arr t ≡ count (arr a)
    came-then zero h = absurd (omega arith)
    came-then (suc t) h = ⊎_elim
        (λ (e : t ≡ a). let k = came_not t (omega arith) in let c : count (arr t) ≡ count (arr a) = ap (λ (n : ℕ). count (arr n)) e in omega arith)
        (λ n. let k = came-then t (omega arith) in let o = only t n in omega arith)
        (cases_eq t a)

  module _ (wire : P → ℕ) where
    conserve_send : (fits : ℕ → Bool) (t f : ℕ) (ws : List P) → one (first wire fits t f ws) + count (lsend wire fits t f ws).waiting ≡ count ws
    conserve_send fits t f [] = refl
    conserve_send fits t f (x ∷ xs) = go (leb f t && fits (wire x))
      where
        go : (b : Bool) → one (cond b (Some x) None) + count (cond {A = Line P} b (record { waiting = xs; free = t + wire x }) (record { waiting = x ∷ xs; free = f })).waiting ≡ cond (same p x) 1 0 + count xs
        go true = refl
        go false = omega arith

    -- what came has started or waits
    pub conserve : (fits : ℕ → ℕ → Bool) (arr : ℕ → List P) (t : ℕ) → begun (lstart wire fits arr) t + count (line wire fits arr t).waiting ≡ came arr t
    conserve fits arr zero = refl
    conserve fits arr (suc t) =
        let now = conserve_send (fits t) t (line wire fits arr t).free ((line wire fits arr t).waiting ++ arr t) in
        let parts = count-append (line wire fits arr t).waiting (arr t) in
        let past = conserve fits arr t in
        omega arith

    lag_count : (keep : P → Bool) (t : ℕ) (s all : Line P) → Lag wire keep t s all → count s.waiting ≤ count (filter keep all.waiting)
    lag_count keep t s all (level e f) = rw e (omega arith)
    lag_count keep t s all (ahead gone last e f) = let c = ap count e in let d = count-append gone (last ∷ s.waiting) in omega arith

    pub kept_few : (keep : P → Bool) (xs : List P) → count (filter keep xs) ≤ count xs
    kept_few keep xs = let h = count_kept keep xs in ⊎_elim (λ e. let i : count (filter keep xs) ≡ count xs = rw e at h in omega arith) (λ e. let i : count (filter keep xs) ≡ 0 = rw e at h in omega arith) (cases_Bool (keep p))

    -- a packet that comes once and starts at t among all starts among those that turned up, once, and no later
    pub no_later : (fits : ℕ → ℕ → Bool) (arr : ℕ → List P) (keep : P → Bool) (a t : ℕ) → ((u : ℕ) → (u ≡ a → ⊥) → count (arr u) ≡ 0) → count (arr a) ≡ 1 → keep p ≡ true →
        lstart wire fits arr t ≡ Some p →
        (u : ℕ) × (u ≤ t) × (a ≤ u) × (lstart wire fits (λ v. filter keep (arr v)) u ≡ Some p) × ((v : ℕ) → lstart wire fits (λ v. filter keep (arr v)) v ≡ Some p → v ≡ u)
    no_later fits arr keep a t only once up e =
        let few : ℕ → List P = λ v. filter keep (arr v) in
        let all-c = conserve fits arr (suc t) in
        let started : 0 < begun (lstart wire fits arr) (suc t) = begun_more (lstart wire fits arr) t (suc t) e (omega arith) in
        let at_most : came arr (suc t) ≤ 1 = ⊎_elim (λ (h : a < suc t). let k = came-then arr a only (suc t) h in omega arith) (λ (h : suc t ≤ a). let k = came_not arr a only (suc t) h in omega arith) (cases_lt a (suc t)) in
        let reached : a < suc t = ⊎_elim (λ (h : a < suc t). h) (λ (h : suc t ≤ a). let k = came_not arr a only (suc t) h in absurd (omega arith)) (cases_lt a (suc t)) in
        let lag = lag_count keep (suc t) (line wire fits few (suc t)) (line wire fits arr (suc t)) (never_later wire fits keep arr (suc t)) in
        let fewer = kept_few keep (line wire fits arr (suc t)).waiting in
        let none-waits : count (line wire fits few (suc t)).waiting ≡ 0 = omega arith in
        let only-few : (u : ℕ) → (u ≡ a → ⊥) → count (few u) ≡ 0 = λ u n. let k = kept_few keep (arr u) in let o = only u n in omega arith in
        let here : count (few a) ≡ 1 = count_kept keep (arr a) ∙ rw up once in
        let few-c = conserve fits few (suc t) in
        let few-came : came few (suc t) ≡ count (few a) = came-then few a only-few (suc t) reached in
        let found = find (lstart wire fits few) (suc t) (omega arith) in
        let at-most-few : (v : ℕ) → begun (lstart wire fits few) v ≤ 1 = λ v. let c = conserve fits few v in ⊎_elim (λ (h : a < v). let k = came-then few a only-few v h in omega arith) (λ (h : v ≤ a). let k = came_not few a only-few v h in omega arith) (cases_lt a v) in
        let u = found.0 in
        let ut = found.1 in
        let after : a ≤ u = ⊎_elim (λ (h : u < a). let k = came_not few a only-few (suc u) h in let c = conserve fits few (suc u) in let b = begun_more (lstart wire fits few) u (suc u) found.2 (omega arith) in absurd (omega arith)) (λ (h : a ≤ u). h) (cases_lt u a) in
        (u, omega arith, after, found.2, λ v f. only_once (lstart wire fits few) at-most-few v u f found.2)
