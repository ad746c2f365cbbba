-- The first fit is found entry by entry.
use Rattle.std.proofs.Common.{◌≡◌, ℕ, zero, suc, ◌+◌, ◌-◌, ◌<◌, ◌≤◌, max, Bool, true, false, cond, leb, List, [], ◌∷◌, ◌++◌, length, get_or, take, drop, Some, None, Option, sym, refl, ap, ◌∙◌, subst, ⊎_elim, append_assoc, arith, MatchOption}
use Rattle.std.specs.List.{AllByRecursion}
use Rattle.std.proofs.lemmas.List.{take_more}
use Rattle.std.proofs.lemmas.Bool.{and_parts, cases_Bool, cases_lt, both_ways, leb-true, leb-false}
use Rattle.gates.specs.declared.entry.Entry.{Entry}
use Rattle.gates.specs.Entries.{no_entry}
use Rattle.gates.specs.Open.{opens, gates_at, stays_open}
use Rattle.gates.proofs.Stays.{zero_shut, stays_from, stays_at, at_here, at_later}
use Rattle.sending.specs.Rules.{total, well_gated}
use Rattle.list_check.specs.Serving.{FirstFit, NoFit}
use Rattle.list_check.specs.declared.fit.Cursor.{Cursor}
use Rattle.list_check.specs.Fit.{Placed, Moved, Sound, fit_from}

-- the time of the entries in front, and of those behind
pub total_split : (i : ℕ) (es : List Entry) → total (take i es) + total (drop i es) ≡ total es
total_split zero es = omega arith
total_split (suc i) [] = refl
total_split (suc i) (e ∷ es) = let h = total_split i es in omega arith

-- the gates behind the entries in front
pub gates_behind : (front rest : List Entry) (v : ℕ) → gates_at (front ++ rest) (total front + v) ≡ gates_at rest v
gates_behind [] rest v = let e : 0 + v ≡ v = omega arith in ap (gates_at rest) e
gates_behind (x ∷ xs) rest v = at_later x (xs ++ rest) (x.interval + total xs + v) (total xs + v) (omega arith) ∙ gates_behind xs rest v

-- a shut instant within e instants from u
abbrev Shut : (ℕ → Bool) → (u e : ℕ) → Type 0
Shut gate u e = (v : ℕ) × (u ≤ v) × (v < u + e) × (gate v ≡ false)

-- t is the first from c on with none
record Found (gate : ℕ → Bool) (e c t : ℕ) : Type 0 where
  onward : c ≤ t
  stays : (v : ℕ) → t ≤ v → v < t + e → gate v ≡ true
  first : (u : ℕ) → c ≤ u → u < t → Shut gate u e

abbrev Finds : (ℕ → Bool) → (e c : ℕ) → Option ℕ → Type 0
Finds gate e c r = MatchOption r ((u : ℕ) → c ≤ u → Shut gate u e) (Found gate e c)

-- from a later instant on, where all before it are shut
later : (gate : ℕ → Bool) (e c d : ℕ) (r : Option ℕ) → c ≤ d → ((u : ℕ) → c ≤ u → u < d → Shut gate u e) → Finds gate e d r → Finds gate e c r
later gate e c d None l h f = λ u k. ⊎_elim (λ (a : u < d). h u k a) (λ (a : d ≤ u). f u a) (cases_lt u d)
later gate e c d (Some t) l h f = let on = f.onward in record { onward = omega arith; stays = f.stays; first = λ u k b. ⊎_elim (λ (a : u < d). h u k a) (λ (a : d ≤ u). f.first u a b) (cases_lt u d) }

finds : (gate : ℕ → Bool) (q e : ℕ) → 0 < e → (xs : List Entry) → AllByRecursion (λ x. well_gated x ≡ true) xs → (c o : ℕ) → ((v : ℕ) → gate (o + v) ≡ opens q (gates_at xs v)) →
    ((u : ℕ) → c ≤ u → u < o → gate u ≡ true) → o < c + e → Finds gate e c (fit_from xs q e c o)
finds gate q e some [] gating c o is run short = λ u k. ⊎_elim
    (λ (a : u < o). let at : o + 0 ≡ o = omega arith in (o, omega arith, omega arith, ap gate (sym at) ∙ is 0 ∙ zero_shut q))
    (λ (a : o ≤ u). let at : o + (u - o) ≡ u = omega arith in (u, omega arith, omega arith, ap gate (sym at) ∙ is (u - o) ∙ zero_shut q))
    (cases_lt u o)
finds gate q e some (x ∷ xs) gating c o is run short =
    go (opens q x.gates) refl (leb (c + e) (o + x.interval)) refl
    (λ r s. finds gate q e some xs gating.1 c (o + x.interval) behind r s)
    (λ r s. finds gate q e some xs gating.1 (max c (o + x.interval)) (o + x.interval) behind r s)
  where
    n : ℕ
    n = o + x.interval

    takes : 1 ≤ x.interval
    takes = leb-true 1 x.interval (and_parts _ _ gating.0).0

    behind : (v : ℕ) → gate (o + x.interval + v) ≡ opens q (gates_at xs v)
    behind v = let at : o + x.interval + v ≡ o + (x.interval + v) = omega arith in ap gate at ∙ is (x.interval + v) ∙ ap (opens q) (at_later x xs (x.interval + v) v refl)

    -- inside the entry
    here : (u : ℕ) → o ≤ u → u < o + x.interval → gate u ≡ opens q x.gates
    here u a b = let at : o + (u - o) ≡ u = omega arith in ap gate (sym at) ∙ is (u - o) ∙ ap (opens q) (at_here x xs (u - o) (omega arith))

    go : (b : Bool) → opens q x.gates ≡ b → (k : Bool) → leb (c + e) (o + x.interval) ≡ k →
        (((u : ℕ) → c ≤ u → u < o + x.interval → gate u ≡ true) → o + x.interval < c + e → Finds gate e c (fit_from xs q e c (o + x.interval))) →
        (((u : ℕ) → max c (o + x.interval) ≤ u → u < o + x.interval → gate u ≡ true) → o + x.interval < max c (o + x.interval) + e → Finds gate e (max c (o + x.interval)) (fit_from xs q e (max c (o + x.interval)) (o + x.interval))) →
        Finds gate e c (cond b (cond k (Some c) (fit_from xs q e c (o + x.interval))) (fit_from xs q e (max c (o + x.interval)) (o + x.interval)))
    go true on true fit rest shut =
        let room = leb-true (c + e) (o + x.interval) fit in
        record {
          onward = omega arith;
          stays = λ v a b. ⊎_elim (λ (l : v < o). run v a l) (λ (l : o ≤ v). here v l (omega arith) ∙ on) (cases_lt v o);
          first = λ u a b. absurd (omega arith);
        }
    go true on false fit rest shut =
        let full = leb-false (c + e) (o + x.interval) fit in
        rest (λ u a b. ⊎_elim (λ (l : u < o). run u a l) (λ (l : o ≤ u). here u l b ∙ on) (cases_lt u o)) (omega arith)
    go false off k fit rest shut =
        let some_time = takes in
        later gate e c (max c (o + x.interval)) _ (omega arith)
        (λ u a b. ⊎_elim
        (λ (l : u < o). (o, omega arith, omega arith, here o (omega arith) (omega arith) ∙ off))
        (λ (l : o ≤ u). (u, omega arith, omega arith, here u l (omega arith) ∙ off))
        (cases_lt u o))
        (shut (λ u a b. absurd (omega arith)) (omega arith))

-- a shut instant ends every stay
shut_stays : (es : List Entry) (q u e : ℕ) → Shut (λ t. opens q (gates_at es t)) u e → stays_open es q u e ≡ false
shut_stays es q u e (v, a, b, off) = ⊎_elim
    (λ (h : stays_open es q u e ≡ true). let at : u + (v - u) ≡ v = omega arith in absurd (both_ways (opens q (gates_at es v)) off (ap (λ (t : ℕ). opens q (gates_at es t)) (sym at) ∙ stays_at es q u e (v - u) h (omega arith))))
    (λ h. h) (cases_Bool (stays_open es q u e))

all_behind : (P : Entry → Type 0) (front rest : List Entry) → AllByRecursion P (front ++ rest) → AllByRecursion P rest
all_behind P [] rest h = h
all_behind P (x ∷ xs) rest h = all_behind P xs rest h.1

-- what the search from a place on finds is the first fit
pub fit_found : (c : Cursor) (q from e : ℕ) → c.opened ≤ from → 0 < e → (r : Option ℕ) → fit_from c.rest.now q e from c.opened ≡ r →
    (es : List Entry) → Sound es → Placed es c → MatchOption r (NoFit es q from e) (FirstFit es q from e)
fit_found c q from e onward some r is es sound placed =
    go r (subst (Finds (λ t. opens q (gates_at es t)) e from) is
    (finds (λ t. opens q (gates_at es t)) q e some c.rest.now (all_behind (λ x. well_gated x ≡ true) placed.front c.rest.now (subst (AllByRecursion (λ x. well_gated x ≡ true)) placed.parts sound.gating)) from c.opened
    (λ v. ap (λ (l : List Entry). opens q (gates_at l (c.opened + v))) placed.parts ∙ ap (λ (o : ℕ). opens q (gates_at (placed.front ++ c.rest.now) (o + v))) placed.begins ∙ ap (opens q) (gates_behind placed.front c.rest.now v))
    (λ u a b. absurd (omega arith)) (omega arith)))
  where
    go : (r : Option ℕ) → Finds (λ t. opens q (gates_at es t)) e from r → MatchOption r (NoFit es q from e) (FirstFit es q from e)
    go None f = λ u a. shut_stays es q u e (f u a)
    go (Some t) f = record {
      onward = f.onward;
      stays = stays_from es q t e (λ v l. f.stays (t + v) (omega arith) (omega arith));
      first = λ u a b. shut_stays es q u e (f.first u a b);
    }

pub total-append : (xs ys : List Entry) → total (xs ++ ys) ≡ total xs + total ys
total-append [] ys = omega arith
total-append (x ∷ xs) ys = let h = total-append xs ys in omega arith

-- one more entry
pub total_more : (i : ℕ) (es : List Entry) → i < length es → total (take (i + 1) es) ≡ total (take i es) + (get_or es i no_entry).interval
total_more i es h = let a = ap total (take_more es i no_entry h) in let b = total-append (take i es) (get_or es i no_entry ∷ []) in omega arith

-- entries in front, and one more
pub moved_more : (front rest ns : List Entry) (e : Entry) (ms : List Entry) → rest ≡ front ++ ns → ns ≡ e ∷ ms → rest ≡ (front ++ (e ∷ [])) ++ ms
moved_more front rest ns e ms is more = is ∙ ap (λ (l : List Entry). front ++ l) more ∙ sym (append_assoc front (e ∷ []) ms)

pub moved_total : (front : List Entry) (e : Entry) → total (front ++ (e ∷ [])) ≡ total front + e.interval
moved_total front e = let h = total-append front (e ∷ []) in omega arith

-- a place that was moved on is one
pub placed_moved : (es : List Entry) (a : Cursor) (from : ℕ) (b : Cursor) → Placed es a → Moved a from b → Placed es b
placed_moved es a from b p m = record {
  front = p.front ++ m.front;
  parts = p.parts ∙ ap (λ (l : List Entry). p.front ++ l) m.parts ∙ sym (append_assoc p.front m.front b.rest.now);
  begins = let h = total-append p.front m.front in let i = p.begins in let j = m.begins in omega arith;
}
