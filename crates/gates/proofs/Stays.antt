-- How long a gate stays open.
use Rattle.std.proofs.Common.{◌≡◌, MatchOption, ℕ, zero, suc, ◌+◌, ◌-◌, ◌<◌, ◌≤◌, true, false, cond, ltb, leb, List, [], ◌∷◌, ◌++◌, sym, refl, ap, ◌∙◌, ⊎_elim, arith}
use native.Mathlib.Nat.{zero-div}
use Rattle.std.proofs.lemmas.Bool.{cases_Bool, both_ways, and_from, and_parts, lt-ltb, le-ltb, ltb-true, ltb-false, leb-true, leb-false, le-leb, cases_lt}
use Rattle.gates.specs.declared.entry.Entry.{Entry}
use Rattle.gates.specs.Open.{opens, entry_at, gates_at, stays_open, open_for}
use Rattle.gates.specs.OpenLaws.{StaysFor, OneStretch, merged}

-- with no gates none is open
pub zero_shut : (q : ℕ) → opens q 0 ≡ false
zero_shut q = rw zero-div

-- inside an entry, and behind it
pub at_here : (x : Entry) (xs : List Entry) (v : ℕ) → v < x.interval → gates_at (x ∷ xs) v ≡ x.gates
at_here x xs v h = let on : ltb v x.interval ≡ true = lt-ltb _ _ h in rw on

pub at_later : (x : Entry) (xs : List Entry) (v u : ℕ) → v ≡ x.interval + u → gates_at (x ∷ xs) v ≡ gates_at xs u
at_later x xs v u e = let off : ltb v x.interval ≡ false = le-ltb _ _ (omega arith) in let d : v - x.interval ≡ u = omega arith in rw (off, d)

-- the gates are those of the entry there
pub gates_from_entry : (xs : List Entry) (o r : ℕ) → MatchOption (entry_at xs o) (r ≡ 0) (λ p. r ≡ p.0.gates) → r ≡ gates_at xs o
gates_from_entry [] o r h = h
gates_from_entry (x ∷ xs) o r h =
    ⊎_elim
    (λ (l : ltb o x.interval ≡ true). rw l (rw l at h))
    (λ (l : ltb o x.interval ≡ false). rw l (gates_from_entry xs (o - x.interval) r (rw l at h)))
    (cases_Bool (ltb o x.interval))

-- the three ways of `open_for`
pub for_open_here : (x : Entry) (xs : List Entry) (q o : ℕ) → o < x.interval → opens q x.gates ≡ true → open_for (x ∷ xs) q o ≡ (x.interval - o) + open_for xs q 0
for_open_here x xs q o h on = let l : ltb o x.interval ≡ true = lt-ltb _ _ h in rw (l, on)

pub for_shut_here : (x : Entry) (xs : List Entry) (q o : ℕ) → o < x.interval → opens q x.gates ≡ false → open_for (x ∷ xs) q o ≡ 0
for_shut_here x xs q o h off = let l : ltb o x.interval ≡ true = lt-ltb _ _ h in rw (l, off)

pub for_later : (x : Entry) (xs : List Entry) (q o u : ℕ) → o ≡ x.interval + u → open_for (x ∷ xs) q o ≡ open_for xs q u
for_later x xs q o u e = let l : ltb o x.interval ≡ false = le-ltb _ _ (omega arith) in let d : o - x.interval ≡ u = omega arith in rw (l, d)

-- open before that time is over
pub for_open : (list : List Entry) (q o v : ℕ) → v < open_for list q o → opens q (gates_at list (o + v)) ≡ true
for_open [] q o v h = absurd (omega arith)
for_open (x ∷ xs) q o v h =
    ⊎_elim
    (λ (l : ltb o x.interval ≡ true).
    let m = ltb-true _ _ l in
    ⊎_elim
    (λ (on : opens q x.gates ≡ true).
    let k = for_open_here x xs q o m on in
    ⊎_elim
    (λ (i : ltb (o + v) x.interval ≡ true). ap (opens q) (at_here x xs (o + v) (ltb-true _ _ i)) ∙ on)
    (λ (i : ltb (o + v) x.interval ≡ false).
    let n = ltb-false _ _ i in
    let u = o + v - x.interval in
    ap (opens q) (at_later x xs (o + v) (0 + u) (omega arith)) ∙ for_open xs q 0 u (omega arith))
    (cases_Bool (ltb (o + v) x.interval)))
    (λ (off : opens q x.gates ≡ false). let k = for_shut_here x xs q o m off in absurd (omega arith))
    (cases_Bool (opens q x.gates)))
    (λ (l : ltb o x.interval ≡ false).
    let m = ltb-false _ _ l in
    let k = for_later x xs q o (o - x.interval) (omega arith) in
    ap (opens q) (at_later x xs (o + v) (o - x.interval + v) (omega arith)) ∙ for_open xs q (o - x.interval) v (omega arith))
    (cases_Bool (ltb o x.interval))

-- shut when it is over
pub for_shut : (list : List Entry) (q o : ℕ) → opens q (gates_at list (o + open_for list q o)) ≡ false
for_shut [] q o = zero_shut q
for_shut (x ∷ xs) q o =
    ⊎_elim
    (λ (l : ltb o x.interval ≡ true).
    let m = ltb-true _ _ l in
    ⊎_elim
    (λ (on : opens q x.gates ≡ true).
    let k = for_open_here x xs q o m on in
    ap (opens q) (at_later x xs (o + open_for (x ∷ xs) q o) (0 + open_for xs q 0) (omega arith)) ∙ for_shut xs q 0)
    (λ (off : opens q x.gates ≡ false).
    let k = for_shut_here x xs q o m off in
    ap (opens q) (at_here x xs (o + open_for (x ∷ xs) q o) (omega arith)) ∙ off)
    (cases_Bool (opens q x.gates)))
    (λ (l : ltb o x.interval ≡ false).
    let m = ltb-false _ _ l in
    let u = o - x.interval in
    let k = for_later x xs q o u (omega arith) in
    ap (opens q) (at_later x xs (o + open_for (x ∷ xs) q o) (u + open_for xs q u) (omega arith)) ∙ for_shut xs q u)
    (cases_Bool (ltb o x.interval))

-- open at each instant, and so over all; and the other way
pub stays_from : (list : List Entry) (q o e : ℕ) → ((v : ℕ) → v < e → opens q (gates_at list (o + v)) ≡ true) → stays_open list q o e ≡ true
stays_from list q o zero h = refl
stays_from list q o (suc e) h =
    let now : o + 0 ≡ o = omega arith in
    and_from _ _ (rw now at (h 0 (omega arith)))
    (stays_from list q (o + 1) e (λ v l. let at : o + (v + 1) ≡ o + 1 + v = omega arith in rw at at (h (v + 1) (omega arith))))

pub stays_at : (list : List Entry) (q o e v : ℕ) → stays_open list q o e ≡ true → v < e → opens q (gates_at list (o + v)) ≡ true
stays_at list q o zero v h l = absurd (omega arith)
stays_at list q o (suc e) zero h l = let now : o + 0 ≡ o = omega arith in rw now (and_parts _ _ h).0
stays_at list q o (suc e) (suc v) h l = let at : o + suc v ≡ o + 1 + v = omega arith in rw at (stays_at list q (o + 1) e v (and_parts _ _ h).1 (omega arith))

pub stays_for : StaysFor
stays_for list q o e =
    ⊎_elim
    (λ (on : leb e (open_for list q o) ≡ true).
    let h = leb-true _ _ on in
    stays_from list q o e (λ v l. for_open list q o v (omega arith)) ∙ sym on)
    (λ (off : leb e (open_for list q o) ≡ false).
    let h = leb-false _ _ off in
    ⊎_elim
    (λ (x : stays_open list q o e ≡ true). absurd (both_ways _ (for_shut list q o) (stays_at list q o e (open_for list q o) x h)))
    (λ (x : stays_open list q o e ≡ false). x ∙ sym off)
    (cases_Bool (stays_open list q o e)))
    (cases_Bool (leb e (open_for list q o)))

-- lists with the same gates at each offset have gates that stay open equally long
stays_like : (list other : List Entry) → ((v : ℕ) → gates_at list v ≡ gates_at other v) → (q o e : ℕ) → stays_open list q o e ≡ stays_open other q o e
stays_like list other same q o zero = refl
stays_like list other same q o (suc e) =
    let here = same o in
    let later = stays_like list other same q (o + 1) e in
    rw (here, later)

pub for_like : (list other : List Entry) → ((v : ℕ) → gates_at list v ≡ gates_at other v) → (q o : ℕ) → open_for list q o ≡ open_for other q o
for_like list other same q o =
    let a = open_for list q o in
    let b = open_for other q o in
    let tests : (e : ℕ) → leb e a ≡ leb e b = λ e. sym (stays_for list q o e) ∙ stays_like list other same q o e ∙ stays_for other q o e in
    let up = leb-true a b (sym (tests a) ∙ le-leb a a (omega arith)) in
    let down = leb-true b a (tests b ∙ le-leb b b (omega arith)) in
    omega arith

-- two entries with the same gates have them as one entry would
at_merged : (x y : Entry) (rest : List Entry) (v : ℕ) → x.gates ≡ y.gates → gates_at (x ∷ (y ∷ rest)) v ≡ gates_at (merged x y ∷ rest) v
at_merged x y rest v same =
    ⊎_elim
    (λ (l : v < x.interval). at_here x (y ∷ rest) v l ∙ sym (at_here (merged x y) rest v (omega arith)))
    (λ (l : x.interval ≤ v).
    let u = v - x.interval in
    let past = at_later x (y ∷ rest) v u (omega arith) in
    ⊎_elim
    (λ (k : u < y.interval). past ∙ at_here y rest u k ∙ sym same ∙ sym (at_here (merged x y) rest v (omega arith)))
    (λ (k : y.interval ≤ u).
    past ∙ at_later y rest u (u - y.interval) (omega arith) ∙ sym (at_later (merged x y) rest v (u - y.interval) (omega arith)))
    (cases_lt u y.interval))
    (cases_lt v x.interval)

-- behind a front the same
at_behind : (front list other : List Entry) → ((v : ℕ) → gates_at list v ≡ gates_at other v) → (v : ℕ) → gates_at (front ++ list) v ≡ gates_at (front ++ other) v
at_behind [] list other same v = same v
at_behind (x ∷ front) list other same v = ap (cond (ltb v x.interval) x.gates) (at_behind front list other same (v - x.interval))

pub one_stretch : OneStretch
one_stretch front rest x y o same =
    let like = at_behind front (x ∷ (y ∷ rest)) (merged x y ∷ rest) (λ v. at_merged x y rest v same) in
    (like o, λ q. for_like _ _ like q o)
