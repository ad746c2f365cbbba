-- What entries name, and the first rule that they break.
use Rattle.std.proofs.Common.{◌≡◌, ℕ, ◌+◌, ◌<◌, ◌≤◌, true, false, eqb, List, [], ◌∷◌, ◌++◌, length, get_or, set, refl, ap, ◌∙◌, ⊎_elim, arith, get_or-set_other, get_or-set_same}
use Rattle.std.specs.List.{AllByRecursion, sum_by}
use Rattle.std.proofs.ByRecursion.{All-append, All-weaker}
use Rattle.std.proofs.lemmas.List.Sums.{sum_by-cons}
use Rattle.std.proofs.lemmas.Bool.{and_left, and_right, cases_Bool, cases_eq, eqb-true, ne_eqb, le-leb, leb-true, and_parts, and_from, or_from}
use Rattle.gates.specs.declared.entry.Entry.{Entry}
use Rattle.sending.specs.Rules.{total}
use Rattle.gates.specs.Entries.{names}
use Rattle.list_check.specs.Named.{known}

-- the same, entry by entry
Known : List ℕ → List Entry → Type 0
Known latest front = AllByRecursion (λ e. e.number ≤ get_or latest e.flow 0) front

known_each : (latest : List ℕ) (front : List Entry) → known latest front ≡ true → Known latest front
unfolding Known
known_each latest [] h = tt
known_each latest (e ∷ es) h = let p = and_parts _ _ h in (leb-true _ _ p.0, known_each latest es p.1)

known_all : (latest : List ℕ) (front : List Entry) → Known latest front → known latest front ≡ true
unfolding Known
known_all latest [] h = refl
known_all latest (e ∷ es) h = and_from _ _ (le-leb _ _ h.0) (known_all latest es h.1)

-- a number above all that were named is new
new_above : (latest : List ℕ) (front : List Entry) (i n : ℕ) → Known latest front → get_or latest i 0 < n → names front i n ≡ false
unfolding Known
new_above latest [] i n known h = refl
new_above latest (e ∷ es) i n known h = or_from _ _
    (⊎_elim
    (λ (y : eqb e.flow i ≡ true).
    let is : get_or latest e.flow 0 ≡ get_or latest i 0 = ap (λ (k : ℕ). get_or latest k 0) (eqb-true _ _ y) in
    let low = known.0 in
    and_right _ _ (ne_eqb e.number n (λ k. omega arith)))
    (λ (y : eqb e.flow i ≡ false). and_left _ _ y)
    (cases_Bool (eqb e.flow i)))
    (new_above latest es i n known.1 h)

pub new_number : (latest : List ℕ) (front : List Entry) (i n : ℕ) → known latest front ≡ true → get_or latest i 0 < n → names front i n ≡ false
new_number latest front i n k h = new_above latest front i n (known_each latest front k) h

-- what is kept after one more entry
known_then : (latest : List ℕ) (front : List Entry) (e : Entry) (v : ℕ) → e.flow < length latest → e.number ≤ v → get_or latest e.flow 0 ≤ v → Known latest front → Known (set latest e.flow v) (front ++ e ∷ [])
unfolding Known
known_then latest front e v within here above known =
    let at : get_or (set latest e.flow v) e.flow 0 ≡ v = get_or-set_same latest e.flow v 0 within in
    let still : (x : Entry) → x.number ≤ get_or latest x.flow 0 → x.number ≤ get_or (set latest e.flow v) x.flow 0 = λ x h.
    ⊎_elim
    (λ (k : x.flow ≡ e.flow).
    let a : get_or latest x.flow 0 ≡ get_or latest e.flow 0 = ap (λ (j : ℕ). get_or latest j 0) k in
    let b : get_or (set latest e.flow v) x.flow 0 ≡ get_or (set latest e.flow v) e.flow 0 = ap (λ (j : ℕ). get_or (set latest e.flow v) j 0) k in
    omega arith)
    (λ ne. let o : get_or (set latest e.flow v) x.flow 0 ≡ get_or latest x.flow 0 = get_or-set_other latest e.flow x.flow v 0 ne in omega arith)
    (cases_eq x.flow e.flow) in
    All-append (λ x. x.number ≤ get_or (set latest e.flow v) x.flow 0) front (e ∷ [])
    (All-weaker (λ x. x.number ≤ get_or latest x.flow 0) (λ x. x.number ≤ get_or (set latest e.flow v) x.flow 0) still front known)
    (omega arith, tt)

pub known_more : (latest : List ℕ) (front : List Entry) (e : Entry) (v : ℕ) → e.flow < length latest → e.number ≤ v → get_or latest e.flow 0 ≤ v → known latest front ≡ true → known (set latest e.flow v) (front ++ e ∷ []) ≡ true
known_more latest front e v within here above k = known_all _ _ (known_then latest front e v within here above (known_each latest front k))

-- what is summed up is the time that entries take
pub total_sum : (es : List Entry) → sum_by (λ e. e.interval) es ≡ total es
total_sum [] = refl
total_sum (e ∷ es) = sum_by-cons (λ x. x.interval) e es ∙ ap (λ (n : ℕ). e.interval + n) (total_sum es)
