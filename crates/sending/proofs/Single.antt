-- An entry with at most one gate open has no two.
use Rattle.std.proofs.Common.{◌≡◌, ℕ, zero, suc, ◌^◌, ◌<◌, Bool, true, false, ◌&&◌, ◌||◌, eqb, ltb, Some, None, Option, sym, refl, ◌∙◌, subst, ⊎_elim, arith}
use Rattle.std.proofs.lemmas.Bool.{and_parts, cases_Bool, cases_eq, both_ways, eqb-true, ltb-true, false≢true}
use Rattle.gates.specs.Open.{opens, gate_of}
use Rattle.gates.proofs.Bits.{one_gate}
use Rattle.gates.proofs.Stays.{zero_shut}
use Rattle.sending.specs.Rules.{AtMostOneGate, at_most_one, given}
use Rattle.sending.proofs.Gated.{alone-is}

-- one of the numbers below n passes
abbrev some_below : ℕ → (ℕ → Bool) → Bool
some_below zero f = false
some_below (suc n) f = f n || some_below n f

some_found : (n : ℕ) (f : ℕ → Bool) → some_below n f ≡ true → (i : ℕ) × (f i ≡ true)
some_found zero f e = absurd (false≢true e)
some_found (suc n) f e = ⊎_elim (λ (h : f n ≡ true). (n, h)) (λ (h : f n ≡ false). some_found n f (rw h at e)) (cases_Bool (f n))

-- all numbers below n pass
abbrev all_below : ℕ → (ℕ → Bool) → Bool
all_below zero f = true
all_below (suc n) f = f n && all_below n f

all_found : (n : ℕ) (f : ℕ → Bool) → all_below n f ≡ true → (i : ℕ) → i < n → f i ≡ true
all_found zero f e i l = absurd (omega arith)
all_found (suc n) f e i l = let both = and_parts (f n) (all_below n f) e in ⊎_elim (λ (k : i ≡ n). rw k both.0) (λ ne. all_found n f both.1 i (omega arith)) (cases_eq i n)

-- two of the eight gates are open
abbrev two_open : ℕ → Bool
two_open g = some_below 8 (λ q. some_below 8 (λ r. ltb q r && (opens q g && opens r g)))

-- of all 256 numbers
all_gates : all_below 256 (λ g. at_most_one g || two_open g) ≡ true
all_gates = refl

is-given : (o : Option ℕ) → given o ≡ true → (q : ℕ) × (o ≡ Some q)
is-given None e = absurd (false≢true e)
is-given (Some q) e = (q, refl)

pub at_most_one_gate : AtMostOneGate
at_most_one_gate g small = (only, one)
  where
    only : at_most_one g ≡ true → (q r : ℕ) → opens q g ≡ true → opens r g ≡ true → q ≡ r
    only e q r a b = ⊎_elim
        (λ (z : eqb g 0 ≡ true). let none : g ≡ 0 = eqb-true g 0 z in absurd (both_ways (opens q 0) (zero_shut q) (subst (λ (h : ℕ). opens q h ≡ true) none a)))
        (λ (z : eqb g 0 ≡ false).
        let k = is-given (gate_of g) (rw z at e) in
        let is : g ≡ 2 ^ k.0 = alone-is 8 g k.0 k.1 in
        one_gate q k.0 (subst (λ (h : ℕ). opens q h ≡ true) is a) ∙ sym (one_gate r k.0 (subst (λ (h : ℕ). opens r h ≡ true) is b)))
        (cases_Bool (eqb g 0))

    one : ((q r : ℕ) → opens q g ≡ true → opens r g ≡ true → q ≡ r) → at_most_one g ≡ true
    one h = ⊎_elim (λ e. e)
        (λ (e : at_most_one g ≡ false).
        let either = all_found 256 (λ g. at_most_one g || two_open g) all_gates g small in
        let two : two_open g ≡ true = rw e at either in
        let q = some_found 8 (λ q. some_below 8 (λ r. ltb q r && (opens q g && opens r g))) two in
        let r = some_found 8 (λ r. ltb q.0 r && (opens q.0 g && opens r g)) q.1 in
        let a = and_parts (ltb q.0 r.0) (opens q.0 g && opens r.0 g) r.1 in
        let b = and_parts (opens q.0 g) (opens r.0 g) a.1 in
        let same = h q.0 r.0 b.0 b.1 in
        let less = ltb-true q.0 r.0 a.0 in
        absurd (omega arith))
        (cases_Bool (at_most_one g))
