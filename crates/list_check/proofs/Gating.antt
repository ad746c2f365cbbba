-- One gate is open where the gates are a power of two.
use Rattle.std.proofs.Common.{◌≡◌, ℕ, zero, suc, ◌<◌, ◌≤◌, Bool, true, false, cond, ◌&&◌, not, refl, sym, ap, ◌∙◌, ⊎_elim, arith}
use Rattle.std.specs.Int.{is_power_of_two}
use Rattle.std.proofs.lemmas.Bool.{and_parts, cases_eq, le-leb, ne_eqb}
use Rattle.gates.specs.declared.entry.Entry.{Entry}
use Rattle.gates.specs.Open.{gate_of}
use Rattle.sending.specs.Rules.{given, well_gated}

-- two tests agree on a number
agree : (p q : ℕ → Bool) → ℕ → Bool
agree p q n = cond (p n) (q n) (not (q n))

agree_below : (p q : ℕ → Bool) → ℕ → Bool
agree_below p q zero = true
agree_below p q (suc n) = agree p q n && agree_below p q n

agrees : (p q : ℕ → Bool) (n k : ℕ) → agree_below p q n ≡ true → k < n → p k ≡ q k
unfolding agree_below agree
agrees p q zero k all less = absurd (omega arith)
agrees p q (suc n) k all less =
    let parts = and_parts (agree p q n) (agree_below p q n) all in
    ⊎_elim (λ (e : k ≡ n). ap p e ∙ both (p n) (q n) parts.0 ∙ sym (ap q e)) (λ ne. agrees p q n k parts.1 (omega arith)) (cases_eq k n)
  where
    both : (a b : Bool) → cond a b (not b) ≡ true → a ≡ b
    both true true h = refl
    both false false h = refl
    both true false h = sym h
    both false true h = h

powers : agree_below is_power_of_two (λ g. given (gate_of g)) 256 ≡ true
unfolding agree_below agree lib.Count.ones
powers = refl

pub one_gate : (e : Entry) → 1 ≤ e.interval → (e.gates ≡ 0 → ⊥) → e.gates < 256 → well_gated e ≡ is_power_of_two e.gates
one_gate e some ne fits = rw (le-leb 1 e.interval some, ne_eqb e.gates 0 ne) (sym (agrees is_power_of_two (λ g. given (gate_of g)) 256 e.gates powers fits))
