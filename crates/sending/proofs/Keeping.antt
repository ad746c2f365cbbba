-- A list breaks no rule exactly if it keeps them all.
use Rattle.std.proofs.Common.{◌≡◌, ℕ, ◌+◌, Bool, true, false, cond, eqb, List, [], ◌∷◌, ◌++◌, length, Some, None, Option, sym, refl, ap, subst, arith}
use Rattle.std.specs.List.{AllByRecursion}
use Rattle.std.proofs.lemmas.List.{append-nil, append_assoc}
use Rattle.std.proofs.lemmas.Bool.{eqb-true, eq-eqb}
use Rattle.traffic.specs.Packets.{Traffic}
use Rattle.gates.specs.declared.entry.Entry.{Entry}
use Rattle.sending.specs.Sheet.{cycle}
use Rattle.sending.specs.Rules.{total, well_sized, well_gated, well_named, Rules, Broken, wrong_size, wrong_gates, wrong_name, wrong_total, entry_broken, or_else, entries_broken, first_broken, RulesAgree}

-- none of two is broken
or_else_none : (a b : Option Broken) → or_else a b ≡ None → (a ≡ None) × (b ≡ None)
or_else_none None b e = (refl, e)
or_else_none (Some x) b e = let z : ◌≡◌ {A = ℕ} 0 1 = cc in absurd (omega arith)

-- a test that breaks no rule passes
passes : (t : Bool) (x : Broken) → cond t None (Some x) ≡ None → t ≡ true
passes true x e = refl
passes false x e = let z : ◌≡◌ {A = ℕ} 0 1 = cc in absurd (omega arith)

entry_keeps : (s : Traffic) (front : List Entry) (e : Entry) → entry_broken s front e ≡ None → (well_gated e ≡ true) × (well_named s front e ≡ true)
entry_keeps s front e h = go (well_gated e) (well_named s front e) h
  where
    go : (a b : Bool) → cond a (cond b None (Some (wrong_name (length front + 1)))) (Some (wrong_gates (length front + 1))) ≡ None → (a ≡ true) × (b ≡ true)
    go true b k = (refl, passes b (wrong_name (length front + 1)) k)
    go false b k = let z : ◌≡◌ {A = ℕ} 0 1 = cc in absurd (omega arith)

-- an entry of a list is its first or one behind
no_entry-there : (mid : List Entry) (e : Entry) (back : List Entry) → [] ≡ mid ++ (e ∷ back) → ⊥
no_entry-there [] e back h = let z : ◌≡◌ {A = ℕ} 0 1 = cc in omega arith
no_entry-there (m ∷ mid) e back h = let z : ◌≡◌ {A = ℕ} 0 1 = cc in omega arith

abbrev Named : Traffic → (front rest : List Entry) → Type 0
Named s front rest = (mid : List Entry) (e : Entry) (back : List Entry) → rest ≡ mid ++ (e ∷ back) → well_named s (front ++ mid) e ≡ true

named_more : (s : Traffic) (front : List Entry) (x : Entry) (xs : List Entry) → well_named s front x ≡ true → Named s (front ++ (x ∷ [])) xs → Named s front (x ∷ xs)
named_more s front x xs h n [] e back k =
    let is : x ≡ e = cc in
    subst (λ (y : Entry). well_named s (front ++ []) y ≡ true) is (subst (λ (l : List Entry). well_named s l x ≡ true) (sym (append-nil front)) h)
named_more s front x xs h n (m ∷ mid) e back k =
    let is : x ≡ m = cc in
    let rest : xs ≡ mid ++ (e ∷ back) = cc in
    subst (λ (y : Entry). well_named s (front ++ (y ∷ mid)) e ≡ true) is (subst (λ (l : List Entry). well_named s l e ≡ true) (append_assoc front (x ∷ []) mid) (n mid e back rest))

named_rest : (s : Traffic) (front : List Entry) (x : Entry) (xs : List Entry) → Named s front (x ∷ xs) → (well_named s front x ≡ true) × Named s (front ++ (x ∷ [])) xs
named_rest s front x xs n = (
  subst (λ (l : List Entry). well_named s l x ≡ true) (append-nil front) (n [] x xs refl),
  λ mid e back k. subst (λ (l : List Entry). well_named s l e ≡ true) (sym (append_assoc front (x ∷ []) mid)) (n (x ∷ mid) e back (ap (λ (l : List Entry). x ∷ l) k)),
)

entries_keep : (s : Traffic) (front rest : List Entry) → entries_broken s front rest ≡ None → AllByRecursion (λ e. well_gated e ≡ true) rest × Named s front rest
entries_keep s front [] h = (tt, λ mid e back k. absurd (no_entry-there mid e back k))
entries_keep s front (x ∷ xs) h =
    let both = or_else_none (entry_broken s front x) (entries_broken s (front ++ (x ∷ [])) xs) h in
    let here = entry_keeps s front x both.0 in
    let behind = entries_keep s (front ++ (x ∷ [])) xs both.1 in
    ((here.0, behind.0), named_more s front x xs here.1 behind.1)

entries_none : (s : Traffic) (front rest : List Entry) → AllByRecursion (λ e. well_gated e ≡ true) rest → Named s front rest → entries_broken s front rest ≡ None
entries_none s front [] a n = refl
entries_none s front (x ∷ xs) a n =
    let both = named_rest s front x xs n in
    let here : entry_broken s front x ≡ None = rw (a.0, both.0) in
    rw here (entries_none s (front ++ (x ∷ [])) xs a.1 both.1)

pub rules_agree : RulesAgree
rules_agree s es = (keep, none_broken)
  where
    keep : first_broken s es ≡ None → Rules s es
    keep h =
        let a = or_else_none (cond (well_sized es) None (Some wrong_size)) _ h in
        let b = or_else_none (entries_broken s [] es) (cond (eqb (total es) (cycle s)) None (Some wrong_total)) a.1 in
        let each = entries_keep s [] es b.0 in
        record { size = passes (well_sized es) wrong_size a.0; gating = each.0; naming = each.1; whole = eqb-true (total es) (cycle s) (passes (eqb (total es) (cycle s)) wrong_total b.1) }

    none_broken : Rules s es → first_broken s es ≡ None
    none_broken r =
        let size = r.size in
        let entries = entries_none s [] es r.gating r.naming in
        let time = eq-eqb (total es) (cycle s) r.whole in
        rw (size, entries, time)
