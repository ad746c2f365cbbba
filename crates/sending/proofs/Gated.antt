-- A gate that stays open stays so within its cycle, and no other opens alone meanwhile.
use Rattle.std.proofs.Common.{◌≡◌, ℕ, zero, suc, ◌+◌, ◌-◌, ◌*◌, ◌/◌, ◌%◌, ◌^◌, ◌<◌, ◌≤◌, true, false, eqb, ltb, List, [], ◌∷◌, Some, sym, ap, ◌∙◌, ⊎_elim, mod-eq_of_lt, div-add-mod', arith}
use native.Mathlib.Nat.{mul-add-div_right, mul-add-mod_self_right, div-eq_of_lt}
use Rattle.std.proofs.lemmas.Bool.{cases_Bool, both_ways, ltb-true, ltb-false, eqb-true}
use Rattle.traffic.specs.Packets.{Traffic}
use Rattle.gates.specs.declared.entry.Entry.{Entry}
use Rattle.gates.specs.Open.{opens, gates_at, alone_below, open_at, stays_open}
use Rattle.gates.proofs.Bits.{one_gate}
use Rattle.gates.proofs.Stays.{zero_shut, stays_at}
use Rattle.sending.specs.Sheet.{cycle}
use Rattle.sending.specs.Rules.{total}
use Rattle.sending.specs.Port.{gate_at, fits_at}

-- a gate is open before the end of the list only
pub open_inside : (es : List Entry) (o q : ℕ) → opens q (gates_at es o) ≡ true → o < total es
open_inside [] o q e = absurd (both_ways (opens q 0) (zero_shut q) e)
open_inside (x ∷ es) o q e = ⊎_elim
    (λ y. let h = ltb-true o x.interval y in omega arith)
    (λ n. let rest : opens q (gates_at es (o - x.interval)) ≡ true = rw n at e in let h = open_inside es (o - x.interval) q rest in let k = ltb-false o x.interval n in omega arith)
    (cases_Bool (ltb o x.interval))

-- the gate that is open alone is the one of its bit
pub alone-is : (n g q : ℕ) → alone_below n g ≡ Some q → g ≡ 2 ^ q
alone-is zero g q h = let z : ◌≡◌ {A = ℕ} 0 1 = cc in absurd (omega arith)
alone-is (suc n) g q h = ⊎_elim
    (λ (on : eqb g (2 ^ n) ≡ true).
    let k : Some n ≡ Some q = rw on at h in
    let same : n ≡ q = cc in
    eqb-true g (2 ^ n) on ∙ ap (λ (m : ℕ). 2 ^ m) same)
    (λ (off : eqb g (2 ^ n) ≡ false). alone-is n g q (rw off at h))
    (cases_Bool (eqb g (2 ^ n)))

-- where one gate is open alone no other is open
pub open_only : (es : List Entry) (o q r : ℕ) → open_at es o ≡ Some r → opens q (gates_at es o) ≡ true → r ≡ q
open_only es o q r e h = sym (one_gate q r (sym (ap (opens q) (alone-is 8 (gates_at es o) r e)) ∙ h))

-- an instant of cycle n
pub in_cycle : (c n o : ℕ) → o < c → ((n * c + o) / c ≡ n) × ((n * c + o) % c ≡ o)
in_cycle c n o h =
    let pos : 0 < c = omega arith in
    let q0 : o / c ≡ 0 = div-eq_of_lt h in
    let d : (n * c + o) / c ≡ n + o / c = mul-add-div_right pos n o in
    let m : (n * c + o) % c ≡ o % c = mul-add-mod_self_right n c o in
    (omega arith, m ∙ mod-eq_of_lt h)

pub same-cycle : (c t u i : ℕ) → 0 < c → u ≡ t + i → t % c + i < c → (u / c ≡ t / c) × (u % c ≡ t % c + i)
same-cycle c t u i pos e h =
    let whole : t / c * c + t % c ≡ t = div-add-mod' t c in
    let is-u : u ≡ t / c * c + (t % c + i) = omega arith in
    rw is-u (in_cycle c (t / c) (t % c + i) h)

module _ (s : Traffic) (in_force : ℕ → List Entry) (pos : 0 < cycle s) (whole : (n : ℕ) → total (in_force n) ≡ cycle s) where
  -- a packet that fits is on the wire while its own gate is open
  pub open_while : (t q e : ℕ) → fits_at s in_force t q e ≡ true → (u : ℕ) → t ≤ u → u < t + e → opens q (gates_at (in_force (u / cycle s)) (u % cycle s)) ≡ true
  open_while t q e f u tu ue =
      let es = in_force (t / cycle s) in
      let i = u - t in
      let here : opens q (gates_at es (t % cycle s + i)) ≡ true = stays_at es q (t % cycle s) e i f (omega arith) in
      let inside : t % cycle s + i < total es = open_inside es (t % cycle s + i) q here in
      let full = whole (t / cycle s) in
      let same = same-cycle (cycle s) t u i pos (omega arith) (omega arith) in
      rw (same.0, same.1) here

  -- so no other gate is open alone meanwhile
  pub held : (t q e : ℕ) → fits_at s in_force t q e ≡ true → (u : ℕ) → t ≤ u → u < t + e → (r : ℕ) → gate_at s in_force u ≡ Some r → r ≡ q
  held t q e f u tu ue r g = open_only (in_force (u / cycle s)) (u % cycle s) q r g (open_while t q e f u tu ue)

pub stays_inside : (es : List Entry) (q o e : ℕ) → o ≤ total es → stays_open es q o e ≡ true → o + e ≤ total es
stays_inside es q o zero h s = omega arith
stays_inside es q o (suc e) h s = let last = open_inside es (o + e) q (stays_at es q o (suc e) e s (omega arith)) in omega arith
