-- Cursors and the packets that they lead to.
use Rattle.std.proofs.Common.{◌≡◌, ℕ, ◌+◌, ◌<◌, ◌≤◌, Bool, true, false, not, ◌||◌, leb, List, [], ◌∷◌, length, Ok, Err, Result, MatchResult, sym, refl, ap, ◌∙◌, ⊎_elim, arith}
use Rattle.std.specs.List.{list_any}
use Rattle.std.proofs.lemmas.Bool.{and_parts, and_from, or_cases, or_parts, or_from, not-true, not_from_false, leb-true, eqb-true, eqb-false, ne_eqb, cases_Bool, both_ways, cond_both}
use Rattle.std.proofs.lemmas.Bool.Decides.{nat_tests}
use Rattle.traffic.specs.declared.flow.Flow.{Flow}
use Rattle.traffic.specs.declared.packet.Packet.{Packet}
use Rattle.traffic.specs.Orders.{delivered_before}
use Rattle.table.specs.Order.{none_before, placed}
use Rattle.traffic.specs.declared.sort.Sort.{Sort}
use Rattle.arrivals.specs.Sorts.{belongs}
use Rattle.arrivals.specs.Cursors.{at_flow, standing, leads_to}
use Rattle.arrivals.proofs.Belonging.{on_sheet, not_delivered_before}

or_swap : (a b c : Bool) → (a || (b || c)) ≡ (b || (a || c))
or_swap true true c = refl
or_swap true false c = refl
or_swap false true c = refl
or_swap false false c = refl

-- a cursor put among the others passes the test, or one of them does
pub some_placed : (before : Packet → Packet → Bool) (test : Packet → Bool) (x : Packet) (cs : List Packet) → list_any test (placed before x cs) ≡ (test x || list_any test cs)
some_placed before test x [] = refl
some_placed before test x (c ∷ cs) =
    ⊎_elim
    (λ e. rw e)
    (λ e. rw e (ap (λ (b : Bool). test c || b) (some_placed before test x cs) ∙ or_swap (test c) (test x) (list_any test cs)))
    (cases_Bool (before x c))

-- a test that only such cursors pass as pass another
pub some_fewer : (test other : Packet → Bool) → ((c : Packet) → test c ≡ true → other c ≡ true) → (cs : List Packet) → list_any other cs ≡ false → list_any test cs ≡ false
some_fewer test other less [] h = refl
some_fewer test other less (c ∷ cs) h =
    let p = or_parts (other c) (list_any other cs) h in
    let here : test c ≡ false = ⊎_elim (λ e. absurd (both_ways (other c) p.0 (less c e))) (λ e. e) (cases_Bool (test c)) in
    or_from (test c) (list_any test cs) here (some_fewer test other less cs p.1)

pub leads_parts : (p : Packet) (c : Packet) → leads_to p c ≡ true → (c.flow ≡ p.flow) × (c.number ≤ p.number)
leads_parts p c h =
    let a = and_parts (at_flow p.flow c) (leb c.number p.number) h in
    (eqb-true c.flow p.flow a.0, leb-true c.number p.number a.1)

-- where x is not before y and z is before neither, z is not before x
not_before_through : (x y z : Packet) → delivered_before y x ≡ false → delivered_before z y ≡ false → delivered_before z x ≡ false
not_before_through x y z a b = grind (arith, nat_tests)

module _ (s : Sort) (fs : List Flow) (end : ℕ) where
  pub record Stands (c : Packet) (cs : List Packet) : Type 0 where
    pub here : belongs s fs end c ≡ true
    pub alone : list_any (at_flow c.flow) cs ≡ false
    pub others : standing s fs end cs ≡ true

  pub standing_parts : (c : Packet) (cs : List Packet) → standing s fs end (c ∷ cs) ≡ true → Stands c cs
  standing_parts c cs h =
      let a = and_parts (belongs s fs end c) _ h in
      let b = and_parts (not (list_any (at_flow c.flow) cs)) (standing s fs end cs) a.1 in
      record { here = a.0; alone = not-true (list_any (at_flow c.flow) cs) b.0; others = b.1 }

  pub standing_from : (c : Packet) (cs : List Packet) → Stands c cs → standing s fs end (c ∷ cs) ≡ true
  standing_from c cs h =
      and_from (belongs s fs end c) _ h.here
      (and_from (not (list_any (at_flow c.flow) cs)) (standing s fs end cs) (not_from_false (list_any (at_flow c.flow) cs) h.alone) h.others)

  -- one more of another flow
  pub standing-placed : (before : Packet → Packet → Bool) (x : Packet) (cs : List Packet) → Stands x cs → standing s fs end (placed before x cs) ≡ true
  standing-placed before x [] h = standing_from x [] h
  standing-placed before x (c ∷ cs) h =
      let own = standing_parts c cs h.others in
      let p = or_parts (at_flow x.flow c) (list_any (at_flow x.flow) cs) h.alone in
      let apart : at_flow c.flow x ≡ false = ne_eqb x.flow c.flow (λ e. eqb-false c.flow x.flow p.0 (sym e)) in
      let alone : list_any (at_flow c.flow) (placed before x cs) ≡ false = some_placed before (at_flow c.flow) x cs ∙ or_from (at_flow c.flow x) (list_any (at_flow c.flow) cs) apart own.alone in
      let deeper : standing s fs end (placed before x cs) ≡ true = standing-placed before x cs (record { here = h.here; alone = p.1; others = own.others }) in
      cond_both (before x c) (x ∷ (c ∷ cs)) (c ∷ placed before x cs) (λ (l : List Packet). standing s fs end l ≡ true)
      (λ _. standing_from x (c ∷ cs) h)
      (λ _. standing_from c (placed before x cs) (record { here = own.here; alone = alone; others = deeper }))

  -- a packet that a cursor leads to is not before one that no cursor is before
  pub led_not_before : (p : Packet) → belongs s fs end p ≡ true → (q : Packet) (cs : List Packet) → standing s fs end cs ≡ true → none_before delivered_before q cs ≡ true → list_any (leads_to p) cs ≡ true → delivered_before p q ≡ false
  led_not_before p b q [] st h led = absurd (both_ways false refl led)
  led_not_before p b q (c ∷ cs) st h led =
      let own = standing_parts c cs st in
      let n = and_parts (not (delivered_before c q)) (none_before delivered_before q cs) h in
      ⊎_elim
      (λ e.
      let l = leads_parts p c e in
      let behind : delivered_before p c ≡ false = not_delivered_before s fs end p c (on_sheet s fs end p b) (on_sheet s fs end c own.here) l.0 l.1 in
      not_before_through q c p (not-true (delivered_before c q) n.0) behind)
      (λ e. led_not_before p b q cs own.others n.1 e)
      (or_cases (leads_to p c) (list_any (leads_to p) cs) led)

pub length-placed : (before : Packet → Packet → Bool) (x : Packet) (cs : List Packet) → length (placed before x cs) ≡ length cs + 1
length-placed before x [] = refl
length-placed before x (c ∷ cs) =
    cond_both (before x c) (x ∷ (c ∷ cs)) (c ∷ placed before x cs) (λ (l : List Packet). length l ≡ length (c ∷ cs) + 1)
    (λ _. omega arith)
    (λ _. omega (arith, length-placed before x cs))

-- where a place is free, a cursor is put
pub put_fits : {X Y : Type 0} (r : Result X Y) (p : Packet) (cs left : List Packet) → length cs < 64
    → MatchResult r (λ _. (length cs < 64) × (left ≡ placed delivered_before p cs)) (λ _. (64 ≤ length cs) × (left ≡ cs)) → left ≡ placed delivered_before p cs
put_fits (Ok x) p cs left room h = h.1
put_fits (Err y) p cs left room h = absurd (omega (arith, h.0))
