-- Packets that have windows of their own start by them.
use Rattle.std.proofs.Common.{◌≡◌, ℕ, zero, suc, ◌+◌, ◌%◌, ◌<◌, ◌≤◌, Bool, true, false, cond, ◌&&◌, leb, List, [], ◌∷◌, ◌++◌, length, Some, sym, refl, ap, ◌∙◌, subst, ⊎_elim, mod-eq_of_lt, arith}
use Rattle.std.specs.List.{AllByRecursion}
use Rattle.std.proofs.ByRecursion.{All-append}
use Rattle.std.proofs.lemmas.Bool.{and_parts, and_from, cases_lt, both_ways, le-leb, lt-ltb, ltb-true}
use Rattle.traffic.specs.declared.packet.Packet.{Packet}
use Rattle.traffic.specs.Packets.{Traffic}
use Rattle.gates.specs.declared.entry.Entry.{Entry}
use Rattle.gates.specs.Open.{open_at, stays_open}
use Rattle.sending.specs.Sheet.{Fits, cycle, deadline, queue, same, waits_before, wire}
use Rattle.sending.specs.Rules.{total}
use Rattle.sending.specs.Port.{fits_at, gate_at, joining, arriving}
use Rattle.sending.specs.InTime.{InFirstCycle, Windows, WindowsInTime, first_cycle}
use Rattle.sending.specs.Laws.{InOrder}
use Rattle.sending.proofs.Lists.{all_two}
use Rattle.sending.proofs.Line.{is, is_self, is_some, Line, lsend, line, lstart, lstart-fits}
use Rattle.sending.proofs.Alone.{starts_from}
use Rattle.sending.proofs.Counting.{conserve, came-then, came_not, begun_more, find, count_kept}
use Rattle.sending.proofs.Packets.{same-is, same_self, times, all_times, fits_of, comes-then, ends_inside}
use Rattle.sending.proofs.Orders.{sooner}
use Rattle.sending.proofs.Cycles.{ends_by, by_ends}
use Rattle.sending.proofs.Waiting.{Due, all_due, only}
use Rattle.sending.proofs.Waiting as Waiting
use Rattle.sending.proofs.Lined.{arrive, lined_then}

module _ (s : Traffic) (fs : Fits s) (es : List Entry) (whole : total es ≡ cycle s) (window : Packet → ℕ) (ws : Windows s es window) (q : ℕ) where
  abbrev D : Packet → Type 0
  D = Due s (λ _. es) (first_cycle s) q

  abbrev fits : ℕ → ℕ → Bool
  fits = Waiting.fits s fs (λ _. es) (first_cycle s) q

  abbrev arr : ℕ → List Packet
  arr = Waiting.arr s fs (λ _. es) (first_cycle s) q

  first : (x : Packet) → D x → InFirstCycle s es x
  first x d = record { ours = d.ours; early = ltb-true x.arrival (cycle s) d.turned; let_in = d.let_in }

  ends : (x : Packet) → D x → window x + wire s x ≤ deadline s x
  ends x d = ends_by s x (window x) (ws.ends x (first x d))

  behind : (x y : Packet) → D x → D y → waits_before s x y ≡ true → window x + wire s x ≤ window y
  behind x y d e b = ws.apart x y (first x d) (first y e) (d.own ∙ sym e.own) b

  some_wire : (x : Packet) → D x → 1 ≤ wire s x
  some_wire x d = (fits_of s fs x d.ours).some_wire

  -- at its window a packet fits
  fits-then : (x : Packet) → D x → fits (window x) (wire s x) ≡ true
  fits-then x d =
      let w = some_wire x d in
      let e = ends x d in
      let i = ends_inside s fs x d.ours (first x d).early in
      let m : window x % cycle s ≡ window x = mod-eq_of_lt (omega arith) in
      let now-open : is q (open_at es (window x)) ≡ true = is_self q (open_at es (window x)) (ws.opens x (first x d) ∙ ap (λ (r : ℕ). Some r) d.own) in
      let open-long : stays_open es q (window x) (wire s x) ≡ true = subst (λ (r : ℕ). stays_open es r (window x) (wire s x) ≡ true) d.own (ws.stays x (first x d)) in
      rw m (and_from (is q (open_at es (window x))) (stays_open es q (window x) (wire s x)) now-open open-long)

  record Good (t : ℕ) (l : Line Packet) : Type 0 where
    in_window : AllByRecursion (λ w. t ≤ window w) l.waiting
    free_then : AllByRecursion (λ w. l.free ≤ window w) l.waiting
    free_later : (x : Packet) → D x → t ≤ x.arrival → l.free ≤ window x

  all_behind : (t : ℕ) (x : Packet) (ys : List Packet) → D x → AllByRecursion D ys → AllByRecursion (λ y. waits_before s x y ≡ true) ys → t ≤ window x + wire s x → AllByRecursion (λ y. t ≤ window y) ys
  all_behind t x [] d a b l = tt
  all_behind t x (y ∷ ys) d a b l = (let k = behind x y d a.0 b.0 in omega arith, all_behind t x ys d a.1 b.1 l)

  stepped : (t f : ℕ) (xs : List Packet) → AllByRecursion D xs → InOrder s xs → AllByRecursion (λ w. w.arrival < suc t) xs → AllByRecursion (λ w. t ≤ window w) xs → AllByRecursion (λ w. f ≤ window w) xs → ((x : Packet) → D x → suc t ≤ x.arrival → f ≤ window x) →
      Good (suc t) (lsend (wire s) (fits t) t f xs)
  stepped t f [] a b c d e g = record { in_window = tt; free_then = tt; free_later = g }
  stepped t f (x ∷ xs) a b c d e g = go (leb f t && fits t (wire s x)) refl
    where
      w : 1 ≤ wire s x
      w = some_wire x a.0

      low : t ≤ window x
      low = d.0

      go : (v : Bool) → (leb f t && fits t (wire s x)) ≡ v → Good (suc t) (cond {A = Line Packet} v (record { waiting = xs; free = t + wire s x }) (record { waiting = x ∷ xs; free = f }))
      go true v = let w1 = w in let l1 = low in record {
        in_window = all_behind (suc t) x xs a.0 a.1 b.0 (omega arith);
        free_then = all_behind (t + wire s x) x xs a.0 a.1 b.0 (omega arith);
        free_later = λ y dy l. let k = behind x y a.0 dy (sooner s x y a.0.ours dy.ours (let n = c.0 in omega arith)) in omega arith;
      }
      go false v =
          let w1 = w in let l1 = low in
          let not-now : (window x ≡ t → ⊥) = λ k. both_ways (leb f t && fits t (wire s x)) v (and_from _ _ (le-leb f t (let m = e.0 in omega arith)) (subst (λ (u : ℕ). fits u (wire s x) ≡ true) k (fits-then x a.0))) in
          let after : suc t ≤ window x = omega arith in
          record { in_window = (after, all_behind (suc t) x xs a.0 a.1 b.0 (omega arith)); free_then = e; free_later = g }

  good : (t : ℕ) → Good t (line (wire s) fits arr t)
  good zero = record { in_window = tt; free_then = tt; free_later = λ x d l. omega arith }
  good (suc t) =
      let g = good t in
      let l = line (wire s) fits arr t in
      let there = lined_then s fs (λ _. es) (first_cycle s) q t in
      let dues : AllByRecursion D (arr t) = all_due s fs (λ _. es) (first_cycle s) q t in
      let now : AllByRecursion (λ v. v.arrival ≡ t) (arr t) = arrive s fs (λ _. es) (first_cycle s) q t in
      stepped t l.free (l.waiting ++ arr t) there.due there.strict there.come
      (All-append (λ w. t ≤ window w) l.waiting (arr t) g.in_window (all_two D (λ w. w.arrival ≡ t) (λ w. t ≤ window w) (λ x d h. let k = ws.arrived x (first x d) in omega arith) (arr t) dues now))
      (All-append (λ w. l.free ≤ window w) l.waiting (arr t) g.free_then (all_two D (λ w. w.arrival ≡ t) (λ w. l.free ≤ window w) (λ x d h. g.free_later x d (omega arith)) (arr t) dues now))
      (λ x d h. g.free_later x d (omega arith))

  by_window : (p : Packet) → D p → (u : ℕ) × (u ≤ window p) × (p.arrival ≤ u) × (lstart (wire s) fits arr u ≡ Some p)
  by_window p d =
      let t = suc (window p) in
      let g = good t in
      let none-waits : times p (line (wire s) fits arr t).waiting ≡ 0 = ⊎_elim
      (λ (h : 1 ≤ times p (line (wire s) fits arr t).waiting). let k : t ≤ window p = all_times (λ w. t ≤ window w) p (line (wire s) fits arr t).waiting g.in_window h in absurd (omega arith))
      (λ (h : times p (line (wire s) fits arr t).waiting ≤ 0). omega arith) (cases_lt 0 (times p (line (wire s) fits arr t).waiting)) in
      let once : times p (arriving s es q p.arrival (length s.flows)) ≡ 1 = comes-then s fs es q p d.ours d.let_in d.own in
      let here : times p (arr p.arrival) ≡ 1 = count_kept same same-is same_self p (first_cycle s) (arriving s es q p.arrival (length s.flows)) ∙ ap (λ (b : Bool). cond b (times p (arriving s es q p.arrival (length s.flows))) 0) d.turned ∙ once in
      let arrived = ws.arrived p (first p d) in
      let c = came-then same same-is same_self p arr p.arrival (only s fs (λ _. es) (first_cycle s) q p) t (omega arith) in
      let k = conserve same same-is same_self p (wire s) fits arr t in
      let found = find same same-is same_self p (lstart (wire s) fits arr) t (omega arith) in
      let u = found.0 in
      let ut = found.1 in
      let after : p.arrival ≤ u = ⊎_elim (λ (h : u < p.arrival). let n = came_not same same-is same_self p arr p.arrival (only s fs (λ _. es) (first_cycle s) q p) (suc u) h in let cc' = conserve same same-is same_self p (wire s) fits arr (suc u) in let b = begun_more same same-is same_self p (lstart (wire s) fits arr) u (suc u) found.2 (omega arith) in absurd (omega arith)) (λ (h : p.arrival ≤ u). h) (cases_lt u p.arrival) in
      (u, omega arith, after, found.2)

pub windows_in_time : WindowsInTime
windows_in_time s fs es whole window ws p i =
    let q = queue s p in
    let d : Due s (λ _. es) (first_cycle s) q p = record { ours = i.ours; let_in = i.let_in; turned = lt-ltb p.arrival (cycle s) i.early; own = refl } in
    let got = by_window s fs es whole window ws q p d in
    let u = got.0 in
    let uw = got.1 in
    let at-end = ends_by s p (window p) (ws.ends p i) in
    let open-now : gate_at s (λ _. es) u ≡ Some q = is_some q (gate_at s (λ _. es) u) (and_parts _ _ (lstart-fits (wire s) (λ v e. is q (gate_at s (λ _. es) v) && fits_at s (λ _. es) v q e) (λ v. joining s (λ _. es) (first_cycle s) v q) u p got.3)).0 in
    (u, record { there = starts_from s (λ _. es) fs.some_time (λ _. whole) (first_cycle s) q u p open-now got.3; arrived = got.2; ends = by_ends s p u (omega arith) })
