-- A packet is sent at its first fit.
use Rattle.std.proofs.Common.{◌≡◌, ℕ, zero, suc, ◌+◌, ◌-◌, ◌%◌, ◌<◌, ◌≤◌, max, Bool, true, false, cond, not, ◌&&◌, eqb, ltb, leb, ◌⊎◌, List, [], ◌∷◌, ◌++◌, length, Some, None, Option, sym, refl, ap, ◌∙◌, subst, inl, inr, ⊎_elim, mod-eq_of_lt, arith}
use Rattle.std.specs.List.{AllByRecursion}
use Rattle.std.proofs.lemmas.Bool.{and_parts, and_from, or_cases, eqb-true, cases_Bool, cases_eq, cases_lt, both_ways, le-leb, lt-ltb, ltb-true, false≢true}
use Rattle.traffic.specs.declared.packet.Packet.{Packet}
use Rattle.traffic.specs.Packets.{Traffic}
use Rattle.traffic.proofs.Total.{queue_order}
use Rattle.gates.specs.declared.entry.Entry.{Entry}
use Rattle.gates.specs.Open.{opens, gates_at, gate_of, open_at, stays_open}
use Rattle.gates.proofs.Stays.{zero_shut, stays_at}
use Rattle.sending.specs.Sheet.{OfSheet, cycle, deadline, job_of, packet_at, queue, same, waits_before, wire}
use Rattle.sending.specs.Rules.{given, at_most_one, well_gated}
use Rattle.sending.specs.Port.{fits_at, gate_at, arriving}
use Rattle.sending.specs.InTime.{InFirstCycle, StartsInTime, first_cycle}
use Rattle.sending.proofs.Line.{is, is_self, Line, first, lsend, line, lstart, lstart-fits, is_some}
use Rattle.sending.proofs.Gated.{open_inside, open_only}
use Rattle.sending.proofs.Alone.{starts-queue, starts_from, all_start}
use Rattle.sending.proofs.Counting.{conserve, count-append, count_kept, came-then, begun, begun_more, find, only_once}
use Rattle.sending.proofs.Packets.{same-is, same_self, times, all_times, fits_of, comes-then, counted, ends_inside}
use Rattle.sending.specs.Laws.{InOrder}
use Rattle.sending.proofs.Cycles.{ends_by, by_ends}
use Rattle.sending.proofs.Waiting.{Due, fits, arr, all_due, only, came_few}
use Rattle.sending.proofs.Lined.{lined_then}
use Rattle.sending.proofs.Laws.{none_early, no_overlap, first_in_first_out}
use Rattle.list_check.specs.Serving.{sent_at, FirstFit, InFront, Cleared, Gated, SentAtFirstFit, LateFit, LateWithoutFit, LateBehind}

-- an entry that opens some gate alone opens one
gate_there : (g q : ℕ) → at_most_one g ≡ true → opens q g ≡ true → (r : ℕ) × (gate_of g ≡ Some r)
gate_there g q one on = ⊎_elim
    (λ (z : eqb g 0 ≡ true). absurd (both_ways (opens q g) (ap (opens q) (eqb-true g 0 z) ∙ zero_shut q) on))
    (λ (y : given (gate_of g) ≡ true). go (gate_of g) refl y)
    (or_cases (eqb g 0) (given (gate_of g)) one)
  where
    go : (o : Option ℕ) → gate_of g ≡ o → given o ≡ true → (r : ℕ) × (gate_of g ≡ Some r)
    go None e y = absurd (false≢true y)
    go (Some r) e y = (r, e)

-- where gate q is open in a list of such entries, it is the open one
gate_at_all : (es : List Entry) → AllByRecursion (λ e. well_gated e ≡ true) es → (o q : ℕ) → opens q (gates_at es o) ≡ true → (r : ℕ) × (open_at es o ≡ Some r)
gate_at_all [] gating o q on = absurd (both_ways (opens q 0) (zero_shut q) on)
gate_at_all (x ∷ xs) gating o q on = go (ltb o x.interval) on (gate_at_all xs gating.1 (o - x.interval) q)
  where
    go : (b : Bool) → opens q (cond b x.gates (gates_at xs (o - x.interval))) ≡ true → (opens q (gates_at xs (o - x.interval)) ≡ true → (r : ℕ) × (gate_of (gates_at xs (o - x.interval)) ≡ Some r)) →
        (r : ℕ) × (gate_of (cond b x.gates (gates_at xs (o - x.interval))) ≡ Some r)
    go true h later = gate_there x.gates q (and_parts _ _ gating.0).1 h
    go false h later = later h

open_one : (es : List Entry) → AllByRecursion (λ e. well_gated e ≡ true) es → (o q : ℕ) → opens q (gates_at es o) ≡ true → open_at es o ≡ Some q
open_one es gating o q on =
    let got = gate_at_all es gating o q on in
    got.1 ∙ ap (λ (n : ℕ). Some n) (open_only es o q got.0 got.1 on)

-- the wire is not taken, or it is by a packet that the line sent below t
abbrev Taken : (Packet → ℕ) → (ℕ → ℕ → Bool) → (ℕ → List Packet) → (t free : ℕ) → Type 0
Taken w f a t free = (free ≡ 0) ⊎ ((u : ℕ) × (y : Packet) × (u < t) × (lstart w f a u ≡ Some y) × (free ≡ u + w y))

taken_more : (w : Packet → ℕ) (f : ℕ → ℕ → Bool) (a : ℕ → List Packet) (t free : ℕ) → Taken w f a t free → Taken w f a (suc t) free
taken_more w f a t free (inl e) = inl e
taken_more w f a t free (inr (u, y, l, e, is)) = inr (u, y, omega arith, e, is)

-- the wire of a line is taken by the last packet that it sent
free_last : (w : Packet → ℕ) (f : ℕ → ℕ → Bool) (a : ℕ → List Packet) (t : ℕ) → Taken w f a t (line w f a t).free
free_last w f a zero = inl refl
free_last w f a (suc t) = go ((line w f a t).waiting ++ a t) refl (taken_more w f a t _ (free_last w f a t))
  where
    go : (ws : List Packet) → (line w f a t).waiting ++ a t ≡ ws → Taken w f a (suc t) (line w f a t).free → Taken w f a (suc t) (lsend w (f t) t (line w f a t).free ws).free
    go [] e past = past
    go (x ∷ xs) e past = turn (leb (line w f a t).free t && f t (w x)) refl
      where
        turn : (b : Bool) → (leb (line w f a t).free t && f t (w x)) ≡ b → Taken w f a (suc t) (cond {A = Line Packet} b (record { waiting = xs; free = t + w x }) (record { waiting = x ∷ xs; free = (line w f a t).free })).free
        turn true h =
            let now : lstart w f a t ≡ Some x = ap (first w (f t) t (line w f a t).free) e ∙ ap (λ (b : Bool). cond b (Some x) None) h in
            inr (t, x, omega arith, now, refl)
        turn false h = past

module _ (s : Traffic) (es : List Entry) (g : Gated s es) where
  -- a packet starts once
  once : (p : Packet) (u v : ℕ) → sent_at s es u ≡ Some p → sent_at s es v ≡ Some p → u ≡ v
  once p u v e f =
      let q = queue s p in
      let fs = g.fits in
      only_once same same-is same_self p (lstart (wire s) (fits s fs (λ _. es) (first_cycle s) q) (arr s fs (λ _. es) (first_cycle s) q))
      (λ t. let c = conserve same same-is same_self p (wire s) (fits s fs (λ _. es) (first_cycle s) q) (arr s fs (λ _. es) (first_cycle s) q) t in let k = came_few s fs (λ _. es) (first_cycle s) q p t in omega arith)
      u v (starts-queue s (λ _. es) fs.some_time (λ _. g.whole) (first_cycle s) u p e).1 (starts-queue s (λ _. es) fs.some_time (λ _. g.whole) (first_cycle s) v p f).1

  -- what is in front starts before
  in_front_first : (p r : Packet) → InFront s es p r → (v : ℕ) → sent_at s es v ≡ Some p → (t : ℕ) × (t + wire s r ≤ v) × (sent_at s es t ≡ Some r)
  in_front_first p r i v e =
      let found = first_in_first_out s g.fits (λ _. es) (λ _. g.whole) (first_cycle s) r p i.early.ours (lt-ltb _ _ i.early.early) i.early.let_in i.same_queue i.before v e in
      (found.0, no_overlap s (λ _. es) (first_cycle s) found.0 v r p found.2 e found.1, found.2)

  -- a packet starts at no instant that is not a fit
  lower : (p : Packet) (free v : ℕ) → Cleared s es p free → sent_at s es v ≡ Some p → v < cycle s → (max p.arrival free ≤ v) × (stays_open es (queue s p) v (wire s p) ≡ true)
  lower p free v c e early =
      let q = queue s p in
      let fs = g.fits in
      let there = starts-queue s (λ _. es) fs.some_time (λ _. g.whole) (first_cycle s) v p e in
      let fit : fits_at s (λ _. es) v q (wire s p) ≡ true = (and_parts (is q (gate_at s (λ _. es) v)) (fits_at s (λ _. es) v q (wire s p)) (lstart-fits (wire s) (fits s fs (λ _. es) (first_cycle s) q) (arr s fs (λ _. es) (first_cycle s) q) v p there.1)).1 in
      let m : v % cycle s ≡ v = mod-eq_of_lt early in
      let stays : stays_open es q v (wire s p) ≡ true = subst (λ (o : ℕ). stays_open es q o (wire s p) ≡ true) m fit in
      let arrived = none_early s (λ _. es) (first_cycle s) v p e in
      let after : free ≤ v = ⊎_elim (λ (z : free ≡ 0). omega arith)
      (λ last. let f = in_front_first p last.0 last.2 v e in let same_start = once last.0 last.1 f.0 last.3 f.2 in let ends = last.4 in let before = f.1 in omega arith) c.last_ends in
      (omega arith, stays)

  -- of two packets one is in front of the other
  ordered : (x y : Packet) → OfSheet s x → OfSheet s y → (x ≡ y) ⊎ ((waits_before s x y ≡ true) ⊎ (waits_before s y x ≡ true))
  ordered x y ox oy =
      let a = ox.on_time in
      let b = oy.on_time in
      let either : waits_before s x y ≡ not (waits_before s y x) → (x ≡ y) ⊎ ((waits_before s x y ≡ true) ⊎ (waits_before s y x ≡ true)) = λ e.
      ⊎_elim (λ (h : waits_before s y x ≡ true). inr (inr h)) (λ (h : waits_before s y x ≡ false). inr (inl (e ∙ ap not h))) (cases_Bool (waits_before s y x)) in
      ⊎_elim
      (λ (e : x.flow ≡ y.flow). ⊎_elim
      (λ (f : x.arrival ≡ y.arrival). inl (counted s g.fits x ox ∙ (λ i. packet_at s (e i) (f i)) ∙ sym (counted s g.fits y oy)))
      (λ ne. either (queue_order.decides (job_of s x) (job_of s y) (inr (λ k. ne (a ∙ k ∙ sym b)))))
      (cases_eq x.arrival y.arrival))
      (λ ne. either (queue_order.decides (job_of s x) (job_of s y) (inl ne)))
      (cases_eq x.flow y.flow)

  -- p is there, and none that is before it: so it is the first
  head_is : (p : Packet) (ws : List Packet) → 1 ≤ times p ws → InOrder s ws → ((x : Packet) → 1 ≤ times x ws → waits_before s x p ≡ true → ⊥) → (rest : List Packet) × (ws ≡ p ∷ rest)
  head_is p [] n o h = absurd (omega arith)
  head_is p (x ∷ xs) n o h = go (same p x) refl n
    where
      here : times x (x ∷ xs) ≡ 1 + times x xs
      here = rw (same_self x)

      go : (b : Bool) → same p x ≡ b → 1 ≤ cond b 1 0 + times p xs → (rest : List Packet) × (x ∷ xs ≡ p ∷ rest)
      go true e k = (xs, ap (λ (y : Packet). y ∷ xs) (sym (same-is p x e)))
      go false e k = let l = here in absurd (h x (omega arith) (all_times (λ z. waits_before s x z ≡ true) p xs o.0 (omega arith)))

  module _ (q : ℕ) where
    abbrev F : ℕ → ℕ → Bool
    F = fits s g.fits (λ _. es) (first_cycle s) q

    abbrev comes : ℕ → List Packet
    comes = arr s g.fits (λ _. es) (first_cycle s) q

    abbrev there : ℕ → List Packet
    there t = (line (wire s) F comes t).waiting ++ comes t

    -- what is there has not started
    unstarted : (x : Packet) (t u : ℕ) → 1 ≤ times x (there t) → u < t → lstart (wire s) F comes u ≡ Some x → ⊥
    unstarted x t u n l e =
        let b = begun_more same same-is same_self x (lstart (wire s) F comes) u t e l in
        let c = conserve same same-is same_self x (wire s) F comes t in
        let a = count-append same same-is same_self x (line (wire s) F comes t).waiting (comes t) in
        let f = came_few s g.fits (λ _. es) (first_cycle s) q x (suc t) in
        omega arith

    line-sent : (x : Packet) (u : ℕ) → lstart (wire s) F comes u ≡ Some x → sent_at s es u ≡ Some x
    line-sent x u e =
        let o = is_some q (gate_at s (λ _. es) u) (and_parts _ _ (lstart-fits (wire s) F comes u x e)).0 in
        starts_from s (λ _. es) g.fits.some_time (λ _. g.whole) (first_cycle s) q u x o e

    sent-line : (x : Packet) (u : ℕ) → queue s x ≡ q → sent_at s es u ≡ Some x → lstart (wire s) F comes u ≡ Some x
    sent-line x u own e =
        subst (λ (r : ℕ). lstart (wire s) (fits s g.fits (λ _. es) (first_cycle s) r) (arr s g.fits (λ _. es) (first_cycle s) r) u ≡ Some x) own
        (starts-queue s (λ _. es) g.fits.some_time (λ _. g.whole) (first_cycle s) u x e).1

    -- a packet that has arrived has started or is there
    counts : (p : Packet) → InFirstCycle s es p → queue s p ≡ q → (t : ℕ) → p.arrival ≤ t → begun same same-is same_self p (lstart (wire s) F comes) t + times p (there t) ≡ 1
    counts p i own t l =
        let onces : times p (arriving s es q p.arrival (length s.flows)) ≡ 1 = comes-then s g.fits es q p i.ours i.let_in own in
        let here : times p (comes p.arrival) ≡ 1 = count_kept same same-is same_self p (first_cycle s) (arriving s es q p.arrival (length s.flows)) ∙ ap (λ (b : Bool). cond b (times p (arriving s es q p.arrival (length s.flows))) 0) (lt-ltb _ _ i.early) ∙ onces in
        let c = came-then same same-is same_self p comes p.arrival (only s g.fits (λ _. es) (first_cycle s) q p) (suc t) (omega arith) in
        let k = conserve same same-is same_self p (wire s) F comes t in
        let a = count-append same same-is same_self p (line (wire s) F comes t).waiting (comes t) in
        omega arith

    early_of : (x : Packet) → Due s (λ _. es) (first_cycle s) q x → InFirstCycle s es x
    early_of x d = record { ours = d.ours; early = ltb-true x.arrival (cycle s) d.turned; let_in = d.let_in }

    module _ (p : Packet) (i : InFirstCycle s es p) (own : queue s p ≡ q) (free t : ℕ) (c : Cleared s es p free) (on : max p.arrival free ≤ t) (not_yet : (u : ℕ) → u < t → sent_at s es u ≡ Some p → ⊥) where
      -- it is the first of its queue
      is-first : (rest : List Packet) × (there t ≡ p ∷ rest)
      is-first =
          let l = lined_then s g.fits (λ _. es) (first_cycle s) q t in
          let n = counts p i own t (omega arith) in
          let none-begun : begun same same-is same_self p (lstart (wire s) F comes) t ≡ 0 = ⊎_elim
          (λ (h : 0 < begun same same-is same_self p (lstart (wire s) F comes) t). let f = find same same-is same_self p (lstart (wire s) F comes) t h in absurd (not_yet f.0 f.1 (line-sent p f.0 f.2)))
          (λ (h : begun same same-is same_self p (lstart (wire s) F comes) t ≤ 0). omega arith)
          (cases_lt 0 (begun same same-is same_self p (lstart (wire s) F comes) t)) in
          head_is p (there t) (omega arith) l.strict (λ x nx b.
          let d = all_times (Due s (λ _. es) (first_cycle s) q) x (there t) l.due nx in
          let by = c.all_sent x (record { early = early_of x d; same_queue = d.own ∙ sym own; before = b }) in
          let w = (fits_of s g.fits x d.ours).some_wire in
          let ends = by.ends in
          unstarted x t by.start nx (omega arith) (sent-line x by.start d.own by.there))

      -- and the wire is free
      is_free : (line (wire s) F comes t).free ≤ t
      is_free = ⊎_elim (λ (z : (line (wire s) F comes t).free ≡ 0). omega arith)
          (λ last.
          let u = last.0 in
          let y = last.1 in
          let ut = last.2 in
          let is = last.4 in
          let sent = line-sent y u last.3 in
          let d = all_start (Due s (λ _. es) (first_cycle s) q) (wire s) F comes (all_due s g.fits (λ _. es) (first_cycle s) q) u y last.3 in
          let same-q : queue s y ≡ queue s p = d.own ∙ sym own in
          ⊎_elim
          (λ (e : y ≡ p). absurd (not_yet u ut (sent ∙ ap (λ (x : Packet). Some x) e)))
          (λ o. ⊎_elim
          (λ (b : waits_before s y p ≡ true).
          let by = c.all_sent y (record { early = early_of y d; same_queue = same-q; before = b }) in
          let same_start = once y u by.start sent by.there in
          let ends = by.ends in
          omega arith)
          (λ (b : waits_before s p y ≡ true).
          let f = in_front_first y p (record { early = i; same_queue = sym same-q; before = b }) u sent in
          let fl = f.1 in
          absurd (not_yet f.0 (omega arith) f.2))
          o)
          (ordered y p d.ours i.ours))
          (free_last (wire s) F comes t)

  -- a packet is sent at its first fit
  exact : (p : Packet) → InFirstCycle s es p → (free t : ℕ) → Cleared s es p free → FirstFit es (queue s p) (max p.arrival free) (wire s p) t → sent_at s es t ≡ Some p
  exact p i free t c f =
      let q = queue s p in
      let some = (fits_of s g.fits p i.ours).some_wire in
      let zero_in : t + 0 ≡ t = omega arith in
      let opens-now : opens q (gates_at es t) ≡ true = subst (λ (o : ℕ). opens q (gates_at es o) ≡ true) zero_in (stays_at es q t (wire s p) 0 f.stays (omega arith)) in
      let inside = open_inside es t q opens-now in
      let whole = g.whole in
      let early : t < cycle s = omega arith in
      let m : t % cycle s ≡ t = mod-eq_of_lt early in
      let gate : gate_at s (λ _. es) t ≡ Some q = ap (open_at es) m ∙ open_one es g.gating t q opens-now in
      let stays : fits_at s (λ _. es) t q (wire s p) ≡ true = subst (λ (o : ℕ). stays_open es q o (wire s p) ≡ true) (sym m) f.stays in
      let not_yet : (u : ℕ) → u < t → sent_at s es u ≡ Some p → ⊥ = λ u l e. let k = lower p free u c e (omega arith) in both_ways (stays_open es q u (wire s p)) (f.first u k.0 l) k.1 in
      let head = is-first q p i refl free t c f.onward not_yet in
      let clear = is_free q p i refl free t c f.onward not_yet in
      let now : lstart (wire s) (F q) (comes q) t ≡ Some p =
      ap (first (wire s) (F q t) t (line (wire s) (F q) (comes q) t).free) head.1
      ∙ ap (λ (b : Bool). cond b (Some p) None) (and_from (leb (line (wire s) (F q) (comes q) t).free t) (F q t (wire s p)) (le-leb _ _ clear) (and_from (is q (gate_at s (λ _. es) t)) (fits_at s (λ _. es) t q (wire s p)) (is_self q (gate_at s (λ _. es) t) gate) stays)) in
      line-sent q p t now

  -- a start in time is below the cycle's end
  in_cycle : (p : Packet) → InFirstCycle s es p → (t : ℕ) → StartsInTime s (λ _. es) (first_cycle s) p t → (t + wire s p ≤ deadline s p) × (t < cycle s)
  in_cycle p i t k =
      let ends = ends_by s p t k.ends in
      let some = (fits_of s g.fits p i.ours).some_wire in
      let inside = ends_inside s g.fits p i.ours i.early in
      (ends, omega arith)

pub sent_at-first_fit : SentAtFirstFit
sent_at-first_fit s es g p i free t c f = exact s es g p i free t c f

pub late_fit : LateFit
late_fit s es g p i free t c f over v k =
    let by = in_cycle s es g p i v k in
    let low = lower s es g p free v c k.there by.1 in
    let ends = by.0 in
    both_ways (stays_open es (queue s p) v (wire s p)) (f.first v low.0 (omega arith)) low.1

pub late_without_fit : LateWithoutFit
late_without_fit s es g p i free c none v k =
    let by = in_cycle s es g p i v k in
    let low = lower s es g p free v c k.there by.1 in
    both_ways (stays_open es (queue s p) v (wire s p)) (none v low.0) low.1

pub late_behind : LateBehind
late_behind s es g p r i late less v k =
    let f = in_front_first s es g p r i v k.there in
    let ends = ends_by s p v k.ends in
    let by = f.1 in
    late f.0 (record { there = f.2; arrived = none_early s (λ _. es) (first_cycle s) f.0 r f.2; ends = by_ends s r f.0 (omega arith) })
