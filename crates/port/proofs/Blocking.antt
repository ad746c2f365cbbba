-- What cannot start at an offset cannot start later in the same entry. Assumes nothing.
use Rattle.std.proofs.Common.{◌≡◌, ℕ, zero, suc, ◌+◌, ◌-◌, ◌%◌, ◌<◌, ◌≤◌, true, false, eqb, ltb, List, [], ◌∷◌, map, length, get_or, Some, None, Option, sym, refl, ap, ◌∙◌, subst, ⊎_elim, arith}
use Rattle.std.specs.List.{list_all, slice_get}
use Rattle.std.proofs.lemmas.Bool.{and_parts, cond-false, eqb-true, cases_Bool, cases_lt, both_ways, ltb-true, ltb-false}
use Rattle.traffic.specs.declared.packet.Job.{Job}
use Rattle.traffic.specs.Packets.{Traffic, packet_of}
use Rattle.gates.specs.declared.entry.Entry.{Entry}
use Rattle.gates.specs.Open.{opens, gates_at, gate_of, open_at, stays_open}
use Rattle.gates.proofs.Stays.{at_here, at_later, stays_from, stays_at}
use Rattle.sending.specs.Sheet.{cycle}
use Rattle.sending.specs.Port.{idle}
use Rattle.port.specs.declared.lanes.Lanes.{Lanes}
use Rattle.port.specs.declared.station.Station.{Station}
use Rattle.port.specs.Lanes.{queue_at, nothing_waits}
use Rattle.port.specs.Station.{state_of, sheet_of, third_step}
use Rattle.port.specs.Quiet.{Unsent, steady, fitting, can_start}
use Rattle.port.proofs.Outgo.{shut, vacant, unfitting, stuck}
use Rattle.port.proofs.Passing.{offset_later}

-- within an entry the gates are the same
pub steady_gates : (es : List Entry) (o k : ℕ) → k < steady es o → gates_at es (o + k) ≡ gates_at es o
steady_gates [] o k h = absurd (omega arith)
steady_gates (x ∷ xs) o k h = ⊎_elim
    (λ (on : ltb o x.interval ≡ true). let l : k < x.interval - o = rw on at h in at_here x xs (o + k) (omega arith) ∙ sym (at_here x xs o (ltb-true o x.interval on)))
    (λ (off : ltb o x.interval ≡ false).
    let i = ltb-false o x.interval off in
    let l : k < steady xs (o - x.interval) = rw off at h in
    at_later x xs (o + k) ((o - x.interval) + k) (omega arith) ∙ steady_gates xs (o - x.interval) k l ∙ sym (at_later x xs o (o - x.interval) (omega arith)))
    (cases_Bool (ltb o x.interval))

-- a gate that does not stay open for so long does not later either
pub later_unfit : (es : List Entry) (q o e k : ℕ) → k < steady es o → stays_open es q o e ≡ false → stays_open es q (o + k) e ≡ false
later_unfit es q o e k l f = ⊎_elim (λ (y : stays_open es q (o + k) e ≡ true). absurd (both_ways (stays_open es q o e) f (stays_from es q o e (λ v h. opened y v h)))) (λ y. y) (cases_Bool (stays_open es q (o + k) e))
  where
    opened : stays_open es q (o + k) e ≡ true → (v : ℕ) → v < e → opens q (gates_at es (o + v)) ≡ true
    opened y v h = ⊎_elim
        (λ (a : v < k).
        let zero-on : (o + k) + 0 ≡ o + k = omega arith in
        let here : opens q (gates_at es (o + k)) ≡ true = subst (λ (n : ℕ). opens q (gates_at es n) ≡ true) zero-on (stays_at es q (o + k) e 0 y (omega arith)) in
        ap (opens q) (steady_gates es o v (omega arith) ∙ sym (steady_gates es o k l)) ∙ here)
        (λ (a : k ≤ v).
        let at : (o + k) + (v - k) ≡ o + v = omega arith in
        subst (λ (n : ℕ). opens q (gates_at es n) ≡ true) at (stays_at es q (o + k) e (v - k) y (omega arith)))
        (cases_lt v k)

-- where nothing waits nothing starts
none_wait : (qs : List (List Job)) → list_all (λ jobs. eqb (length jobs) 0) qs ≡ true → (q : ℕ) → get_or qs q [] ≡ []
none_wait [] h q = refl
none_wait (x ∷ xs) h zero = none_left x (and_parts (eqb (length x) 0) _ h).0
  where
    none_left : (ys : List Job) → eqb (length ys) 0 ≡ true → ys ≡ []
    none_left [] e = refl
    none_left (y ∷ ys) e = let z = eqb-true (length (y ∷ ys)) 0 e in absurd (omega arith)
none_wait (x ∷ xs) h (suc q) = none_wait xs (and_parts (eqb (length x) 0) _ h).1 q

pub none_starts : (es : List Entry) (x : Station) → nothing_waits x.lanes ≡ true → (t : ℕ) → Unsent (sheet_of x) es (state_of x) t
none_starts es x none t = go (open_at es (t % cycle s)) refl
  where
    s : Traffic
    s = sheet_of x

    go : (g : Option ℕ) → open_at es (t % cycle s) ≡ g → third_step s es t (t % cycle s) (state_of x) ≡ idle (state_of x)
    go None e = shut s es t (t % cycle s) (state_of x) e
    go (Some q) e = vacant s es t (t % cycle s) (state_of x) q e (ap (map packet_of) (none_wait x.lanes.queues none q))

-- what cannot start at the offset cannot start later in the entry
still_stuck : (l : Lanes) (es : List Entry) (o k : ℕ) → k < steady es o → can_start l es o (open_at es o) ≡ None → can_start l es (o + k) (open_at es (o + k)) ≡ None
still_stuck l es o k h c = ap (can_start l es (o + k)) same ∙ at_gate (open_at es o) c
  where
    same : open_at es (o + k) ≡ open_at es o
    same = ap gate_of (steady_gates es o k h)

    at_head : (q : ℕ) (f : Option Job) → fitting es q o f ≡ None → fitting es q (o + k) f ≡ None
    at_head q None c = refl
    at_head q (Some w) c = cond-false _ (Some (q, w)) None (later_unfit es q o w.wire k h (unfitting (stays_open es q o w.wire) (q, w) c))

    at_gate : (g : Option ℕ) → can_start l es o g ≡ None → can_start l es (o + k) g ≡ None
    at_gate None c = refl
    at_gate (Some q) c = at_head q (slice_get (queue_at l q) 0) c

module _ (es : List Entry) (x : Station) where
  abbrev s : Traffic
  s = sheet_of x

  -- up to the end of the entry, or of the cycle
  pub blocked_on : (clock i : ℕ) → can_start x.lanes es (clock % cycle s) (open_at es (clock % cycle s)) ≡ None → clock ≤ i → i < clock + steady es (clock % cycle s) → i < clock + (cycle s - clock % cycle s) → Unsent s es (state_of x) i
  blocked_on clock i f low a b =
      let at : i ≡ clock + (i - clock) = omega arith in
      let later : i % cycle s ≡ clock % cycle s + (i - clock) = ap (λ (n : ℕ). n % cycle s) at ∙ offset_later clock (i - clock) (cycle s) (omega arith) in
      ap (λ (o : ℕ). third_step s es i o (state_of x)) later ∙ stuck es i (clock % cycle s + (i - clock)) x (still_stuck x.lanes es (clock % cycle s) (i - clock) (omega arith) f)
