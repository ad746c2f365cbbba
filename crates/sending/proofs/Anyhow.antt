-- A source that is not in order: what joined is all that counts.
use Rattle.std.proofs.Common.{◌≡◌, ℕ, zero, suc, ◌+◌, ◌-◌, ◌<◌, ◌≤◌, Bool, true, false, cond, not, ◌&&◌, ◌||◌, eqb, leb, List, [], ◌∷◌, ◌++◌, length, Some, None, filter, Option, sym, refl, ap, ◌∙◌, subst, ⊎_elim, arith}
use Rattle.std.specs.List.{AllByRecursion}
use Rattle.std.proofs.ByRecursion.{all_kept_by, All-weaker}
use Rattle.std.proofs.lemmas.List.{append-nil, length-append}
use Rattle.std.proofs.lemmas.Bool.{and_parts, cases_Bool, both_ways, leb-true, eqb-true, eqb-false, not-true}
use Rattle.traffic.specs.declared.packet.Packet.{Packet}
use Rattle.traffic.specs.Packets.{Traffic}
use Rattle.gates.specs.declared.entry.Entry.{Entry}
use Rattle.sending.specs.Sheet.{Fits, OfSheet, packet_at, placed, queue, same, waits_before, wire}
use Rattle.sending.specs.Rules.{admitted}
use Rattle.sending.specs.Port.{State, Turn, fits_at, gate_at, holds, join, joining, list_at, arriving, run, send}
use Rattle.sending.specs.InTime.{Accepted}
use Rattle.sending.specs.Calls.{Counts, Taken, after, enter, of_sheet, take_in, taken, takes, tallied, turn, welcome}
use Rattle.sending.specs.Runs.{Call, Ran, advance, call, calls, counts, in_force, made, over, started, starts_below, take_over}
use Rattle.sending.specs.Promise.{AnySource}
use Rattle.sending.proofs.Lists.{kept_none, kept_same}
use Rattle.sending.proofs.Alone.{of_queue}
use Rattle.sending.proofs.Counting.{count-append, count_kept}
use Rattle.sending.proofs.Packets.{same-is, same_self, times, times_none, all_times, counted, comes-then, Comes, all_come}
use Rattle.sending.proofs.Orders.{Sorted, sorted_flows, asym, decides, sooner, front, placed-behind}
use Rattle.sending.proofs.Source.{Early, ours_from, takes_free}
use Rattle.sending.proofs.Waiting.{latest_waits}
use Rattle.sending.proofs.Kept.{in_time_once}
use Rattle.sending.proofs.Bridge.{ticks-same, run-same, below-same, decided, steps, advance_steps, Lawful, lawful', lists, es, early, turn_is, over-lists, lawful_over, lawful_made}

other_way : (x y : Packet) → same x y ≡ false → same y x ≡ false
other_way x y e = ⊎_elim (λ (h : same y x ≡ true). absurd (both_ways (same x y) e (ap (same x) (same-is y x h) ∙ same_self x))) (λ h. h) (cases_Bool (same y x))

module _ (s : Traffic) (x : Packet) (f : Packet → Bool) (out : f x ≡ false) where
  abbrev g : Packet → Bool
  g p = same p x || f p

  pub no_more : (ys : List Packet) → AllByRecursion (λ z. same z x ≡ false) ys → filter g ys ≡ filter f ys
  no_more [] a = refl
  no_more (y ∷ ys) a = rw (a.0, no_more ys a.1)

  none_same : (ys : List Packet) → times x ys ≡ 0 → AllByRecursion (λ z. same x z ≡ false) ys
  none_same [] h = tt
  none_same (y ∷ ys) h = go (same x y) refl h (none_same ys)
    where
      go : (b : Bool) → same x y ≡ b → cond b 1 0 + times x ys ≡ 0 → (times x ys ≡ 0 → AllByRecursion (λ z. same x z ≡ false) ys) → AllByRecursion (λ z. same x z ≡ false) (y ∷ ys)
      go true e k ih = absurd (omega arith)
      go false e k ih = (e, ih (omega arith))

  -- a packet put in its place is kept there
  pub put_in : (ys : List Packet) → Sorted s ys → AllByRecursion (λ z. z.flow ≡ x.flow → z ≡ x) ys → times x ys ≡ 1 → placed (waits_before s) x (filter f ys) ≡ filter g ys
  put_in [] h u once = let z : ◌≡◌ {A = ℕ} 0 1 = once in absurd (omega arith)
  put_in (y ∷ ys) h u once = go (same x y) refl once (put_in ys h.1 u.1)
    where
      in_front : (zs : List Packet) → AllByRecursion (λ z. waits_before s z y ≡ false) zs → AllByRecursion (λ z. z.flow ≡ x.flow → z ≡ x) zs → AllByRecursion (λ z. same x z ≡ false) zs → y ≡ x → AllByRecursion (λ z. waits_before s x z ≡ true) zs
      in_front [] a b c e = tt
      in_front (z ∷ zs) a b c e =
          let behind : waits_before s z x ≡ false = subst (λ (w : Packet). waits_before s z w ≡ false) e a.0 in
          (decides s x z (λ k. both_ways (same x z) c.0 (ap (same x) (b.0 (sym k)) ∙ same_self x)) ∙ ap not behind, in_front zs a.1 b.1 c.1 e)

      flip : (zs : List Packet) → AllByRecursion (λ z. same x z ≡ false) zs → AllByRecursion (λ z. same z x ≡ false) zs
      flip [] a = tt
      flip (z ∷ zs) a = (other_way x z a.0, flip zs a.1)

      go : (b : Bool) → same x y ≡ b → cond b 1 0 + times x ys ≡ 1 → (times x ys ≡ 1 → placed (waits_before s) x (filter f ys) ≡ filter g ys) → placed (waits_before s) x (filter f (y ∷ ys)) ≡ filter g (y ∷ ys)
      go true e k ih =
          let is : y ≡ x = sym (same-is x y e) in
          let absent = none_same ys (omega arith) in
          let fy : f y ≡ false = ap f is ∙ out in
          let gy : same y x ≡ true = ap (λ (w : Packet). same w x) is ∙ same_self x in
          rw (fy, gy) (front s x (filter f ys) (all_kept_by f (λ z. waits_before s x z ≡ true) ys (in_front ys h.0 u.1 absent is)) ∙ ap (λ (w : Packet). w ∷ filter f ys) (sym is) ∙ ap (λ (l : List Packet). y ∷ l) (sym (no_more ys (flip ys absent))))
      go false e k ih =
          let rest : times x ys ≡ 1 = omega arith in
          let behind : waits_before s x y ≡ false = all_times (λ z. waits_before s z y ≡ false) x ys h.0 (omega arith) in
          let gy : same y x ≡ false = other_way x y e in
          let r = ih rest in
          rw gy (pick (f y) behind r)
        where
          pick : (b : Bool) → waits_before s x y ≡ false → placed (waits_before s) x (filter f ys) ≡ filter g ys → placed (waits_before s) x (cond {A = List Packet} b (y ∷ filter f ys) (filter f ys)) ≡ cond {A = List Packet} b (y ∷ filter g ys) (filter g ys)
          pick true n r = rw n (ap (λ (l : List Packet). y ∷ l) r)
          pick false n r = r

-- what a welcome packet is
record Welcome (s : Traffic) (t : ℕ) (st : State Packet) (x : Packet) : Type 0 where
  ours : OfSheet s x
  now : x.arrival ≡ t
  absent : holds (st.waiting (queue s x)) x ≡ false

welcomed : (s : Traffic) (t : ℕ) (last : Option Packet) (st : State Packet) (x : Packet) → x.arrival ≤ t → welcome s t last st x ≡ true → Welcome s t st x
welcomed s t last st x low w =
    let a = and_parts (of_sheet s x) (leb t x.arrival && (after last x && not (holds (st.waiting (queue s x)) x))) w in
    let b = and_parts (leb t x.arrival) (after last x && not (holds (st.waiting (queue s x)) x)) a.1 in
    let c = and_parts (after last x) (not (holds (st.waiting (queue s x)) x)) b.1 in
    let high = leb-true t x.arrival b.0 in
    record { ours = ours_from s x a.0; now = omega arith; absent = not-true (holds (st.waiting (queue s x)) x) c.1 }

module _ (s : Traffic) (fs : Fits s) (es : List Entry) (t : ℕ) (W : ℕ → List Packet) (early : (q : ℕ) → AllByRecursion (Early s t) (W q)) where
  abbrev L : ℕ → List Packet
  L q = arriving s es q t (length s.flows)

  -- the state holds what joined
  abbrev Holds : State Packet → List Packet → Type 0
  Holds st j = (q : ℕ) → st.waiting q ≡ W q ++ filter (holds j) (L q)

  enters : (st : State Packet) (j : List Packet) (x : Packet) → Holds st j → Welcome s t st x → admitted s es x ≡ true → Holds (enter s st x) (x ∷ j)
  enters st j x h w a q = go (eqb q (queue s x)) refl
    where
      uniq : (zs : List Packet) → AllByRecursion (Comes s es (queue s x) t) zs → AllByRecursion (λ z. z.flow ≡ x.flow → z ≡ x) zs
      uniq [] b = tt
      uniq (z ∷ zs) b = ((λ e. counted s fs z b.0.ours ∙ (λ i. packet_at s (e i) ((b.0.now ∙ sym w.now) i)) ∙ sym (counted s fs x w.ours)), uniq zs b.1)

      once : times x (L (queue s x)) ≡ 1
      once = subst (λ (u : ℕ). times x (arriving s es (queue s x) u (length s.flows)) ≡ 1) w.now (comes-then s fs es (queue s x) x w.ours a refl)

      fresh : holds j x ≡ false
      fresh = ⊎_elim
          (λ (y : holds j x ≡ true).
          let none-there : times x (W (queue s x) ++ filter (holds j) (L (queue s x))) ≡ 0 = ap (times x) (sym (h (queue s x))) ∙ times_none x (st.waiting (queue s x)) w.absent in
          let parts = count-append same same-is same_self x (W (queue s x)) (filter (holds j) (L (queue s x))) in
          let k : times x (filter (holds j) (L (queue s x))) ≡ times x (L (queue s x)) = count_kept same same-is same_self x (holds j) (L (queue s x)) ∙ ap (λ (b : Bool). cond b (times x (L (queue s x))) 0) y in
          let o = once in
          absurd (omega arith))
          (λ y. y) (cases_Bool (holds j x))

      away : (zs : List Packet) → eqb q (queue s x) ≡ false → AllByRecursion (λ z. queue s z ≡ q) zs → AllByRecursion (λ z. same z x ≡ false) zs
      away [] e b = tt
      away (z ∷ zs) e b = (⊎_elim (λ (k : same z x ≡ true). absurd (eqb-false q (queue s x) e (sym b.0 ∙ ap (queue s) (same-is z x k)))) (λ k. k) (cases_Bool (same z x)), away zs e b.1)

      go : (b : Bool) → eqb q (queue s x) ≡ b → cond {A = List Packet} b (placed (waits_before s) x (st.waiting q)) (st.waiting q) ≡ W q ++ filter (holds (x ∷ j)) (L q)
      go true e =
          let qe : q ≡ queue s x = eqb-true q (queue s x) e in
          subst (λ (r : ℕ). placed (waits_before s) x (st.waiting r) ≡ W r ++ filter (holds (x ∷ j)) (L r)) (sym qe)
          (ap (placed (waits_before s) x) (h (queue s x))
          ∙ placed-behind s x (W (queue s x)) (filter (holds j) (L (queue s x))) (All-weaker (Early s t) (λ z. waits_before s x z ≡ false) (λ z h. let k = w.now in let l = h.1 in asym s z x (sooner s z x h.0 w.ours (omega arith))) (W (queue s x)) (early (queue s x)))
          ∙ ap (λ (l : List Packet). W (queue s x) ++ l) (put_in s x (holds j) fresh (L (queue s x)) (sorted_flows s es (queue s x) t (length s.flows)) (uniq (L (queue s x)) (all_come s es (queue s x) t (length s.flows) (omega arith))) once))
      go false e = h q ∙ ap (λ (l : List Packet). W q ++ l) (sym (no_more s x (holds j) fresh (L q) (away (L q) e (of_queue s es q t (length s.flows)))))

  pub record Joined (j : List Packet) (st : State Packet) : Type 0 where
    pub all : List Packet
    pub there : Holds st all
    pub only_now : (p : Packet) → (p.arrival ≡ t → ⊥) → holds all p ≡ holds j p

  pub takes_any : (xs : List Packet) (c : Counts) (last : Option Packet) (st : State Packet) (j : List Packet) → Holds st j → Joined j (takes s es t c last st xs).state
  takes_any [] c last st j h = record { all = j; there = h; only_now = λ p ne. refl }
  takes_any (x ∷ xs) c last st j h = time_cases (leb x.arrival t) refl (takes_any xs (tallied s es t last st x c) (Some x))
    where
      Next : Type 0
      Next = (st' : State Packet) (j' : List Packet) → Holds st' j' → Joined j' (takes s es t (tallied s es t last st x c) (Some x) st' xs).state

      entry_cases : x.arrival ≤ t → Next → (b : Bool) → (welcome s t last st x && admitted s es x) ≡ b → Joined j (takes s es t (tallied s es t last st x c) (Some x) (cond {A = State Packet} b (enter s st x) st) xs).state
      entry_cases low ih false e = ih st j h
      entry_cases low ih true e =
          let both = and_parts (welcome s t last st x) (admitted s es x) e in
          let w = welcomed s t last st x low both.0 in
          let r = ih (enter s st x) (x ∷ j) (enters st j x h w both.1) in
          record { all = r.all; there = r.there; only_now = λ p ne. r.only_now p ne ∙ ap (λ (b : Bool). b || holds j p) (not_x p ne w.now) }
        where
          not_x : (p : Packet) → (p.arrival ≡ t → ⊥) → x.arrival ≡ t → same p x ≡ false
          not_x p ne now = ⊎_elim (λ (k : same p x ≡ true). absurd (ne (ap (λ (y : Packet). y.arrival) (same-is p x k) ∙ now))) (λ k. k) (cases_Bool (same p x))

      time_cases : (b : Bool) → leb x.arrival t ≡ b → Next → Joined j (cond {A = Taken} b (takes s es t (tallied s es t last st x c) (Some x) (take_in s es t last st x) xs) (record { state = st; last = last; counts = c; left = x ∷ xs })).state
      time_cases true e ih = entry_cases (leb-true x.arrival t e) ih (welcome s t last st x && admitted s es x) refl
      time_cases false e ih = record { all = j; there = h; only_now = λ p ne. refl }

-- runs with the same packets so far
module _ (s : Traffic) (lists : ℕ → List Entry) (up up' : Packet → Bool) (c : ℕ) (agree : (p : Packet) → p.arrival < c → up p ≡ up' p) where
  same-joining : (u : ℕ) → u < c → joining s lists up u ≡ joining s lists up' u
  same-joining u l = λ i q. each q i
    where
      each : (q : ℕ) → joining s lists up u q ≡ joining s lists up' u q
      each q = kept_same (Comes s (list_at s lists u) q u) up up' (λ x k. agree x (let e = k.now in omega arith)) (arriving s (list_at s lists u) q u (length s.flows)) (all_come s (list_at s lists u) q u (length s.flows) (omega arith))

  run_up : (t : ℕ) → t ≤ c → run s lists up t ≡ run s lists up' t
  run_up t l = ticks-same (wire s) (gate_at s lists) (gate_at s lists) (fits_at s lists) (fits_at s lists) (joining s lists up) (joining s lists up') t (λ u h. refl) (λ u h. refl) (λ u h. same-joining u (omega arith))

  below_up : (t : ℕ) → t ≤ c → starts_below s lists up t ≡ starts_below s lists up' t
  below_up zero l = refl
  below_up (suc t) l =
      let past = below_up t (omega arith) in
      let state = run_up t (omega arith) in
      let new = same-joining t (omega arith) in
      λ i. past i ++ started t (send (wire s) (fits_at s lists t) t (gate_at s lists t) (join (new i) (state i))).start

record Bound (s : Traffic) (r : Ran) : Type 0 where
  joined : List Packet
  state_is : r.port.state ≡ run s (in_force s r.overs) (holds joined) r.port.clock
  past : (p : Packet) → r.port.clock ≤ p.arrival → holds joined p ≡ false
  answers : r.answered ≡ starts_below s (in_force s r.overs) (holds joined) r.port.clock
  lawful : Lawful s r

module _ (s : Traffic) (fs : Fits s) (r : Ran) (k : Bound s r) where
  abbrev now : ℕ
  now = r.port.clock

  abbrev new : ℕ → List Entry
  new = lists s fs r k.lawful

  abbrev list : List Entry
  list = es s fs r k.lawful

  none_now : (q : ℕ) → filter (holds k.joined) (arriving s list q now (length s.flows)) ≡ []
  none_now q = kept_none (holds k.joined) _ (All-weaker (Comes s list q now) (λ z. holds k.joined z ≡ false) (λ z c. k.past z (let e = c.now in omega arith)) _ (all_come s list q now (length s.flows) (omega arith)))

  at_first : r.port.state ≡ run s new (holds k.joined) now
  at_first = k.state_is

  got : Joined s fs list now (λ q. (run s new (holds k.joined) now).waiting q) (early s fs r k.lawful (holds k.joined)) k.joined (taken s r.port r.left).state
  got = takes_any s fs list now (λ q. (run s new (holds k.joined) now).waiting q) (early s fs r k.lawful (holds k.joined)) r.left r.port.counts r.port.last r.port.state k.joined
      (λ q. ap (λ (x : State Packet). x.waiting q) at_first ∙ sym (append-nil _) ∙ ap (λ (l : List Packet). (run s new (holds k.joined) now).waiting q ++ l) (sym (none_now q)))

  agree : (p : Packet) → p.arrival < now → holds k.joined p ≡ holds got.all p
  agree p l = sym (got.only_now p (λ e. omega arith))

  joined_now : (taken s r.port r.left).state ≡ join (λ q. filter (holds got.all) (arriving s list q now (length s.flows))) (run s new (holds got.all) now)
  joined_now =
      let old : run s new (holds k.joined) now ≡ run s new (holds got.all) now = run_up s new (holds k.joined) (holds got.all) now agree now (omega arith) in
      let waits : (q : ℕ) → (taken s r.port r.left).state.waiting q ≡ (run s new (holds got.all) now).waiting q ++ filter (holds got.all) (arriving s list q now (length s.flows)) = λ q. got.there q ∙ ap (λ (x : State Packet). x.waiting q ++ filter (holds got.all) (arriving s list q now (length s.flows))) old in
      let frees : (taken s r.port r.left).state.free ≡ (run s new (holds got.all) now).free = takes_free s fs list now (holds got.all) r.left r.port.counts r.port.last r.port.state ∙ ap (λ (x : State Packet). x.free) (at_first ∙ old) in
      λ i. record { waiting = λ q. waits q i; free = frees i }

  decide_bound : Bound s (decided s r)
  decide_bound =
      let it = turn_is s fs r k.lawful (holds got.all) joined_now in
      record {
        joined = got.all;
        state_is = ap (λ (x : Turn Packet). x.after) it;
        past = λ p h. got.only_now p (λ e. omega arith) ∙ k.past p (omega arith);
        answers =
            let before = k.answers ∙ below_up s new (holds k.joined) (holds got.all) now agree now (omega arith) in
            let fresh = ap (λ (x : Turn Packet). x.start) it in
            λ i. before i ++ started now (fresh i);
        lawful = lawful' s fs r k.lawful;
      }

steps_bound : (s : Traffic) → Fits s → (n : ℕ) (r : Ran) → Bound s r → Bound s (steps s n r)
steps_bound s fs zero r k = k
steps_bound s fs (suc n) r k = go (turn s r.port r.left).start (decide_bound s fs r k) (steps_bound s fs n (decided s r) (decide_bound s fs r k))
  where
    go : (o : Option Packet) → Bound s (decided s r) → Bound s (steps s n (decided s r)) → Bound s (elim o [ None ↦ steps s n (decided s r) | Some p ↦ decided s r ])
    go None a b = b
    go (Some p) a b = a

bound_cond : (s : Traffic) (b : Bool) (x y : Ran) → (b ≡ true → Bound s x) → Bound s y → Bound s (cond b x y)
bound_cond s true x y f g = f refl
bound_cond s false x y f g = g

call_bound : (s : Traffic) → Fits s → (accepts : List Entry → Bool) → ((es : List Entry) → accepts es ≡ true → Accepted s es) → (c : Call) (r : Ran) → Bound s r → Bound s (call s accepts c r)
call_bound s fs accepts sound (advance u) r k = bound_cond s _ _ _ (λ _. subst (Bound s) (sym (advance_steps s (u - r.port.clock) r.port r.left r.answered r.overs)) (steps_bound s fs (u - r.port.clock) r k)) k
call_bound s fs accepts sound counts r k = k
call_bound s fs accepts sound (take_over es) r k = bound_cond s (accepts es) _ _ (λ a. record { joined = k.joined; state_is = k.state_is ∙ run-same s (holds k.joined) (in_force s r.overs) (in_force s (over es r).overs) r.port.clock (over-lists s fs es r); past = k.past; answers = k.answers ∙ below-same s (holds k.joined) (in_force s r.overs) (in_force s (over es r).overs) r.port.clock (over-lists s fs es r); lawful = lawful_over s fs es r (sound es a) k.lawful }) k

calls_bound : (s : Traffic) → Fits s → (accepts : List Entry → Bool) → ((es : List Entry) → accepts es ≡ true → Accepted s es) → (cs : List Call) (r : Ran) → Bound s r → Bound s (calls s accepts cs r)
calls_bound s fs accepts sound [] r k = k
calls_bound s fs accepts sound (c ∷ cs) r k = calls_bound s fs accepts sound cs (call s accepts c r) (call_bound s fs accepts sound c r k)

pub any_source : AnySource
any_source s fs accepts sound first a source cs =
    let k = calls_bound s fs accepts sound cs (made first source) (record { joined = []; state_is = refl; past = λ p h. refl; answers = refl; lawful = lawful_made s first source (sound first a) }) in
    let r = calls s accepts cs (made first source) in (
      k.joined,
      record {
        lists = k.lawful.accepted;
        state = k.state_is;
        exact = k.answers;
        in_time = in_time_once s fs (holds k.joined) r k.lawful.accepted k.answers;
        places = λ q.
            let most = (latest_waits s fs (in_force s r.overs) k.lawful.accepted (holds k.joined) r.port.clock q).1 in
            let waits : length (r.port.state.waiting q) ≡ length ((run s (in_force s r.overs) (holds k.joined) r.port.clock).waiting q) = ap (λ (x : State Packet). length (x.waiting q)) k.state_is in
            let both = length-append ((run s (in_force s r.overs) (holds k.joined) r.port.clock).waiting q) (joining s (in_force s r.overs) (holds k.joined) r.port.clock q) in
            omega arith;
      },
    )
