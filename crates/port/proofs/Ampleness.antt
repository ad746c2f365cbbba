-- A port on accepted lists has places enough, whatever comes: it is where the three steps bring it for the packets that joined. Assumes nothing.
use Rattle.std.proofs.Common.{◌≡◌, ℕ, ◌/◌, ◌<◌, ◌≤◌, Bool, false, List, [], ◌∷◌, ◌++◌, length, filter, sym, refl, ap, ◌∙◌, subst, arith}
use Rattle.std.specs.List.{AllByRecursion}
use Rattle.std.proofs.lemmas.List.{append-nil}
use Rattle.traffic.specs.declared.packet.Packet.{Packet}
use Rattle.traffic.specs.Packets.{Traffic}
use Rattle.gates.specs.declared.entry.Entry.{Entry}
use Rattle.sending.specs.Sheet.{Fits, cycle, wire}
use Rattle.sending.specs.Port.{State, Turn, fits_at, gate_at, holds, join, joining, list_at, arriving, run}
use Rattle.sending.specs.InTime.{Accepted}
use Rattle.sending.specs.Calls.{Port, decide, new_port, now_in_force, pend, taken}
use Rattle.sending.specs.Runs.{Over, Ran, in_force, made}
use Rattle.sending.proofs.Lists.{kept_same}
use Rattle.sending.proofs.Packets.{Comes, all_come}
use Rattle.sending.proofs.Source.{takes_free}
use Rattle.sending.proofs.Waiting.{latest_waits}
use Rattle.sending.proofs.Bridge.{Lawful as LawfulRun, lawful', lawful_made, lawful_over, over-lists, run-same, ticks-same, turn_is, early, es-is}
use Rattle.sending.proofs.Anyhow.{Joined, takes_any}
use Rattle.port.specs.Life.{Event, instant, over, lived, Lawful, Ample}

-- a port with its lists, as a run
abbrev ran : Port → List Over → List Packet → Ran
ran p os xs = record { port = p; left = xs; answered = []; overs = os }

-- the port is where the three steps bring it for the packets that joined
record Bound (s : Traffic) (p : Port) (os : List Over) : Type 0 where
  joined : List Packet
  state_is : p.state ≡ run s (in_force s os) (holds joined) p.clock
  past : (x : Packet) → p.clock ≤ x.arrival → holds joined x ≡ false
  lawful : LawfulRun s (ran p os [])

-- runs with the same packets so far
run_up : (s : Traffic) (lists : ℕ → List Entry) (up up' : Packet → Bool) (t : ℕ) → ((x : Packet) → x.arrival < t → up x ≡ up' x) → run s lists up t ≡ run s lists up' t
run_up s lists up up' t agree = ticks-same (wire s) (gate_at s lists) (gate_at s lists) (fits_at s lists) (fits_at s lists) (joining s lists up) (joining s lists up') t (λ u h. refl) (λ u h. refl) (λ u h. each u h)
  where
    each : (u : ℕ) → u < t → joining s lists up u ≡ joining s lists up' u
    each u l = λ i q. kept_same (Comes s (list_at s lists u) q u) up up' (λ x k. agree x (let e = k.now in omega arith)) (arriving s (list_at s lists u) q u (length s.flows)) (all_come s (list_at s lists u) q u (length s.flows) (omega arith)) i

module _ (s : Traffic) (fs : Fits s) (p : Port) (os : List Over) (k : Bound s p os) (xs : List Packet) where
  law : LawfulRun s (ran p os xs)
  law = record { coming = k.lawful.coming; present = k.lawful.present; accepted = k.lawful.accepted }

  abbrev t : ℕ
  t = p.clock

  abbrev es : List Entry
  es = now_in_force s p

  abbrev lists : ℕ → List Entry
  lists = in_force s os

  none_now : (q : ℕ) → filter (holds k.joined) (arriving s es q t (length s.flows)) ≡ []
  none_now q = go _ (all_come s es q t (length s.flows) (omega arith))
    where
      go : (zs : List Packet) → AllByRecursion (Comes s es q t) zs → filter (holds k.joined) zs ≡ []
      go [] a = refl
      go (z ∷ zs) a = rw (k.past z (let e = a.0.now in omega arith)) (go zs a.1)

  before : (q : ℕ) → p.state.waiting q ≡ (run s lists (holds k.joined) t).waiting q ++ filter (holds k.joined) (arriving s es q t (length s.flows))
  before q =
      ap (λ (x : State Packet). x.waiting q) k.state_is ∙ sym (append-nil _)
      ∙ ap (λ (l : List Packet). (run s lists (holds k.joined) t).waiting q ++ l) (sym (none_now q))

  got : Joined s fs es t (λ q. (run s lists (holds k.joined) t).waiting q) (early s fs (ran p os xs) law (holds k.joined)) k.joined (taken s p xs).state
  got = takes_any s fs es t (λ q. (run s lists (holds k.joined) t).waiting q) (early s fs (ran p os xs) law (holds k.joined)) xs p.counts p.last p.state k.joined before

  old : run s lists (holds k.joined) t ≡ run s lists (holds got.all) t
  old = run_up s lists (holds k.joined) (holds got.all) t (λ x l. sym (got.only_now x (λ e. omega arith)))

  joined_now : (taken s p xs).state ≡ join (λ q. filter (holds got.all) (arriving s es q t (length s.flows))) (run s lists (holds got.all) t)
  joined_now =
      let same = old in
      let waits : (q : ℕ) → (taken s p xs).state.waiting q ≡ (run s lists (holds got.all) t).waiting q ++ filter (holds got.all) (arriving s es q t (length s.flows)) = λ q. got.there q ∙ ap (λ (x : State Packet). x.waiting q ++ filter (holds got.all) (arriving s es q t (length s.flows))) same in
      let frees : (taken s p xs).state.free ≡ (run s lists (holds got.all) t).free = takes_free s fs es t (holds k.joined) xs p.counts p.last p.state ∙ ap (λ (x : State Packet). x.free) (k.state_is ∙ same) in
      λ i. record { waiting = λ q. waits q i; free = frees i }

  -- a place for each flow is enough
  fits_in : (q : ℕ) → length ((taken s p xs).state.waiting q) ≤ length s.flows
  fits_in q =
      let now : es ≡ lists (t / cycle s) = es-is s fs (ran p os xs) law in
      let here : (taken s p xs).state ≡ join (joining s lists (holds got.all) t) (run s lists (holds got.all) t) = joined_now ∙ ap (λ (l : List Entry). join (λ q. filter (holds got.all) (arriving s l q t (length s.flows))) (run s lists (holds got.all) t)) now in
      subst (λ (x : State Packet). length (x.waiting q) ≤ length s.flows) (sym here) (latest_waits s fs lists k.lawful.accepted (holds got.all) t q).1

  -- an instant is decided
  decided_bound : Bound s (decide s p xs).port os
  decided_bound =
      let it = turn_is s fs (ran p os xs) law (holds got.all) joined_now in
      let after = lawful' s fs (ran p os xs) law in
      record {
        joined = got.all;
        state_is = ap (λ (x : Turn Packet). x.after) it;
        past = λ x h. got.only_now x (λ e. omega arith) ∙ k.past x (omega arith);
        lawful = record { coming = after.coming; present = after.present; accepted = after.accepted };
      }

-- a list is taken over
over_bound : (s : Traffic) → Fits s → (p : Port) (os : List Over) → Bound s p os → (es : List Entry) → Accepted s es → Bound s (pend es p) (record { at = p.clock; list = es } ∷ os)
over_bound s fs p os k es a =
    let after = lawful_over s fs es (ran p os []) a k.lawful in
    record {
      joined = k.joined;
      state_is = k.state_is ∙ run-same s (holds k.joined) (in_force s os) (in_force s (record { at = p.clock; list = es } ∷ os)) p.clock (over-lists s fs es (ran p os []));
      past = k.past;
      lawful = record { coming = after.coming; present = after.present; accepted = after.accepted };
    }

bound_ample : (s : Traffic) → Fits s → length s.flows ≤ 64 → (life : List Event) (p : Port) (os : List Over) → Bound s p os → Lawful s life → (source : List Packet) (q : ℕ) → length ((taken s (lived s life p) source).state.waiting q) ≤ 64
bound_ample s fs few [] p os k l source q = let h = fits_in s fs p os k source q in omega arith
bound_ample s fs few (instant xs ∷ life) p os k l source q = bound_ample s fs few life (decide s p xs).port os (decided_bound s fs p os k xs) l source q
bound_ample s fs few (over es ∷ life) p os k l source q = bound_ample s fs few life (pend es p) (record { at = p.clock; list = es } ∷ os) (over_bound s fs p os k es l.0) l.1 source q

-- a port on an accepted list has places enough
pub new_ample : (s : Traffic) → Fits s → length s.flows ≤ 64 → (es : List Entry) → Accepted s es → Ample s (new_port es)
new_ample s fs few es a life l source q =
    let law = lawful_made s es [] a in
    bound_ample s fs few life (new_port es) (made es []).overs (record { joined = []; state_is = refl; past = λ x h. refl; lawful = record { coming = law.coming; present = law.present; accepted = law.accepted } }) l source q
