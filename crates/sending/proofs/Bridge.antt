-- Whatever the calls, the port is where the three steps bring it.
use Rattle.std.proofs.Common.{◌≡◌, ℕ, zero, suc, ◌+◌, ◌-◌, ◌*◌, ◌/◌, ◌%◌, ◌<◌, ◌≤◌, Bool, true, false, cond, eqb, leb, List, [], ◌∷◌, ◌++◌, length, Some, None, filter, Option, sym, refl, ap, ◌∙◌, subst, mod-lt, div-add-mod', div-mul-le_self, arith}
use Rattle.std.specs.List.{AllByRecursion}
use Rattle.std.proofs.ByRecursion.{all_kept_by, All-weaker}
use Rattle.std.proofs.lemmas.List.{append-nil}
use Rattle.std.proofs.lemmas.Bool.{le-leb, lt-leb, eqb-true, eqb-false}
use Rattle.traffic.specs.declared.packet.Packet.{Packet}
use Rattle.traffic.specs.Packets.{Traffic}
use Rattle.gates.specs.declared.entry.Entry.{Entry}
use Rattle.gates.specs.Open.{open_at, stays_open}
use Rattle.sending.specs.Sheet.{Fits, cycle, packet_at, wire}
use Rattle.sending.specs.Port.{State, Turn, fits_at, gate_at, holds, join, joining, list_at, arriving, run, send, starts, ticks}
use Rattle.sending.specs.InTime.{Accepted}
use Rattle.sending.specs.Calls.{Decided, Port, Start, advance_by, decide, now_in_force, still_pending, switch, taken, turn}
use Rattle.sending.specs.Runs.{Call, Over, Ran, Rises, Run, advance, advanced, call, calls, counts, in_force, made, outcome, over, started, starts_below, take_over}
use Rattle.sending.specs.Promise.{AsThreeSteps}
use Rattle.sending.proofs.Gated.{in_cycle}
use Rattle.sending.proofs.Steps.{ticks_all}
use Rattle.sending.proofs.Packets.{Comes, all_come}
use Rattle.sending.proofs.Source.{Early, takes_all, Left, takes-left, takes_free}

-- runs that are given the same are the same
pub ticks-same : {P : Type 0} (wire : P → ℕ) (gate gate' : ℕ → Option ℕ) (fits fits' : ℕ → ℕ → ℕ → Bool) (comes comes' : ℕ → ℕ → List P) (t : ℕ) →
    ((u : ℕ) → u < t → gate u ≡ gate' u) → ((u : ℕ) → u < t → fits u ≡ fits' u) → ((u : ℕ) → u < t → comes u ≡ comes' u) → ticks wire gate fits comes t ≡ ticks wire gate' fits' comes' t
ticks-same wire gate gate' fits fits' comes comes' zero g f c = refl
ticks-same wire gate gate' fits fits' comes comes' (suc t) g f c =
    let past = ticks-same wire gate gate' fits fits' comes comes' t (λ u h. g u (omega arith)) (λ u h. f u (omega arith)) (λ u h. c u (omega arith)) in
    let ge = g t (omega arith) in
    let fe = f t (omega arith) in
    let ce = c t (omega arith) in
    λ i. (send wire (fe i) t (ge i) (join (ce i) (past i))).after

module _ (s : Traffic) (up : Packet → Bool) where
  pub run-same : (lists lists' : ℕ → List Entry) (t : ℕ) → ((u : ℕ) → u < t → lists (u / cycle s) ≡ lists' (u / cycle s)) → run s lists up t ≡ run s lists' up t
  run-same lists lists' t h = ticks-same (wire s) (gate_at s lists) (gate_at s lists') (fits_at s lists) (fits_at s lists') (joining s lists up) (joining s lists' up) t
      (λ u l. ap (λ (es : List Entry). open_at es (u % cycle s)) (h u l))
      (λ u l. ap {B = ℕ → ℕ → Bool} (λ (es : List Entry) (q e : ℕ). stays_open es q (u % cycle s) e) (h u l))
      (λ u l. ap {B = ℕ → List Packet} (λ (es : List Entry) (q : ℕ). filter up (arriving s es q u (length s.flows))) (h u l))

  pub starts-same : (lists lists' : ℕ → List Entry) (t : ℕ) → ((u : ℕ) → u ≤ t → lists (u / cycle s) ≡ lists' (u / cycle s)) → starts s lists up t ≡ starts s lists' up t
  starts-same lists lists' t h =
      let past = run-same lists lists' t (λ u l. h u (omega arith)) in
      let now = h t (omega arith) in
      λ i. (send (wire s) (λ q e. stays_open (now i) q (t % cycle s) e) t (open_at (now i) (t % cycle s)) (join (λ q. filter up (arriving s (now i) q t (length s.flows))) (past i))).start

  pub below-same : (lists lists' : ℕ → List Entry) (t : ℕ) → ((u : ℕ) → u < t → lists (u / cycle s) ≡ lists' (u / cycle s)) → starts_below s lists up t ≡ starts_below s lists' up t
  below-same lists lists' zero h = refl
  below-same lists lists' (suc t) h =
      let past = below-same lists lists' t (λ u l. h u (omega arith)) in
      let now = starts-same lists lists' t (λ u l. h u (omega arith)) in
      λ i. past i ++ started t (now i)

-- the run one instant later
abbrev pub decided : Traffic → Ran → Ran
decided s r = record {
  port = (decide s r.port r.left).port;
  left = (decide s r.port r.left).left;
  answered = r.answered ++ started r.port.clock (decide s r.port r.left).start;
  overs = r.overs;
}

-- n instants later, or behind a start
abbrev pub steps : Traffic → ℕ → Ran → Ran
steps s zero r = r
steps s (suc n) r = elim (turn s r.port r.left).start [ None ↦ steps s n (decided s r) | Some p ↦ decided s r ]

-- that is what an advance does
pub advance_steps : (s : Traffic) (n : ℕ) (p : Port) (left : List Packet) (out : List Start) (os : List Over) →
    advanced (record { port = p; left = left; answered = out; overs = os }) (advance_by s n p left) ≡ steps s n (record { port = p; left = left; answered = out; overs = os })
advance_steps s zero p left out os = λ i. record { port = p; left = left; answered = append-nil out i; overs = os }
advance_steps s (suc n) p left out os = go (decide s p left).start refl (advance_steps s n (decide s p left).port (decide s p left).left out os)
  where
    r : Ran
    r = record { port = p; left = left; answered = out; overs = os }

    d : Decided
    d = decide s p left

    go : (o : Option Packet) → d.start ≡ o →
        advanced (record { port = d.port; left = d.left; answered = out; overs = os }) (advance_by s n d.port d.left) ≡ steps s n (record { port = d.port; left = d.left; answered = out; overs = os }) →
        advanced r (elim o [ None ↦ advance_by s n d.port d.left | Some x ↦ record { port = d.port; left = d.left; start = Some (record { at = p.clock; packet = x }) } ])
        ≡ elim o [ None ↦ steps s n (decided s r) | Some x ↦ decided s r ]
    go None e h = h ∙ (λ i. steps s n (record { port = d.port; left = d.left; answered = none_more (sym e) i; overs = os }))
      where
        none_more : None ≡ d.start → out ≡ out ++ started p.clock d.start
        none_more k = sym (append-nil out) ∙ ap (λ (o : Option Packet). out ++ started p.clock o) k
    go (Some x) e h = λ i. record { port = d.port; left = d.left; answered = out ++ started p.clock (sym e i); overs = os }

-- the lists in force: accepted ones; the present cycle has the port's list, the coming ones the pending list if there is one
pub record Lawful (s : Traffic) (r : Ran) : Type 0 where
  pub coming : (n : ℕ) → r.port.clock ≤ n * cycle s → in_force s r.overs n ≡ switch true r.port.list r.port.pending
  pub present : (n : ℕ) → n * cycle s < r.port.clock → r.port.clock < n * cycle s + cycle s → in_force s r.overs n ≡ r.port.list
  pub accepted : (n : ℕ) → Accepted s (in_force s r.overs n)

pub record Tied (s : Traffic) (source : List Packet) (r : Ran) : Type 0 where
  pub state_is : r.port.state ≡ run s (in_force s r.overs) (holds source) r.port.clock
  pub rising : Rises r.port.last r.left
  pub later : AllByRecursion (λ x. r.port.clock ≤ x.arrival) r.left
  pub still : (p : Packet) → r.port.clock ≤ p.arrival → holds source p ≡ holds r.left p
  pub answers : r.answered ≡ starts_below s (in_force s r.overs) (holds source) r.port.clock
  pub lawful : Lawful s r

cond_ok : (s : Traffic) (b : Bool) (x y : List Entry) → Accepted s x → Accepted s y → Accepted s (cond b x y)
cond_ok s true x y a k = a
cond_ok s false x y a k = k

module _ (s : Traffic) (fs : Fits s) (r : Ran) (k : Lawful s r) where
  abbrev pub t : ℕ
  t = r.port.clock

  abbrev pub es : List Entry
  es = now_in_force s r.port

  abbrev pub lists : ℕ → List Entry
  lists = in_force s r.overs

  -- the first step puts the right list into force
  pub es-is : es ≡ lists (t / cycle s)
  es-is = go (eqb (t % cycle s) 0) refl
    where
      go : (b : Bool) → eqb (t % cycle s) 0 ≡ b → switch b r.port.list r.port.pending ≡ lists (t / cycle s)
      go true e =
          let whole : t / cycle s * cycle s + t % cycle s ≡ t = div-add-mod' t (cycle s) in
          let none : t % cycle s ≡ 0 = eqb-true (t % cycle s) 0 e in
          sym (k.coming (t / cycle s) (omega arith))
      go false e =
          let whole : t / cycle s * cycle s + t % cycle s ≡ t = div-add-mod' t (cycle s) in
          let some : (t % cycle s ≡ 0 → ⊥) = eqb-false (t % cycle s) 0 e in
          let m = mod-lt t fs.some_time in
          sym (k.present (t / cycle s) (omega arith) (omega arith))

  pub lawful' : Lawful s (decided s r)
  lawful' = record {
    coming = λ n h. k.coming n (omega arith) ∙ same_after (eqb (t % cycle s) 0) r.port.list r.port.pending;
    present = λ n a b.
        let it = in_cycle (cycle s) n (t - n * cycle s) (omega arith) in
        let e : n * cycle s + (t - n * cycle s) ≡ t = omega arith in
        let d : t / cycle s ≡ n = ap (λ (u : ℕ). u / cycle s) (sym e) ∙ it.0 in
        ap lists (sym d) ∙ sym es-is;
    accepted = k.accepted;
  }
    where
      same_after : (b : Bool) (l : List Entry) (p : Option (List Entry)) → switch true l p ≡ switch true (switch b l p) (still_pending b p)
      same_after false l p = refl
      same_after true l None = refl
      same_after true l (Some x) = refl

  -- what waits has arrived
  pub early : (up : Packet → Bool) (q : ℕ) → AllByRecursion (Early s t) ((run s lists up t).waiting q)
  early up q = ticks_all (Early s t) (wire s) (gate_at s lists) (fits_at s lists) (joining s lists up) t
      (λ u r l. all_kept_by up (Early s t) _ (All-weaker (Comes s (list_at s lists u) r u) (Early s t) (λ x c. (c.ours, let k = c.now in omega arith)) _ (all_come s (list_at s lists u) r u (length s.flows) (omega arith)))) q

  -- with the right packets joined, the third step is the run's
  pub turn_is : (up : Packet → Bool) → (taken s r.port r.left).state ≡ join (λ q. filter up (arriving s es q t (length s.flows))) (run s lists up t) →
      turn s r.port r.left ≡ send (wire s) (fits_at s lists t) t (gate_at s lists t) (join (joining s lists up t) (run s lists up t))
  turn_is up joined = λ i. send (wire s) (λ q e. stays_open (both i) q (t % cycle s) e) t (open_at (both i) (t % cycle s)) (states i)
    where
      both : es ≡ lists (t / cycle s)
      both = es-is

      states : (taken s r.port r.left).state ≡ join (joining s lists up t) (run s lists up t)
      states = joined ∙ ap (λ (l : List Entry). join (λ q. filter up (arriving s l q t (length s.flows))) (run s lists up t)) both

module _ (s : Traffic) (fs : Fits s) (source : List Packet) (r : Ran) (k : Tied s source r) where
  abbrev new : ℕ → List Entry
  new = lists s fs r k.lawful

  abbrev now : ℕ
  now = t s fs r k.lawful

  abbrev list : List Entry
  list = es s fs r k.lawful

  state_now : r.port.state ≡ run s new (holds source) now
  state_now = k.state_is

  joined_now : (taken s r.port r.left).state ≡ join (λ q. filter (holds source) (arriving s list q now (length s.flows))) (run s new (holds source) now)
  joined_now =
      let waits : (q : ℕ) → (taken s r.port r.left).state.waiting q ≡ (run s new (holds source) now).waiting q ++ filter (holds source) (arriving s list q now (length s.flows)) =
      takes_all s fs list now (holds source) (λ q. (run s new (holds source) now).waiting q) (early s fs r k.lawful (holds source)) r.left r.port.counts r.port.last r.port.state k.rising k.later (λ i a b. k.still (packet_at s i now) (omega arith)) (λ q. ap (λ (x : State Packet). x.waiting q) state_now) in
      let frees : (taken s r.port r.left).state.free ≡ (run s new (holds source) now).free = takes_free s fs list now (holds source) r.left r.port.counts r.port.last r.port.state ∙ ap (λ (x : State Packet). x.free) state_now in
      λ i. record { waiting = λ q. waits q i; free = frees i }

  decide_tied : Tied s source (decided s r)
  decide_tied =
      let l : Left s fs list now (holds source) r.left (taken s r.port r.left) = takes-left s fs list now (holds source) r.left r.port.counts r.port.last r.port.state k.rising in
      let it = turn_is s fs r k.lawful (holds source) joined_now in
      record {
        state_is = ap (λ (x : Turn Packet). x.after) it;
        rising = l.rising;
        later = l.later;
        still = λ p h. k.still p (omega arith) ∙ l.still p h;
        answers =
            let before = k.answers in
            let fresh = ap (λ (x : Turn Packet). x.start) it in
            λ i. before i ++ started now (fresh i);
        lawful = lawful' s fs r k.lawful;
      }

steps_tied : (s : Traffic) → Fits s → (source : List Packet) (n : ℕ) (r : Ran) → Tied s source r → Tied s source (steps s n r)
steps_tied s fs source zero r k = k
steps_tied s fs source (suc n) r k = go (turn s r.port r.left).start (decide_tied s fs source r k) (steps_tied s fs source n (decided s r) (decide_tied s fs source r k))
  where
    go : (o : Option Packet) → Tied s source (decided s r) → Tied s source (steps s n (decided s r)) → Tied s source (elim o [ None ↦ steps s n (decided s r) | Some p ↦ decided s r ])
    go None a b = b
    go (Some p) a b = a

tied_cond : (s : Traffic) (source : List Packet) (b : Bool) (x y : Ran) → (b ≡ true → Tied s source x) → Tied s source y → Tied s source (cond b x y)
tied_cond s source true x y f g = f refl
tied_cond s source false x y f g = g

-- a list taken over changes the coming cycles only
module _ (s : Traffic) (fs : Fits s) (es : List Entry) (r : Ran) where
  over-past : (n : ℕ) → n * cycle s < r.port.clock → in_force s (over es r).overs n ≡ in_force s r.overs n
  over-past n h = ap (λ (b : Bool). cond b es (in_force s r.overs n)) (lt-leb r.port.clock (n * cycle s) h)

  pub over-lists : (u : ℕ) → u < r.port.clock → in_force s r.overs (u / cycle s) ≡ in_force s (over es r).overs (u / cycle s)
  over-lists u h = sym (over-past (u / cycle s) (let k = div-mul-le_self u (cycle s) in omega arith))

  pub lawful_over : Accepted s es → Lawful s r → Lawful s (over es r)
  lawful_over a k = record {
    coming = λ n h. ap (λ (b : Bool). cond b es (in_force s r.overs n)) (le-leb r.port.clock (n * cycle s) h);
    present = λ n x y. over-past n x ∙ k.present n x y;
    accepted = λ n. cond_ok s (leb r.port.clock (n * cycle s)) es (in_force s r.overs n) a (k.accepted n);
  }

call_tied : (s : Traffic) → Fits s → (accepts : List Entry → Bool) → ((es : List Entry) → accepts es ≡ true → Accepted s es) → (source : List Packet) (c : Call) (r : Ran) → Tied s source r → Tied s source (call s accepts c r)
call_tied s fs accepts sound source (advance u) r k = tied_cond s source _ _ _ (λ _. subst (Tied s source) (sym (advance_steps s (u - r.port.clock) r.port r.left r.answered r.overs)) (steps_tied s fs source (u - r.port.clock) r k)) k
call_tied s fs accepts sound source counts r k = k
call_tied s fs accepts sound source (take_over es) r k = tied_cond s source (accepts es) _ _ (λ a. record { state_is = k.state_is ∙ run-same s (holds source) (in_force s r.overs) (in_force s (over es r).overs) r.port.clock (over-lists s fs es r); rising = k.rising; later = k.later; still = k.still; answers = k.answers ∙ below-same s (holds source) (in_force s r.overs) (in_force s (over es r).overs) r.port.clock (over-lists s fs es r); lawful = lawful_over s fs es r (sound es a) k.lawful }) k

calls_tied : (s : Traffic) → Fits s → (accepts : List Entry → Bool) → ((es : List Entry) → accepts es ≡ true → Accepted s es) → (source : List Packet) (cs : List Call) (r : Ran) → Tied s source r → Tied s source (calls s accepts cs r)
calls_tied s fs accepts sound source [] r k = k
calls_tied s fs accepts sound source (c ∷ cs) r k = calls_tied s fs accepts sound source cs (call s accepts c r) (call_tied s fs accepts sound source c r k)

pub lawful_made : (s : Traffic) (es : List Entry) (source : List Packet) → Accepted s es → Lawful s (made es source)
lawful_made s es source a = record { coming = λ n h. first n; present = λ n x y. first n; accepted = λ n. subst (Accepted s) (sym (first n)) a }
  where
    first : (n : ℕ) → in_force s (made es source).overs n ≡ es
    first n = ap (λ (b : Bool). cond b es []) (le-leb 0 (n * cycle s) (omega arith))

made_tied : (s : Traffic) (es : List Entry) (source : List Packet) → Accepted s es → Rises None source → Tied s source (made es source)
made_tied s es source a rise = record { state_is = refl; rising = rise; later = always source; still = λ p h. refl; answers = refl; lawful = lawful_made s es source a }
  where
    always : (xs : List Packet) → AllByRecursion (λ x. 0 ≤ x.arrival) xs
    always [] = tt
    always (x ∷ xs) = (omega arith, always xs)

pub outcome_tied : (s : Traffic) → Fits s → (r : Run s) → Tied s r.source (outcome s r)
outcome_tied s fs r = calls_tied s fs r.accepts r.sound r.source r.done (made r.first r.source) (made_tied s r.first r.source (r.sound r.first r.first_accepted) r.ordered)

pub as_three_steps : AsThreeSteps
as_three_steps s fs r = let k = outcome_tied s fs r in (k.lawful.accepted, k.answers)
