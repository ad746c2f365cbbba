-- Every packet of a source has started, waits, was counted as thrown away, or is still to come.
use Rattle.std.proofs.Common.{◌≡◌, ℕ, zero, suc, ◌+◌, ◌-◌, ◌%◌, ◌^◌, ◌<◌, ◌≤◌, min, Bool, true, false, cond, ◌&&◌, eqb, leb, List, [], ◌∷◌, length, Some, None, Option, sym, refl, ap, ◌∙◌, subst, ⊎_elim, arith}
use Rattle.std.proofs.lemmas.List.{length-append}
use Rattle.std.proofs.lemmas.Bool.{and_parts, cases_Bool, cases_eq, eq-eqb, ne_eqb}
use Rattle.traffic.specs.declared.packet.Packet.{Packet}
use Rattle.traffic.specs.Packets.{Traffic}
use Rattle.traffic.specs.Pattern.{mandatory_at}
use Rattle.gates.specs.declared.entry.Entry.{Entry}
use Rattle.gates.specs.Open.{alone_below, gates_at, open_at, stays_open}
use Rattle.sending.specs.Sheet.{Fits, OfSheet, cycle, flow, mandatory, placed, queue, waits_before, wire}
use Rattle.sending.specs.Rules.{admitted}
use Rattle.sending.specs.Port.{State, Turn, idle, send, serve}
use Rattle.sending.specs.Calls.{Counts, Taken, enter, now_in_force, of_sheet, one_foreign, one_unadmitted, take_in, taken, takes, tallied, turn, welcome, with_start, one_start}
use Rattle.sending.specs.Runs.{Call, Ran, advance, call, calls, counts, made, over, started, take_over}
use Rattle.sending.specs.Promise.{Accounted, PacketsAccounted, waiting_below}
use Rattle.sending.proofs.Packets.{fits_of}
use Rattle.sending.proofs.Source.{ours_from}
use Rattle.sending.proofs.Bridge.{decided, steps, advance_steps}

length-placed : {P : Type 0} (b : P → P → Bool) (x : P) (ys : List P) → length (placed b x ys) ≡ 1 + length ys
length-placed b x [] = refl
length-placed {P} b x (y ∷ ys) = go (b x y) (length-placed b x ys)
  where
    go : (t : Bool) → length (placed b x ys) ≡ 1 + length ys → length (cond {A = List P} t (x ∷ y ∷ ys) (y ∷ placed b x ys)) ≡ 1 + length (y ∷ ys)
    go true h = omega arith
    go false h = omega arith

-- one more waits in a queue
module _ (s : Traffic) (st : State Packet) (p : Packet) where
  enter-past : (n : ℕ) → n ≤ queue s p → waiting_below n (enter s st p) ≡ waiting_below n st
  enter-past zero l = refl
  enter-past (suc n) l =
      let rest = enter-past n (omega arith) in
      let other : eqb n (queue s p) ≡ false = ne_eqb n (queue s p) (λ e. omega arith) in
      let here : length ((enter s st p).waiting n) ≡ length (st.waiting n) = ap (λ (b : Bool). length (cond {A = List Packet} b (placed (waits_before s) p (st.waiting n)) (st.waiting n))) other in
      omega arith

  enter_more : (n : ℕ) → queue s p < n → waiting_below n (enter s st p) ≡ 1 + waiting_below n st
  enter_more zero l = absurd (omega arith)
  enter_more (suc n) l = ⊎_elim
      (λ (e : n ≡ queue s p).
      let rest = enter-past n (omega arith) in
      let own : eqb n (queue s p) ≡ true = eq-eqb n (queue s p) e in
      let here : length ((enter s st p).waiting n) ≡ length (placed (waits_before s) p (st.waiting n)) = ap (λ (b : Bool). length (cond {A = List Packet} b (placed (waits_before s) p (st.waiting n)) (st.waiting n))) own in
      let more = length-placed (waits_before s) p (st.waiting n) in
      omega arith)
      (λ (ne : n ≡ queue s p → ⊥).
      let rest = enter_more n (omega arith) in
      let other : eqb n (queue s p) ≡ false = ne_eqb n (queue s p) ne in
      let here : length ((enter s st p).waiting n) ≡ length (st.waiting n) = ap (λ (b : Bool). length (cond {A = List Packet} b (placed (waits_before s) p (st.waiting n)) (st.waiting n))) other in
      omega arith)
      (cases_eq n (queue s p))

-- one fewer waits in queue q
module _ (st : State Packet) (q free : ℕ) (p : Packet) (ps : List Packet) (front : st.waiting q ≡ p ∷ ps) where
  abbrev gone : State Packet
  gone = record { waiting = λ r. cond (eqb r q) ps (st.waiting r); free = free }

  gone-past : (n : ℕ) → n ≤ q → waiting_below n gone ≡ waiting_below n st
  gone-past zero l = refl
  gone-past (suc n) l =
      let rest = gone-past n (omega arith) in
      let other : eqb n q ≡ false = ne_eqb n q (λ e. omega arith) in
      let here : length (gone.waiting n) ≡ length (st.waiting n) = ap (λ (b : Bool). length (cond {A = List Packet} b ps (st.waiting n))) other in
      omega arith

  gone_fewer : (n : ℕ) → q < n → 1 + waiting_below n gone ≡ waiting_below n st
  gone_fewer zero l = absurd (omega arith)
  gone_fewer (suc n) l = ⊎_elim
      (λ (e : n ≡ q).
      let rest = gone-past n (omega arith) in
      let own : eqb n q ≡ true = eq-eqb n q e in
      let here : length (gone.waiting n) ≡ length ps = ap (λ (b : Bool). length (cond {A = List Packet} b ps (st.waiting n))) own in
      let was : length (st.waiting n) ≡ suc (length ps) = ap (λ (r : ℕ). length (st.waiting r)) e ∙ ap length front in
      omega arith)
      (λ (ne : n ≡ q → ⊥).
      let rest = gone_fewer n (omega arith) in
      let other : eqb n q ≡ false = ne_eqb n q ne in
      let here : length (gone.waiting n) ≡ length (st.waiting n) = ap (λ (b : Bool). length (cond {A = List Packet} b ps (st.waiting n))) other in
      omega arith)
      (cases_eq n q)

-- the gate that is open is one of eight
alone_small : (n g q : ℕ) → alone_below n g ≡ Some q → q < n
alone_small zero g q h = let z : ◌≡◌ {A = ℕ} 0 1 = cc in absurd (omega arith)
alone_small (suc n) g q h = ⊎_elim
    (λ (on : eqb g (2 ^ n) ≡ true). let k : Some n ≡ Some q = rw on at h in let same : n ≡ q = cc in omega arith)
    (λ (off : eqb g (2 ^ n) ≡ false). let l = alone_small n g q (rw off at h) in omega arith)
    (cases_Bool (eqb g (2 ^ n)))

-- what starts waited
send_account : (wire : Packet → ℕ) (fits : ℕ → ℕ → Bool) (t : ℕ) (g : Option ℕ) → ((q : ℕ) → g ≡ Some q → q < 8) → (st : State Packet) →
    length (started t (send wire fits t g st).start) + waiting_below 8 (send wire fits t g st).after ≡ waiting_below 8 st
send_account wire fits t None small st = omega arith
send_account wire fits t (Some q) small st = at_front (st.waiting q) refl
  where
    at_front : (ws : List Packet) → st.waiting q ≡ ws → length (started t (serve wire (fits q) t q st ws).start) + waiting_below 8 (serve wire (fits q) t q st ws).after ≡ waiting_below 8 st
    at_front [] e = omega arith
    at_front (p ∷ ps) e = go (leb st.free t && fits q (wire p))
      where
        go : (b : Bool) →
            length (started t (cond {A = Turn Packet} b (record { after = record { waiting = λ r. cond (eqb r q) ps (st.waiting r); free = t + wire p }; start = Some p }) (idle st)).start)
            + waiting_below 8 (cond {A = Turn Packet} b (record { after = record { waiting = λ r. cond (eqb r q) ps (st.waiting r); free = t + wire p }; start = Some p }) (idle st)).after ≡ waiting_below 8 st
        go true = gone_fewer st q (t + wire p) p ps e 8 (small q refl)
        go false = omega arith

-- what is taken joins or is counted
record Settled (f u before : ℕ) (k : Taken) : Type 0 where
  foreign : ℕ
  unadmitted : ℕ
  foreign_counted : k.counts.foreign ≡ min foreign (2 ^ 64 - 1)
  unadmitted_counted : k.counts.unadmitted ≡ min unadmitted (2 ^ 64 - 1)
  all : waiting_below 8 k.state + (foreign + (unadmitted + length k.left)) ≡ before

own_queue : (s : Traffic) → Fits s → (p : Packet) → OfSheet s p → queue s p < 8
own_queue s fs p o = go (mandatory_at (flow s p.flow) p.number)
  where
    go : (b : Bool) → cond b (flow s p.flow).queue 0 < 8
    go true = let l = (fits_of s fs p o).last_queue in omega arith
    go false = omega arith

module _ (s : Traffic) (fs : Fits s) (es : List Entry) (t : ℕ) where
  takes_account : (xs : List Packet) (c : Counts) (last : Option Packet) (st : State Packet) (f u : ℕ) → c.foreign ≡ min f (2 ^ 64 - 1) → c.unadmitted ≡ min u (2 ^ 64 - 1) →
      Settled f u (waiting_below 8 st + (f + (u + length xs))) (takes s es t c last st xs)
  takes_account [] c last st f u a b = record { foreign = f; unadmitted = u; foreign_counted = a; unadmitted_counted = b; all = refl }
  takes_account (x ∷ xs) c last st f u a b = arrived (leb x.arrival t) (takes_account xs)
    where
      Rest : Type 0
      Rest = (c : Counts) (last : Option Packet) (st : State Packet) (f u : ℕ) → c.foreign ≡ min f (2 ^ 64 - 1) → c.unadmitted ≡ min u (2 ^ 64 - 1) → Settled f u (waiting_below 8 st + (f + (u + length xs))) (takes s es t c last st xs)

      before : ℕ
      before = waiting_below 8 st + (f + (u + suc (length xs)))

      by_kind : Rest → (v w : Bool) → welcome s t last st x ≡ v → admitted s es x ≡ w →
          Settled f u before (takes s es t (cond {A = Counts} v (cond {A = Counts} w c (one_unadmitted c)) (one_foreign c)) (Some x) (cond {A = State Packet} (v && w) (enter s st x) st) xs)
      by_kind ih true true e g =
          let ours = ours_from s x (and_parts (of_sheet s x) _ e).0 in
          let more = enter_more s st x 8 (own_queue s fs x ours) in
          let r = ih c (Some x) (enter s st x) f u a b in
          let rest = r.all in
          record { foreign = r.foreign; unadmitted = r.unadmitted; foreign_counted = r.foreign_counted; unadmitted_counted = r.unadmitted_counted; all = omega arith }
      by_kind ih true false e g =
          let r = ih (one_unadmitted c) (Some x) st f (suc u) a (omega arith) in
          let rest = r.all in
          record { foreign = r.foreign; unadmitted = r.unadmitted; foreign_counted = r.foreign_counted; unadmitted_counted = r.unadmitted_counted; all = omega arith }
      by_kind ih false w e g =
          let r = ih (one_foreign c) (Some x) st (suc f) u (omega arith) b in
          let rest = r.all in
          record { foreign = r.foreign; unadmitted = r.unadmitted; foreign_counted = r.foreign_counted; unadmitted_counted = r.unadmitted_counted; all = omega arith }

      arrived : (d : Bool) → Rest → Settled f u before (cond {A = Taken} d (takes s es t (tallied s es t last st x c) (Some x) (take_in s es t last st x) xs) (record { state = st; last = last; counts = c; left = x ∷ xs }))
      arrived true ih = by_kind ih (welcome s t last st x) (admitted s es x) refl refl
      arrived false ih = record { foreign = f; unadmitted = u; foreign_counted = a; unadmitted_counted = b; all = refl }

-- a start leaves the other counts
start_keeps : (s : Traffic) (o : Option Packet) (c : Counts) → ((with_start s o c).foreign ≡ c.foreign) × ((with_start s o c).unadmitted ≡ c.unadmitted)
start_keeps s None c = (refl, refl)
start_keeps s (Some p) c = go (mandatory s p)
  where
    go : (b : Bool) → ((one_start b c).foreign ≡ c.foreign) × ((one_start b c).unadmitted ≡ c.unadmitted)
    go true = (refl, refl)
    go false = (refl, refl)

module _ (s : Traffic) (fs : Fits s) (source : List Packet) where
  decided_accounted : (r : Ran) → Accounted source r → Accounted source (decided s r)
  decided_accounted r k =
      let es = now_in_force s r.port in
      let o = r.port.clock % cycle s in
      let got : Taken = taken s r.port r.left in
      let settled : Settled k.foreign k.unadmitted (waiting_below 8 r.port.state + (k.foreign + (k.unadmitted + length r.left))) (taken s r.port r.left) =
      takes_account s fs es r.port.clock r.left r.port.counts r.port.last r.port.state k.foreign k.unadmitted k.foreign_counted k.unadmitted_counted in
      let sends = send_account (wire s) (λ q e. stays_open es q o e) r.port.clock (open_at es o) (λ q e. alone_small 8 (gates_at es o) q e) (taken s r.port r.left).state in
      let same = start_keeps s (turn s r.port r.left).start (taken s r.port r.left).counts in
      let parts = length-append r.answered (started r.port.clock (turn s r.port r.left).start) in
      let was = k.all in
      let now = settled.all in
      record {
        foreign = settled.foreign;
        unadmitted = settled.unadmitted;
        foreign_counted = same.0 ∙ settled.foreign_counted;
        unadmitted_counted = same.1 ∙ settled.unadmitted_counted;
        all = omega arith;
      }

  steps_accounted : (n : ℕ) (r : Ran) → Accounted source r → Accounted source (steps s n r)
  steps_accounted zero r k = k
  steps_accounted (suc n) r k = go (turn s r.port r.left).start (decided_accounted r k) (steps_accounted n (decided s r) (decided_accounted r k))
    where
      go : (o : Option Packet) → Accounted source (decided s r) → Accounted source (steps s n (decided s r)) → Accounted source (elim o [ None ↦ steps s n (decided s r) | Some p ↦ decided s r ])
      go None a b = b
      go (Some p) a b = a

  accounted_cond : (b : Bool) (x y : Ran) → Accounted source x → Accounted source y → Accounted source (cond b x y)
  accounted_cond true x y f g = f
  accounted_cond false x y f g = g

  call_accounted : (accepts : List Entry → Bool) (c : Call) (r : Ran) → Accounted source r → Accounted source (call s accepts c r)
  call_accounted accepts (advance u) r k = accounted_cond _ _ r (subst (Accounted source) (sym (advance_steps s (u - r.port.clock) r.port r.left r.answered r.overs)) (steps_accounted (u - r.port.clock) r k)) k
  call_accounted accepts counts r k = k
  call_accounted accepts (take_over es) r k = accounted_cond (accepts es) (over es r) r (record { foreign = k.foreign; unadmitted = k.unadmitted; foreign_counted = k.foreign_counted; unadmitted_counted = k.unadmitted_counted; all = k.all }) k

  calls_accounted : (accepts : List Entry → Bool) (cs : List Call) (r : Ran) → Accounted source r → Accounted source (calls s accepts cs r)
  calls_accounted accepts [] r k = k
  calls_accounted accepts (c ∷ cs) r k = calls_accounted accepts cs (call s accepts c r) (call_accounted accepts c r k)

pub packets_accounted : PacketsAccounted
packets_accounted s fs accepts first source cs = calls_accounted s fs source accepts cs (made first source) (record { foreign = 0; unadmitted = 0; foreign_counted = refl; unadmitted_counted = refl; all = omega arith })
