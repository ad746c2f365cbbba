-- What waits is each flow's latest packet.
use Rattle.std.proofs.Common.{◌≡◌, ℕ, zero, suc, ◌+◌, ◌-◌, ◌*◌, ◌/◌, ◌<◌, ◌≤◌, Bool, true, false, cond, ◌&&◌, eqb, List, [], ◌∷◌, ◌++◌, length, Some, sym, refl, ap, ◌∙◌, subst, ⊎_elim, arith}
use native.Mathlib.Nat.{div-eq_of_lt-le}
use Rattle.std.specs.List.{AllByRecursion}
use Rattle.std.proofs.ByRecursion.{All-append}
use Rattle.std.proofs.lemmas.Bool.{cases_eq, cases_lt, eq-eqb, eqb-true, ne_eqb, ltb-true}
use Rattle.traffic.specs.declared.packet.Packet.{Packet}
use Rattle.traffic.specs.Packets.{Traffic}
use Rattle.gates.specs.declared.entry.Entry.{Entry}
use Rattle.sending.specs.Sheet.{Fits, OfSheet, cycle, deadline, flow, number_at, packet, packet_at, placed, queue, same, waits_before, wire}
use Rattle.sending.specs.Rules.{admitted, total}
use Rattle.sending.specs.Port.{fits_at, gate_at, has_packet, join, joining, list_at, arriving, run, starts}
use Rattle.sending.specs.InTime.{Accepted, first_cycle}
use Rattle.sending.specs.Cycles.{LatestWaits, SimulationFits}
use Rattle.sending.proofs.Lists.{all_passing}
use Rattle.sending.proofs.Line.{is, line, lstart}
use Rattle.sending.proofs.OneQueue.{is-alone}
use Rattle.sending.proofs.Gated.{held}
use Rattle.sending.proofs.Alone.{all_line, starts-queue}
use Rattle.sending.proofs.Counting.{count-append, conserve, came, came-then, came_not, begun_more, kept_few}
use Rattle.sending.proofs.Packets.{same-is, same_self, times, times-cond, times_other, times-placed, other_flow, none_yet, none_then, fits_of, some_period, Comes, all_come}
use Rattle.sending.proofs.Cycles.{ends_by, once_in_time}

-- at most once at an instant
at_most : (s : Traffic) (es : List Entry) (q t : ℕ) (p : Packet) (n : ℕ) → times p (arriving s es q t n) ≤ 1
at_most s es q t p zero = omega arith
at_most s es q t p (suc n) = ⊎_elim
    (λ (e : p.flow ≡ suc n). let none-n = none_yet s es q t p n (omega arith) in go (has_packet s es q t (suc n)) none-n)
    (λ ne. let h = at_most s es q t p n in let k = times-cond p (has_packet s es q t (suc n)) _ _ (times p (arriving s es q t n)) (times_other p (waits_before s) (packet_at s (suc n) t) (arriving s es q t n) _ (other_flow p (packet_at s (suc n) t) ne) refl) refl in omega arith)
    (cases_eq p.flow (suc n))
  where
    go : (b : Bool) → times p (arriving s es q t n) ≡ 0 → times p (cond b (placed (waits_before s) (packet_at s (suc n) t) (arriving s es q t n)) (arriving s es q t n)) ≤ 1
    go true h = let c = times-placed p (waits_before s) (packet_at s (suc n) t) (arriving s es q t n) in small (same p (packet_at s (suc n) t)) c
      where
        small : (b : Bool) → times p (placed (waits_before s) (packet_at s (suc n) t) (arriving s es q t n)) ≡ cond b 1 0 + times p (arriving s es q t n) → times p (placed (waits_before s) (packet_at s (suc n) t) (arriving s es q t n)) ≤ 1
        small true e = omega arith
        small false e = omega arith
    go false h = omega arith

-- what holds of each that is there
each_there : (Q R : Packet → Type 0) (xs : List Packet) → ((x : Packet) → Q x → 1 ≤ times x xs → R x) → AllByRecursion Q xs → AllByRecursion R xs
each_there Q R xs h a = go xs (λ x. omega arith) a
  where
    go : (ys : List Packet) → ((x : Packet) → times x ys ≤ times x xs) → AllByRecursion Q ys → AllByRecursion R ys
    go [] l b = tt
    go (y ∷ ys) l b =
        let here : times y (y ∷ ys) ≡ 1 + times y ys = rw (same_self y) in
        (h y b.0 (let k = l y in omega arith), go ys (λ x. let k = l x in more x k) b.1)
      where
        more : (x : Packet) → times x (y ∷ ys) ≤ times x xs → times x ys ≤ times x xs
        more x k = omega arith

-- the packets of flow i
abbrev of_flow : ℕ → List Packet → ℕ
of_flow i [] = 0
of_flow i (x ∷ xs) = cond (eqb x.flow i) 1 0 + of_flow i xs

abbrev sum_flows : ℕ → List Packet → ℕ
sum_flows zero xs = 0
sum_flows (suc n) xs = of_flow (suc n) xs + sum_flows n xs

sum_none : (n : ℕ) → sum_flows n [] ≡ 0
sum_none zero = refl
sum_none (suc n) = let h = sum_none n in omega arith

sum_more : (n : ℕ) (x : Packet) (xs : List Packet) → 1 ≤ x.flow → x.flow ≤ n → sum_flows n (x ∷ xs) ≡ 1 + sum_flows n xs
sum_more zero x xs a b = absurd (omega arith)
sum_more (suc n) x xs a b = ⊎_elim
    (λ (e : x.flow ≡ suc n). let k = over n (omega arith) in let t : eqb x.flow (suc n) ≡ true = eq-eqb x.flow (suc n) e in rw t (omega arith))
    (λ (ne : x.flow ≡ suc n → ⊥). let h = sum_more n x xs a (omega arith) in let f : eqb x.flow (suc n) ≡ false = ne_eqb x.flow (suc n) ne in rw f (omega arith))
    (cases_eq x.flow (suc n))
  where
    over : (m : ℕ) → m < x.flow → sum_flows m (x ∷ xs) ≡ sum_flows m xs
    over zero l = refl
    over (suc m) l = let h = over m (omega arith) in let f : eqb x.flow (suc m) ≡ false = ne_eqb x.flow (suc m) (λ e. omega arith) in rw f (omega arith)

length_sum : (n : ℕ) (xs : List Packet) → AllByRecursion (λ x. (1 ≤ x.flow) × (x.flow ≤ n)) xs → length xs ≡ sum_flows n xs
length_sum n [] a = let h = sum_none n in omega arith
length_sum n (x ∷ xs) a = let h = length_sum n xs a.1 in let k = sum_more n x xs a.0.0 a.0.1 in omega arith

sum_few : (n : ℕ) (xs : List Packet) → ((i : ℕ) → of_flow i xs ≤ 1) → sum_flows n xs ≤ n
sum_few zero xs h = omega arith
sum_few (suc n) xs h = let a = sum_few n xs h in let b = h (suc n) in omega arith

of_flow_few : (p : Packet) (i : ℕ) (xs : List Packet) → AllByRecursion (λ x. x.flow ≡ i → x ≡ p) xs → of_flow i xs ≤ times p xs
of_flow_few p i [] a = omega arith
of_flow_few p i (x ∷ xs) a = let h = of_flow_few p i xs a.1 in go (eqb x.flow i) refl h
  where
    go : (b : Bool) → eqb x.flow i ≡ b → of_flow i xs ≤ times p xs → cond b 1 0 + of_flow i xs ≤ cond (same p x) 1 0 + times p xs
    go true e h = let is : x ≡ p = a.0 (eqb-true x.flow i e) in let t : same p x ≡ true = ap (same p) is ∙ same_self p in rw t (omega arith)
    go false e h = omega arith

-- a packet that waits in queue q
pub record Due (s : Traffic) (in_force : ℕ → List Entry) (up : Packet → Bool) (q : ℕ) (p : Packet) : Type 0 where
  pub ours : OfSheet s p
  pub let_in : admitted s (in_force (p.arrival / cycle s)) p ≡ true
  pub turned : up p ≡ true
  pub own : queue s p ≡ q

-- the latest packet of flow i at t
abbrev latest : Traffic → (t i : ℕ) → Packet
latest s t i = packet s i (number_at (flow s i) t)

-- between two arrivals the number stays
number_then : (T j t d : ℕ) → 0 < T → 1 ≤ j → (j - 1) * T ≤ t → t < (j - 1) * T + d → d ≤ T → t / T + 1 ≡ j
number_then T j t d pos some low high dT =
    let e : t / T ≡ j - 1 = div-eq_of_lt-le {k = j - 1} T low (let m : (j - 1 + 1) * T ≡ (j - 1) * T + T = omega arith in omega arith) in
    omega arith

module _ (s : Traffic) (fs : Fits s) (in_force : ℕ → List Entry) (up : Packet → Bool) (q : ℕ) where
  abbrev pub fits : ℕ → ℕ → Bool
  fits t e = is q (gate_at s in_force t) && fits_at s in_force t q e

  abbrev pub arr : ℕ → List Packet
  arr t = joining s in_force up t q

  abbrev there : ℕ → List Packet
  there t = (line (wire s) fits arr t).waiting ++ arr t

  pub all_due : (t : ℕ) → AllByRecursion (Due s in_force up q) (arr t)
  all_due t = all_passing (Comes s (list_at s in_force t) q t) (Due s in_force up q) up
      (λ x c e. record { ours = c.ours; let_in = subst (λ (u : ℕ). admitted s (in_force (u / cycle s)) x ≡ true) (sym c.now) c.let_in; turned = e; own = c.own })
      (arriving s (list_at s in_force t) q t (length s.flows)) (all_come s (list_at s in_force t) q t (length s.flows) (omega arith))

  pub only : (p : Packet) (u : ℕ) → (u ≡ p.arrival → ⊥) → times p (arr u) ≡ 0
  only p u ne = let a = kept_few same same-is same_self p (wire s) up (arriving s (list_at s in_force u) q u (length s.flows)) in let b = none_then s (list_at s in_force u) q u p ne (length s.flows) in omega arith

  pub came_few : (p : Packet) (t : ℕ) → came same same-is same_self p arr t ≤ 1
  came_few p t = ⊎_elim
      (λ (h : p.arrival < t). let k = came-then same same-is same_self p arr p.arrival (only p) t h in
      let a = kept_few same same-is same_self p (wire s) up (arriving s (list_at s in_force p.arrival) q p.arrival (length s.flows)) in
      let b = at_most s (list_at s in_force p.arrival) q p.arrival p (length s.flows) in omega arith)
      (λ (h : t ≤ p.arrival). let k = came_not same same-is same_self p arr p.arrival (only p) t h in omega arith)
      (cases_lt p.arrival t)

  there_few : (p : Packet) (t : ℕ) → times p (there t) ≤ 1
  there_few p t =
      let a = count-append same same-is same_self p (line (wire s) fits arr t).waiting (arr t) in
      let b = conserve same same-is same_self p (wire s) fits arr t in
      let c = came_few p (suc t) in omega arith

  -- those whose deadline has come were started
  abbrev pub Prompt : ℕ → Type 0
  Prompt t = (p : Packet) → Due s in_force up q p → deadline s p ≤ t → (u : ℕ) × (u < t) × (lstart (wire s) fits arr u ≡ Some p)

  -- it is still to start, and has arrived
  is-latest : (t : ℕ) → Prompt t → (p : Packet) → Due s in_force up q p → 1 ≤ times p (there t) → p ≡ latest s t p.flow
  is-latest t prompt p d h =
      let ff = fits_of s fs p d.ours in
      let dT = ff.one_waits in
      let parts = count-append same same-is same_self p (line (wire s) fits arr t).waiting (arr t) in
      let flow-c = conserve same same-is same_self p (wire s) fits arr t in
      let few = came_few p (suc t) in
      let not_yet : t < deadline s p = ⊎_elim (λ (l : t < deadline s p). l)
      (λ (l : deadline s p ≤ t). let found = prompt p d l in let b = begun_more same same-is same_self p (lstart (wire s) fits arr) found.0 t found.2 found.1 in absurd (omega arith)) (cases_lt t (deadline s p)) in
      let arrived : p.arrival ≤ t = ⊎_elim (λ (l : t < p.arrival). let k = came_not same same-is same_self p arr p.arrival (only p) (suc t) l in absurd (omega arith)) (λ l. l) (cases_lt t p.arrival) in
      let at : p.arrival ≡ (p.number - 1) * (flow s p.flow).period = d.ours.on_time in
      let is : p.number ≡ number_at (flow s p.flow) t = sym (number_then (flow s p.flow).period p.number t (flow s p.flow).deadline (some_period s (flow s p.flow) ff) d.ours.numbered (omega arith) (omega arith) dT) in
      (λ i. record { flow = p.flow; number = p.number; arrival = d.ours.on_time i }) ∙ ap (packet s p.flow) is

  due_there : (t : ℕ) → AllByRecursion (Due s in_force up q) (there t)
  due_there t = All-append (Due s in_force up q) (line (wire s) fits arr t).waiting (arr t) (all_line (Due s in_force up q) (wire s) fits arr all_due t) (all_due t)

  pub all_latest : (t : ℕ) → Prompt t → AllByRecursion (λ p. p ≡ latest s t p.flow) (there t)
  all_latest t prompt = each_there (Due s in_force up q) (λ p. p ≡ latest s t p.flow) (there t) (is-latest t prompt) (due_there t)

  pub few_wait : (t : ℕ) → Prompt t → length (there t) ≤ length s.flows
  few_wait t prompt =
      let a = length_sum (length s.flows) (there t) (each_there (Due s in_force up q) (λ x. (1 ≤ x.flow) × (x.flow ≤ length s.flows)) (there t) (λ x d _. (d.ours.from_one, d.ours.to_last)) (due_there t)) in
      let one_each : (i : ℕ) → of_flow i (there t) ≤ 1 = λ i.
      let p = latest s t i in
      let b = of_flow_few p i (there t) (each_there (λ x. x ≡ latest s t x.flow) (λ x. x.flow ≡ i → x ≡ p) (there t) (λ x e _ f. e ∙ ap (latest s t) f) (all_latest t prompt)) in
      let c = there_few p t in omega arith in
      let d = sum_few (length s.flows) (there t) one_each in
      omega arith

-- under accepted lists all are prompt
pub prompt : (s : Traffic) (fs : Fits s) (in_force : ℕ → List Entry) → ((n : ℕ) → Accepted s (in_force n)) → (up : Packet → Bool) (q t : ℕ) → Prompt s fs in_force up q t
prompt s fs in_force acc up q t p d h =
    let found = once_in_time s fs in_force acc up p d.ours d.let_in d.turned in
    let ends : found.0 + wire s p ≤ deadline s p = ends_by s p found.0 found.1.ends in
    let some_wire : 1 ≤ wire s p = (fits_of s fs p d.ours).some_wire in
    (found.0, omega arith, subst (λ (r : ℕ). lstart (wire s) (λ u e. is r (gate_at s in_force u) && fits_at s in_force u r e) (λ v. joining s in_force up v r) found.0 ≡ Some p) d.own (starts-queue s in_force fs.some_time (λ m. (acc m).rules.whole) up found.0 p found.1.there).1)

joined_is : (s : Traffic) (fs : Fits s) (in_force : ℕ → List Entry) → ((n : ℕ) → total (in_force n) ≡ cycle s) → (up : Packet → Bool) (t q : ℕ) → (join (joining s in_force up t) (run s in_force up t)).waiting q ≡ there s fs in_force up q t
joined_is s fs in_force whole up t q = ap (λ (l : List Packet). l ++ joining s in_force up t q) (is-alone (wire s) (gate_at s in_force) (fits_at s in_force) (joining s in_force up) (held s in_force fs.some_time whole) q t).waits

pub latest_waits : LatestWaits
latest_waits s fs in_force acc up t q =
    rw (joined_is s fs in_force (λ m. (acc m).rules.whole) up t q) (all_latest s fs in_force up q t (prompt s fs in_force acc up q t), few_wait s fs in_force up q t (prompt s fs in_force acc up q t))

pub simulation_fits : SimulationFits
simulation_fits s fs es whole t q so_far =
    let on_time : Prompt s fs (λ _. es) (first_cycle s) q t = λ p d h.
    let found = so_far p (record { ours = d.ours; early = ltb-true p.arrival (cycle s) d.turned; let_in = d.let_in }) h in
    (found.0, found.1, subst (λ (r : ℕ). lstart (wire s) (λ u e. is r (gate_at s (λ _. es) u) && fits_at s (λ _. es) u r e) (λ v. joining s (λ _. es) (first_cycle s) v r) found.0 ≡ Some p) d.own (starts-queue s (λ _. es) fs.some_time (λ _. whole) (first_cycle s) found.0 p found.2).1) in
    rw (joined_is s fs (λ _. es) (λ _. whole) (first_cycle s) t q) (few_wait s fs (λ _. es) (first_cycle s) q t on_time)

-- what waits before an instant has not started before it
pub waits_unstarted : (s : Traffic) (fs : Fits s) (in_force : ℕ → List Entry) → ((n : ℕ) → total (in_force n) ≡ cycle s) → (up : Packet → Bool) (p : Packet) (ps : List Packet) (t u : ℕ) →
    (run s in_force up t).waiting (queue s p) ≡ p ∷ ps → starts s in_force up u ≡ Some p → t ≤ u
waits_unstarted s fs in_force whole up p ps t u w e =
    let q = queue s p in
    let line-is : (line (wire s) (fits s fs in_force up q) (arr s fs in_force up q) t).waiting ≡ p ∷ ps = sym (is-alone (wire s) (gate_at s in_force) (fits_at s in_force) (joining s in_force up) (held s in_force fs.some_time whole) q t).waits ∙ w in
    let st = (starts-queue s in_force fs.some_time whole up u p e).1 in
    ⊎_elim
    (λ (l : u < t).
    let b = begun_more same same-is same_self p (lstart (wire s) (fits s fs in_force up q) (arr s fs in_force up q)) u t st l in
    let c = conserve same same-is same_self p (wire s) (fits s fs in_force up q) (arr s fs in_force up q) t in
    let d : times p (line (wire s) (fits s fs in_force up q) (arr s fs in_force up q) t).waiting ≡ 1 + times p ps = rw (line-is, same_self p) in
    let f = came_few s fs in_force up q p t in
    absurd (omega arith))
    (λ l. l) (cases_lt u t)
