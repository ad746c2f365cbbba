-- What a port takes from a source in order at an instant is what joins there of the packets that turned up.
use Rattle.std.proofs.Common.{◌≡◌, ℕ, zero, suc, ◌<◌, ◌≤◌, Bool, true, false, cond, not, ◌&&◌, ◌||◌, eqb, leb, ◌⊎◌, List, [], ◌∷◌, ◌++◌, length, Some, filter, Option, sym, refl, ap, ◌∙◌, subst, inl, inr, ⊎_elim, arith}
use Rattle.std.specs.List.{AllByRecursion}
use Rattle.std.proofs.ByRecursion.{All-append, all_kept_by, All-weaker}
use Rattle.std.proofs.lemmas.List.{append-nil}
use Rattle.std.proofs.lemmas.Bool.{and_parts, and_from, and_left, and_right, cases_Bool, cases_eq, cases_lt, both_ways, leb-true, leb-false, le-leb, lt-leb, eqb-true, eq-eqb, or_left, or_from}
use Rattle.std.proofs.lemmas.Bool.Decides.{nat_tests}
use Rattle.traffic.specs.declared.packet.Packet.{Packet}
use Rattle.traffic.specs.Packets.{Traffic, arrival}
use Rattle.traffic.specs.Orders.{delivered_before}
use Rattle.gates.specs.declared.entry.Entry.{Entry}
use Rattle.sending.specs.Sheet.{Fits, OfSheet, arrives, flow, packet_at, placed, queue, same, waits_before}
use Rattle.sending.specs.Rules.{admitted}
use Rattle.sending.specs.Port.{State, has_packet, holds, arriving}
use Rattle.sending.specs.Calls.{Counts, Taken, after, enter, of_sheet, take_in, takes, tallied, welcome}
use Rattle.sending.specs.Runs.{Rises}
use Rattle.sending.proofs.Packets.{same-is, same_self, other_flow, other_time, counted, arrives_ours, arrives_it}
use Rattle.sending.proofs.Orders.{asym, sooner, sorted_flows, kept_placed, kept_not_placed, placed-behind}
use Rattle.sending.proofs.Strict.{small}

chained : (x y z : Packet) → delivered_before x y ≡ true → delivered_before y z ≡ true → delivered_before x z ≡ true
chained x y z e f = grind (arith, nat_tests)

rises_all : (y : Packet) (xs : List Packet) → Rises (Some y) xs → AllByRecursion (λ x. delivered_before y x ≡ true) xs
rises_all y [] h = tt
rises_all y (x ∷ xs) h = (h.0, weaken xs (rises_all x xs h.1))
  where
    weaken : (zs : List Packet) → AllByRecursion (λ z. delivered_before x z ≡ true) zs → AllByRecursion (λ z. delivered_before y z ≡ true) zs
    weaken [] a = tt
    weaken (z ∷ zs) a = (chained y x z h.0 a.0, weaken zs a.1)

delivered_time : (x y : Packet) → delivered_before x y ≡ true → x.arrival ≤ y.arrival
delivered_time x y e = grind (arith, nat_tests)

delivered_flow : (x y : Packet) → delivered_before x y ≡ true → y.arrival ≡ x.arrival → x.flow < y.flow
delivered_flow x y e f = grind (arith, nat_tests)

pub holds_none : (p : Packet) (xs : List Packet) → AllByRecursion (λ z. same p z ≡ false) xs → holds xs p ≡ false
holds_none p [] a = refl
holds_none p (x ∷ xs) a = or_from (same p x) (holds xs p) a.0 (holds_none p xs a.1)

-- number and arrival go together
abbrev numbers_agree : Traffic → Packet → Bool
numbers_agree s x = leb 1 x.number && eqb x.arrival (arrival (flow s x.flow) x.number)

-- a packet of the sheet, by its test
pub ours_from : (s : Traffic) (x : Packet) → of_sheet s x ≡ true → OfSheet s x
ours_from s x e =
    let a = and_parts (leb 1 x.flow && leb x.flow (length s.flows)) (numbers_agree s x) e in
    let b = and_parts (leb 1 x.flow) (leb x.flow (length s.flows)) a.0 in
    let c = and_parts (leb 1 x.number) (eqb x.arrival (arrival (flow s x.flow) x.number)) a.1 in
    record { from_one = leb-true 1 x.flow b.0; to_last = leb-true x.flow (length s.flows) b.1; numbered = leb-true 1 x.number c.0; on_time = eqb-true x.arrival (arrival (flow s x.flow) x.number) c.1 }

pub ours_to : (s : Traffic) (x : Packet) → OfSheet s x → of_sheet s x ≡ true
ours_to s x o =
    and_from _ _ (and_from _ _ (le-leb 1 x.flow o.from_one) (le-leb x.flow (length s.flows) o.to_last))
    (and_from _ _ (le-leb 1 x.number o.numbered) (eq-eqb x.arrival (arrival (flow s x.flow) x.number) o.on_time))

-- of the sheet, and came before t
abbrev pub Early : Traffic → ℕ → Packet → Type 0
Early s t w = OfSheet s w × (w.arrival < t)

module _ (s : Traffic) (fs : Fits s) (es : List Entry) (t : ℕ) (up : Packet → Bool) where
  abbrev N : ℕ
  N = length s.flows

  -- of the first m flows, those that turned up
  abbrev F : (q m : ℕ) → List Packet
  F q m = filter up (arriving s es q t m)

  skip_up : (q n : ℕ) → up (packet_at s (suc n) t) ≡ false → F q (suc n) ≡ F q n
  skip_up q n e = go (has_packet s es q t (suc n))
    where
      go : (b : Bool) → filter up (cond {A = List Packet} b (placed (waits_before s) (packet_at s (suc n) t) (arriving s es q t n)) (arriving s es q t n)) ≡ F q n
      go true = kept_not_placed s up (packet_at s (suc n) t) e (arriving s es q t n)
      go false = refl

  skip_has : (q n : ℕ) → has_packet s es q t (suc n) ≡ false → F q (suc n) ≡ F q n
  skip_has q n e = ap (λ (b : Bool). filter up (cond {A = List Packet} b (placed (waits_before s) (packet_at s (suc n) t) (arriving s es q t n)) (arriving s es q t n))) e

  skips : (q m n : ℕ) → m ≤ n → ((i : ℕ) → m < i → i ≤ n → up (packet_at s i t) ≡ false) → F q n ≡ F q m
  skips q m zero l h = let z : m ≡ 0 = omega arith in rw z
  skips q m (suc n) l h = ⊎_elim
      (λ (e : m ≡ suc n). rw e)
      (λ ne. skip_up q n (h (suc n) (omega arith) (omega arith)) ∙ skips q m n (omega arith) (λ i a b. h i a (omega arith)))
      (cases_eq m (suc n))

  goes_in : (q n : ℕ) → up (packet_at s (suc n) t) ≡ true → has_packet s es q t (suc n) ≡ true → F q (suc n) ≡ placed (waits_before s) (packet_at s (suc n) t) (F q n)
  goes_in q n u e = ap (λ (b : Bool). filter up (cond {A = List Packet} b (placed (waits_before s) (packet_at s (suc n) t) (arriving s es q t n)) (arriving s es q t n))) e ∙ kept_placed s up (packet_at s (suc n) t) u (arriving s es q t n) (sorted_flows s es q t n)

  module _ (W : ℕ → List Packet) (early : (q : ℕ) → AllByRecursion (Early s t) (W q)) where
    -- one packet of flow n + 1 is taken
    takes_one : (n : ℕ) → n < N → (x : Packet) → x.arrival ≡ t → x.flow ≡ suc n → (last : Option Packet) → after last x ≡ true →
        (st : State Packet) → ((q : ℕ) → st.waiting q ≡ W q ++ F q n) → (same (packet_at s (suc n) t) x ≡ true → up (packet_at s (suc n) t) ≡ true) → (same (packet_at s (suc n) t) x ≡ false → up (packet_at s (suc n) t) ≡ false) →
        (q : ℕ) → (take_in s es t last st x).waiting q ≡ W q ++ F q (suc n)
    takes_one n nN x when which last aft st now is_up no-up q = valid_cases (of_sheet s x) refl
      where
        out : of_sheet s x ≡ false → take_in s es t last st x ≡ st
        out e = let w : welcome s t last st x ≡ false = and_left (of_sheet s x) _ e in let b : (welcome s t last st x && admitted s es x) ≡ false = and_left (welcome s t last st x) _ w in ap (λ (b : Bool). cond {A = State Packet} b (enter s st x) st) b

        absent : holds (st.waiting (queue s x)) x ≡ false
        absent = rw (now (queue s x)) (holds_none x _ (All-append (λ z. same x z ≡ false) (W (queue s x)) (F (queue s x) n)
            (All-weaker (Early s t) (λ z. same x z ≡ false) (λ z h. let k = h.1 in other_time x z (λ k. omega arith)) (W (queue s x)) (early (queue s x)))
            (all_kept_by up (λ z. same x z ≡ false) (arriving s es (queue s x) t n) (All-weaker (λ z. z.flow < suc n) (λ z. same x z ≡ false) (λ z h. other_flow x z (λ k. omega arith)) _ (small s es (queue s x) t n)))))

        valid : OfSheet s x → x ≡ packet_at s (suc n) t → arrives s (suc n) t ≡ true → (take_in s es t last st x).waiting q ≡ W q ++ F q (suc n)
        valid ours e on = admit_cases (admitted s es x) refl
          where
            turned : up (packet_at s (suc n) t) ≡ true
            turned = is_up (ap (λ (y : Packet). same (packet_at s (suc n) t) y) e ∙ same_self (packet_at s (suc n) t))

            hello : welcome s t last st x ≡ true
            hello = and_from _ _ (ours_to s x ours) (and_from _ _ (le-leb t x.arrival (omega arith)) (and_from _ _ aft (ap not absent)))

            has : has_packet s es q t (suc n) ≡ (eqb q (queue s x) && admitted s es x)
            has = rw on (ap (λ (y : Packet). eqb q (queue s y) && admitted s es y) (sym e))

            -- what waits came earlier
            last_there : AllByRecursion (λ w. waits_before s x w ≡ false) (W q)
            last_there = All-weaker (Early s t) (λ w. waits_before s x w ≡ false) (λ w h. let k = h.1 in asym s w x (sooner s w x h.0 ours (omega arith))) (W q) (early q)

            admit_cases : (b : Bool) → admitted s es x ≡ b → (take_in s es t last st x).waiting q ≡ W q ++ F q (suc n)
            admit_cases false a =
                let no_entry : (welcome s t last st x && admitted s es x) ≡ false = and_right (welcome s t last st x) (admitted s es x) a in
                ap (λ (b : Bool). (cond {A = State Packet} b (enter s st x) st).waiting q) no_entry ∙ now q
                ∙ ap (λ (l : List Packet). W q ++ l) (sym (skip_has q n (has ∙ and_right (eqb q (queue s x)) (admitted s es x) a)))
            admit_cases true a =
                let entry : (welcome s t last st x && admitted s es x) ≡ true = and_from (welcome s t last st x) (admitted s es x) hello a in
                ap (λ (b : Bool). (cond {A = State Packet} b (enter s st x) st).waiting q) entry ∙ queue_cases (eqb q (queue s x)) refl
              where
                queue_cases : (b : Bool) → eqb q (queue s x) ≡ b → cond {A = List Packet} b (placed (waits_before s) x (st.waiting q)) (st.waiting q) ≡ W q ++ F q (suc n)
                queue_cases true k =
                    ap (placed (waits_before s) x) (now q) ∙ placed-behind s x (W q) (F q n) last_there
                    ∙ ap (λ (y : Packet). W q ++ placed (waits_before s) y (F q n)) e
                    ∙ ap (λ (l : List Packet). W q ++ l) (sym (goes_in q n turned (has ∙ and_from (eqb q (queue s x)) (admitted s es x) k a)))
                queue_cases false k = now q ∙ ap (λ (l : List Packet). W q ++ l) (sym (skip_has q n (has ∙ and_left (eqb q (queue s x)) (admitted s es x) k)))

        valid_cases : (b : Bool) → of_sheet s x ≡ b → (take_in s es t last st x).waiting q ≡ W q ++ F q (suc n)
        valid_cases true v =
            let ours = ours_from s x v in
            let e : x ≡ packet_at s (suc n) t = counted s fs x ours ∙ (λ i. packet_at s (which i) (when i)) in
            let on : arrives s (suc n) t ≡ true = (λ i. arrives s (sym which i) (sym when i)) ∙ arrives_it s fs x ours in
            valid ours e on
        valid_cases false v =
            let skip : F q (suc n) ≡ F q n = ⊎_elim
            (λ (on : arrives s (suc n) t ≡ true).
            let differs : same (packet_at s (suc n) t) x ≡ false = ⊎_elim
            (λ (y : same (packet_at s (suc n) t) x ≡ true).
            let e : packet_at s (suc n) t ≡ x = same-is (packet_at s (suc n) t) x y in
            absurd (both_ways (of_sheet s x) v (ours_to s x (subst (OfSheet s) e (arrives_ours s (suc n) t (omega arith) nN on)))))
            (λ y. y) (cases_Bool (same (packet_at s (suc n) t) x)) in
            skip_up q n (no-up differs))
            (λ off. skip_has q n (and_left (arrives s (suc n) t) _ off))
            (cases_Bool (arrives s (suc n) t)) in
            ap (λ (y : State Packet). y.waiting q) (out v) ∙ now q ∙ ap (λ (l : List Packet). W q ++ l) (sym skip)

    abbrev Joins : List Packet → Type 0
    Joins xs = (c : Counts) (last : Option Packet) (st : State Packet) (m : ℕ) → m ≤ N → Rises last xs → AllByRecursion (λ x. t ≤ x.arrival) xs → AllByRecursion (λ x. x.arrival ≡ t → m < x.flow) xs →
        ((i : ℕ) → m < i → i ≤ N → up (packet_at s i t) ≡ holds xs (packet_at s i t)) → ((q : ℕ) → st.waiting q ≡ W q ++ F q m) →
        (q : ℕ) → (takes s es t c last st xs).state.waiting q ≡ W q ++ F q N

    takes_joins : (xs : List Packet) → Joins xs
    takes_joins [] c last st m mN rise from big turned now q = now q ∙ ap (λ (l : List Packet). W q ++ l) (sym (skips q m N mN turned))
    takes_joins (x ∷ xs) c last st m mN rise from big turned now q = time_cases (takes_joins xs) (leb x.arrival t) refl
      where
        behind-x : AllByRecursion (λ z. delivered_before x z ≡ true) xs
        behind-x = rises_all x xs rise.1

        -- a packet of another flow below x's is not among the rest
        not_there : (i : ℕ) → x.arrival ≡ t → i ≤ x.flow → AllByRecursion (λ z. same (packet_at s i t) z ≡ false) xs
        not_there i when l = All-weaker (λ z. delivered_before x z ≡ true) (λ z. same (packet_at s i t) z ≡ false)
            (λ z d. ⊎_elim (λ (k : z.arrival ≡ t). let f = delivered_flow x z d (k ∙ sym when) in other_flow (packet_at s i t) z (λ g. omega arith)) (λ ne. other_time (packet_at s i t) z (λ g. ne (sym g))) (cases_eq z.arrival t)) xs behind-x

        on_sheet : Joins xs → x.arrival ≡ t → (n : ℕ) → x.flow ≡ suc n → n < N → (takes s es t (tallied s es t last st x c) (Some x) (take_in s es t last st x) xs).state.waiting q ≡ W q ++ F q N
        on_sheet ih when n which nN =
            let mx : m < x.flow = big.0 when in
            let rest : (i : ℕ) → i ≤ x.flow → holds xs (packet_at s i t) ≡ false = λ i l. holds_none (packet_at s i t) xs (not_there i when l) in
            let none_between : (i : ℕ) → m < i → i ≤ n → up (packet_at s i t) ≡ false = λ i a b. turned i a (omega arith) ∙ or_from (same (packet_at s i t) x) (holds xs (packet_at s i t)) (other_flow (packet_at s i t) x (λ e. omega arith)) (rest i (omega arith)) in
            let now-n : (r : ℕ) → st.waiting r ≡ W r ++ F r n = λ r. now r ∙ ap (λ (l : List Packet). W r ++ l) (sym (skips r m n (omega arith) none_between)) in
            let it = turned (suc n) (omega arith) (omega arith) in
            let yes-up : same (packet_at s (suc n) t) x ≡ true → up (packet_at s (suc n) t) ≡ true = λ e. it ∙ or_left (same (packet_at s (suc n) t) x) (holds xs (packet_at s (suc n) t)) e in
            let no-up : same (packet_at s (suc n) t) x ≡ false → up (packet_at s (suc n) t) ≡ false = λ e. it ∙ or_from (same (packet_at s (suc n) t) x) (holds xs (packet_at s (suc n) t)) e (rest (suc n) (omega arith)) in
            ih (tallied s es t last st x c) (Some x) (take_in s es t last st x) (suc n) nN rise.1 from.1
            (All-weaker (λ z. delivered_before x z ≡ true) (λ z. z.arrival ≡ t → suc n < z.flow) (λ z d k. let f = delivered_flow x z d (k ∙ sym when) in omega arith) xs behind-x)
            (λ i a b. turned i (omega arith) b ∙ ap (λ (c : Bool). c || holds xs (packet_at s i t)) (other_flow (packet_at s i t) x (λ e. omega arith)))
            (takes_one n nN x when which last rise.0 st now-n yes-up no-up) q

        off_sheet : Joins xs → x.arrival ≡ t → N < x.flow → (takes s es t (tallied s es t last st x c) (Some x) (take_in s es t last st x) xs).state.waiting q ≡ W q ++ F q N
        off_sheet ih when far =
            let no_flow : of_sheet s x ≡ false = and_left _ _ (and_right (leb 1 x.flow) (leb x.flow N) (lt-leb x.flow N far)) in
            let w : welcome s t last st x ≡ false = and_left (of_sheet s x) _ no_flow in
            let b : (welcome s t last st x && admitted s es x) ≡ false = and_left (welcome s t last st x) _ w in
            let gone : take_in s es t last st x ≡ st = ap (λ (b : Bool). cond {A = State Packet} b (enter s st x) st) b in
            ap (λ (y : State Packet). (takes s es t (tallied s es t last st x c) (Some x) y xs).state.waiting q) gone
            ∙ ih (tallied s es t last st x c) (Some x) st m mN rise.1 from.1 big.1 (λ i a b. turned i a b ∙ ap (λ (c : Bool). c || holds xs (packet_at s i t)) (other_flow (packet_at s i t) x (λ e. omega arith))) now q

        flow_cases : Joins xs → x.arrival ≡ t → (f : ℕ) → x.flow ≡ f → (takes s es t (tallied s es t last st x c) (Some x) (take_in s es t last st x) xs).state.waiting q ≡ W q ++ F q N
        flow_cases ih when zero e = let mx = big.0 when in absurd (omega arith)
        flow_cases ih when (suc n) e = ⊎_elim (λ (h : n < N). on_sheet ih when n e h) (λ (h : N ≤ n). off_sheet ih when (omega arith)) (cases_lt n N)

        time_cases : Joins xs → (b : Bool) → leb x.arrival t ≡ b → (cond {A = Taken} b (takes s es t (tallied s es t last st x c) (Some x) (take_in s es t last st x) xs) (record { state = st; last = last; counts = c; left = x ∷ xs })).state.waiting q ≡ W q ++ F q N
        time_cases ih true e = let h = leb-true x.arrival t e in let l = from.0 in flow_cases ih (omega arith) x.flow refl
        time_cases ih false e =
            let h : t < x.arrival = leb-false x.arrival t e in
            let none_now : (i : ℕ) → holds (x ∷ xs) (packet_at s i t) ≡ false = λ i. holds_none (packet_at s i t) (x ∷ xs) (other_time (packet_at s i t) x (λ g. omega arith), All-weaker (λ z. delivered_before x z ≡ true) (λ z. same (packet_at s i t) z ≡ false) (λ z d. let k = delivered_time x z d in other_time (packet_at s i t) z (λ g. omega arith)) xs behind-x) in
            now q ∙ ap (λ (l : List Packet). W q ++ l) (sym (skips q m N mN (λ i a b. turned i a b ∙ none_now i)))

    -- from flow 0 on: no packet of the sheet has it
    pub takes_all : (xs : List Packet) (c : Counts) (last : Option Packet) (st : State Packet) → Rises last xs → AllByRecursion (λ x. t ≤ x.arrival) xs →
        ((i : ℕ) → 0 < i → i ≤ N → up (packet_at s i t) ≡ holds xs (packet_at s i t)) → ((q : ℕ) → st.waiting q ≡ W q) →
        (q : ℕ) → (takes s es t c last st xs).state.waiting q ≡ W q ++ F q N
    takes_all [] c last st rise from turned now q = takes_joins [] c last st 0 (omega arith) rise from tt turned (λ r. now r ∙ sym (append-nil (W r))) q
    takes_all (x ∷ xs) c last st rise from turned now q = ⊎_elim
        (λ (z : (x.flow ≡ 0) × (x.arrival ≡ t)).
        let no_flow : of_sheet s x ≡ false = and_left _ _ (and_left (leb 1 x.flow) (leb x.flow N) (lt-leb 1 x.flow (let k = z.0 in omega arith))) in
        let w : welcome s t last st x ≡ false = and_left (of_sheet s x) _ no_flow in
        let b : (welcome s t last st x && admitted s es x) ≡ false = and_left (welcome s t last st x) _ w in
        let gone : take_in s es t last st x ≡ st = ap (λ (b : Bool). cond {A = State Packet} b (enter s st x) st) b in
        let arrived : leb x.arrival t ≡ true = le-leb x.arrival t (let k = z.1 in omega arith) in
        ap (λ (b : Bool). (cond {A = Taken} b (takes s es t (tallied s es t last st x c) (Some x) (take_in s es t last st x) xs) (record { state = st; last = last; counts = c; left = x ∷ xs })).state.waiting q) arrived
        ∙ ap (λ (y : State Packet). (takes s es t (tallied s es t last st x c) (Some x) y xs).state.waiting q) gone
        ∙ takes_joins xs (tallied s es t last st x c) (Some x) st 0 (omega arith) rise.1 from.1
        (All-weaker (λ y. delivered_before x y ≡ true) (λ y. y.arrival ≡ t → 0 < y.flow) (λ y d k. let f = delivered_flow x y d (k ∙ sym z.1) in omega arith) xs (rises_all x xs rise.1))
        (λ i a b. turned i a b ∙ ap (λ (c : Bool). c || holds xs (packet_at s i t)) (other_flow (packet_at s i t) x (λ e. let k = z.0 in omega arith)))
        (λ r. now r ∙ sym (append-nil (W r))) q)
        (λ (h : x.arrival ≡ t → 0 < x.flow).
        takes_joins (x ∷ xs) c last st 0 (omega arith) rise from
        (h, All-weaker (λ y. (delivered_before x y ≡ true) × (t ≤ y.arrival)) (λ y. y.arrival ≡ t → 0 < y.flow) (λ y d k. later-flow y d.0 d.1 k) xs (both_all xs (rises_all x xs rise.1) from.1))
        turned (λ r. now r ∙ sym (append-nil (W r))) q)
        first-flow
      where
        first-flow : ((x.flow ≡ 0) × (x.arrival ≡ t)) ⊎ (x.arrival ≡ t → 0 < x.flow)
        first-flow = ⊎_elim (λ (e : x.arrival ≡ t). ⊎_elim (λ (z : x.flow ≡ 0). inl (z, e)) (λ ne. inr (λ _. omega arith)) (cases_eq x.flow 0)) (λ ne. inr (λ e. absurd (ne e))) (cases_eq x.arrival t)

        later-flow : (y : Packet) → delivered_before x y ≡ true → t ≤ y.arrival → y.arrival ≡ t → 0 < y.flow
        later-flow y d l k = let a = delivered_time x y d in let b = from.0 in let f = delivered_flow x y d (omega arith) in omega arith

        both_all : (zs : List Packet) → AllByRecursion (λ y. delivered_before x y ≡ true) zs → AllByRecursion (λ y. t ≤ y.arrival) zs → AllByRecursion (λ y. (delivered_before x y ≡ true) × (t ≤ y.arrival)) zs
        both_all [] a b = tt
        both_all (z ∷ zs) a b = ((a.0, b.0), both_all zs a.1 b.1)

  -- what is left comes later, still in order, and holds all that comes later
  pub record Left (xs : List Packet) (k : Taken) : Type 0 where
    pub rising : Rises k.last k.left
    pub later : AllByRecursion (λ x. suc t ≤ x.arrival) k.left
    pub still : (p : Packet) → suc t ≤ p.arrival → holds xs p ≡ holds k.left p

  pub takes-left : (xs : List Packet) (c : Counts) (last : Option Packet) (st : State Packet) → Rises last xs → Left xs (takes s es t c last st xs)
  takes-left [] c last st rise = record { rising = tt; later = tt; still = λ p h. refl }
  takes-left (x ∷ xs) c last st rise = go (leb x.arrival t) refl (takes-left xs (tallied s es t last st x c) (Some x) (take_in s es t last st x) rise.1)
    where
      go : (b : Bool) → leb x.arrival t ≡ b → Left xs (takes s es t (tallied s es t last st x c) (Some x) (take_in s es t last st x) xs) → Left (x ∷ xs) (cond {A = Taken} b (takes s es t (tallied s es t last st x c) (Some x) (take_in s es t last st x) xs) (record { state = st; last = last; counts = c; left = x ∷ xs }))
      go true e l = record { rising = l.rising; later = l.later; still = λ p h. let k = leb-true x.arrival t e in ap (λ (c : Bool). c || holds xs p) (other_time p x (λ g. omega arith)) ∙ l.still p h }
      go false e l =
          let h : t < x.arrival = leb-false x.arrival t e in
          record { rising = rise; later = (h, All-weaker (λ z. delivered_before x z ≡ true) (λ z. suc t ≤ z.arrival) (λ z d. let k = delivered_time x z d in omega arith) xs (rises_all x xs rise.1)); still = λ p h. refl }

  pub takes_free : (xs : List Packet) (c : Counts) (last : Option Packet) (st : State Packet) → (takes s es t c last st xs).state.free ≡ st.free
  takes_free [] c last st = refl
  takes_free (x ∷ xs) c last st = go (leb x.arrival t) (takes_free xs (tallied s es t last st x c) (Some x) (take_in s es t last st x)) (welcome s t last st x && admitted s es x) refl
    where
      go : (b : Bool) → (takes s es t (tallied s es t last st x c) (Some x) (take_in s es t last st x) xs).state.free ≡ (take_in s es t last st x).free → (d : Bool) → (welcome s t last st x && admitted s es x) ≡ d → (cond {A = Taken} b (takes s es t (tallied s es t last st x c) (Some x) (take_in s es t last st x) xs) (record { state = st; last = last; counts = c; left = x ∷ xs })).state.free ≡ st.free
      go true h true e = h ∙ ap (λ (b : Bool). (cond {A = State Packet} b (enter s st x) st).free) e
      go true h false e = h ∙ ap (λ (b : Bool). (cond {A = State Packet} b (enter s st x) st).free) e
      go false h d e = refl
