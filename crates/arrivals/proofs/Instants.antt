-- The calendar instant by instant: it rises, and holds the packets of the sheet and no others.
use Rattle.std.proofs.Common.{◌≡◌, ℕ, zero, suc, ◌+◌, ◌-◌, ◌*◌, ◌/◌, ◌%◌, ◌<◌, ◌≤◌, true, eqb, List, [], ◌∷◌, length, get_or, sym, refl, ap, ◌∙◌, subst, ⊎_elim, div-add-mod', mul-div_cancel, arith}
use native.Mathlib.Nat.{mul-mod_left}
use Rattle.std.specs.List.{ContainsAt, AllByRecursion}
use Rattle.std.proofs.lemmas.Bool.{and_parts, and_from, eqb-true, eq-eqb, cases_eq, cond_both, cond-true}
use Rattle.std.proofs.ByRecursion.{All-weaker, All-append, all-has, has_get_or, has_append_left, has_append_right}
use Rattle.std.proofs.lemmas.Bool.Decides.{nat_tests}
use Rattle.traffic.specs.declared.flow.Flow.{Flow}
use Rattle.traffic.specs.declared.packet.Packet.{Packet}
use Rattle.traffic.specs.Packets.{arrival, flow_at, no_flow}
use Rattle.traffic.specs.Orders.{PacketsDiffer}
use Rattle.traffic.specs.declared.sort.Sort.{Sort}
use Rattle.arrivals.specs.Sources.{Rises}
use Rattle.arrivals.specs.Merges.{Apart}
use Rattle.traffic.specs.Sorts.{of_sort}
use Rattle.arrivals.specs.Sorts.{other_sort, comes_at, packet_at, arriving, calendar, belongs, Exactly}
use Rattle.arrivals.proofs.Rising.{Before, rises_from, rises-append}
use Rattle.arrivals.proofs.Distinct.{rises_once, sorts_differ}
use Rattle.arrivals.proofs.Belonging.{on_sheet, on_sheet_belongs, Periodic, flow_at_place, period_some}

before_time : (x y : Packet) → x.arrival < y.arrival → Before x y
before_time x y h = grind (arith, nat_tests)

before_flow : (x y : Packet) → x.arrival ≡ y.arrival → x.flow < y.flow → Before x y
before_flow x y e h = grind (arith, nat_tests)

-- packet j of flow i, which arrives at t
abbrev packet_of : ℕ → ℕ → ℕ → Packet
packet_of i j t = record { flow = i; number = j; arrival = t }

-- p arrives at t, of flows that count from i
pub record Arrives (s : Sort) (i : ℕ) (fs : List Flow) (t : ℕ) (p : Packet) : Type 0 where
  pub low : i ≤ p.flow
  pub high : p.flow < i + length fs
  pub comes : comes_at s (get_or fs (p.flow - i) no_flow) t ≡ true
  pub is : p ≡ packet_at p.flow (get_or fs (p.flow - i) no_flow) t

module _ (s : Sort) where
  arrives-here : (i : ℕ) (f : Flow) (fs : List Flow) (t : ℕ) → comes_at s f t ≡ true → Arrives s i (f ∷ fs) t (packet_at i f t)
  arrives-here i f fs t e =
      let first : i - i ≡ 0 = omega arith in
      record { low = omega arith; high = omega arith; comes = rw first e; is = rw first }

  arrives-next : (i : ℕ) (f : Flow) (fs : List Flow) (t : ℕ) (p : Packet) → Arrives s (suc i) fs t p → Arrives s i (f ∷ fs) t p
  arrives-next i f fs t p a =
      let next : p.flow - i ≡ suc (p.flow - suc i) = omega arith in
      record { low = omega arith; high = omega arith; comes = rw next a.comes; is = a.is ∙ ap (λ (k : ℕ). packet_at p.flow (get_or (f ∷ fs) k no_flow) t) (sym next) }

  pub arriving_all : (i : ℕ) (fs : List Flow) (t : ℕ) → AllByRecursion (Arrives s i fs t) (arriving s i fs t)
  arriving_all i [] t = tt
  arriving_all i (f ∷ fs) t =
      let later : AllByRecursion (Arrives s i (f ∷ fs) t) (arriving s (suc i) fs t) = All-weaker (Arrives s (suc i) fs t) (Arrives s i (f ∷ fs) t) (arrives-next i f fs t) (arriving s (suc i) fs t) (arriving_all (suc i) fs t) in
      cond_both (comes_at s f t) (packet_at i f t ∷ arriving s (suc i) fs t) (arriving s (suc i) fs t) (AllByRecursion (Arrives s i (f ∷ fs) t)) (λ e. (arrives-here i f fs t e, later)) (λ _. later)

  arrives_time : (i : ℕ) (fs : List Flow) (t : ℕ) (p : Packet) → Arrives s i fs t p → p.arrival ≡ t
  arrives_time i fs t p a = ap (λ (q : Packet). q.arrival) a.is

  arriving-rises : (i : ℕ) (fs : List Flow) (t : ℕ) → Rises (arriving s i fs t)
  arriving-rises i [] t = refl
  arriving-rises i (f ∷ fs) t =
      let later : AllByRecursion (Before (packet_at i f t)) (arriving s (suc i) fs t) =
      All-weaker (Arrives s (suc i) fs t) (Before (packet_at i f t)) (λ p a. before_flow (packet_at i f t) p (sym (arrives_time (suc i) fs t p a)) a.low) (arriving s (suc i) fs t) (arriving_all (suc i) fs t) in
      cond_both (comes_at s f t) (packet_at i f t ∷ arriving s (suc i) fs t) (arriving s (suc i) fs t) Rises
      (λ _. rises_from (packet_at i f t) (arriving s (suc i) fs t) later (arriving-rises (suc i) fs t))
      (λ _. arriving-rises (suc i) fs t)

  -- a packet that arrives is there
  arriving_has : (i : ℕ) (fs : List Flow) (t k m : ℕ) → m ≡ i + k → k < length fs → comes_at s (get_or fs k no_flow) t ≡ true → ContainsAt (arriving s i fs t) (packet_at m (get_or fs k no_flow) t)
  arriving_has i [] t k m e l h = absurd (omega arith)
  arriving_has i (f ∷ fs) t zero m e l h =
      let is : m ≡ i = omega arith in
      subst (λ (ps : List Packet). ContainsAt ps (packet_at m f t)) (sym (cond-true (comes_at s f t) (packet_at i f t ∷ arriving s (suc i) fs t) (arriving s (suc i) fs t) h))
      (subst (λ (j : ℕ). ContainsAt (packet_at i f t ∷ arriving s (suc i) fs t) (packet_at j f t)) (sym is) (has_get_or (packet_at i f t ∷ arriving s (suc i) fs t) 0 (packet_at i f t) (omega arith)))
  arriving_has i (f ∷ fs) t (suc k) m e l h =
      let p = packet_at m (get_or fs k no_flow) t in
      let later : ContainsAt (arriving s (suc i) fs t) p = arriving_has (suc i) fs t k m (omega arith) (omega arith) h in
      cond_both (comes_at s f t) (packet_at i f t ∷ arriving s (suc i) fs t) (arriving s (suc i) fs t) (λ (ps : List Packet). ContainsAt ps p)
      (λ _. has_append_right (packet_at i f t ∷ []) (arriving s (suc i) fs t) p later)
      (λ _. later)

  module _ (fs : List Flow) where
    calendar_early : (n : ℕ) → AllByRecursion (λ p. p.arrival < n) (calendar s fs n)
    unfolding calendar
    calendar_early zero = tt
    calendar_early (suc n) =
        All-append (λ (p : Packet). p.arrival < suc n) (calendar s fs n) (arriving s 1 fs n)
        (All-weaker (λ (p : Packet). p.arrival < n) (λ (p : Packet). p.arrival < suc n) (λ p h. omega arith) (calendar s fs n) (calendar_early n))
        (All-weaker (Arrives s 1 fs n) (λ (p : Packet). p.arrival < suc n) (λ p a. omega (arith, arrives_time 1 fs n p a)) (arriving s 1 fs n) (arriving_all 1 fs n))

    pub calendar-rises : (n : ℕ) → Rises (calendar s fs n)
    unfolding calendar
    calendar-rises zero = refl
    calendar-rises (suc n) =
        rises-append (calendar s fs n) (arriving s 1 fs n) (calendar-rises n) (arriving-rises 1 fs n)
        (All-weaker (λ (x : Packet). x.arrival < n) (λ (x : Packet). AllByRecursion (Before x) (arriving s 1 fs n))
        (λ x l. All-weaker (Arrives s 1 fs n) (Before x) (λ y a. let when : x.arrival < y.arrival = omega (arith, arrives_time 1 fs n y a) in before_time x y when) (arriving s 1 fs n) (arriving_all 1 fs n))
        (calendar s fs n) (calendar_early n))

    -- a packet that arrives at t is one of the sheet
    arrives-belongs : (t : ℕ) (p : Packet) → Arrives s 1 fs t p → belongs s fs (suc t) p ≡ true
    arrives-belongs t p a =
        let f = get_or fs (p.flow - 1) no_flow in
        let same : flow_at fs p.flow ≡ f = flow_at_place fs p.flow a.low in
        let parts = and_parts (eqb (t % f.period) 0) (of_sort s f (t / f.period + 1)) a.comes in
        let when : p.arrival ≡ t = ap (λ (q : Packet). q.arrival) a.is in
        let which : p.number ≡ t / f.period + 1 = ap (λ (q : Packet). q.number) a.is in
        let none : t % f.period ≡ 0 = eqb-true (t % f.period) 0 parts.0 in
        let whole : t / f.period * f.period + t % f.period ≡ t = div-add-mod' t f.period in
        let before : p.number - 1 ≡ t / f.period = omega arith in
        let product : (p.number - 1) * f.period ≡ t / f.period * f.period = ap (λ (k : ℕ). k * f.period) before in
        let time : p.arrival ≡ arrival f p.number = omega arith in
        on_sheet_belongs s fs (suc t) p (record {
          low = a.low;
          high = omega arith;
          counts = omega arith;
          time = time ∙ ap (λ (g : Flow). arrival g p.number) (sym same);
          sort = ap (λ (g : Flow). of_sort s g p.number) same ∙ ap (of_sort s f) which ∙ parts.1;
          early = omega arith;
        })

    later-belongs : (n : ℕ) (p : Packet) → belongs s fs n p ≡ true → belongs s fs (suc n) p ≡ true
    later-belongs n p h =
        let o = on_sheet s fs n p h in
        on_sheet_belongs s fs (suc n) p (record { low = o.low; high = o.high; counts = o.counts; time = o.time; sort = o.sort; early = omega arith })

    pub calendar_only : (n : ℕ) → AllByRecursion (λ p. belongs s fs n p ≡ true) (calendar s fs n)
    unfolding calendar
    calendar_only zero = tt
    calendar_only (suc n) =
        All-append (λ (p : Packet). belongs s fs (suc n) p ≡ true) (calendar s fs n) (arriving s 1 fs n)
        (All-weaker (λ (p : Packet). belongs s fs n p ≡ true) (λ (p : Packet). belongs s fs (suc n) p ≡ true) (later-belongs n) (calendar s fs n) (calendar_only n))
        (All-weaker (Arrives s 1 fs n) (λ (p : Packet). belongs s fs (suc n) p ≡ true) (arrives-belongs n) (arriving s 1 fs n) (arriving_all 1 fs n))

    calendar_at : (n t : ℕ) (p : Packet) → t < n → ContainsAt (arriving s 1 fs t) p → ContainsAt (calendar s fs n) p
    unfolding calendar
    calendar_at zero t p l h = absurd (omega arith)
    calendar_at (suc n) t p l h =
        ⊎_elim
        (λ (e : t ≡ n). has_append_right (calendar s fs n) (arriving s 1 fs n) p (subst (λ (k : ℕ). ContainsAt (arriving s 1 fs k) p) e h))
        (λ ne. has_append_left (calendar s fs n) (arriving s 1 fs n) p (calendar_at n t p (omega arith) h))
        (cases_eq t n)

    pub calendar_all : Periodic fs → (n : ℕ) (p : Packet) → belongs s fs n p ≡ true → ContainsAt (calendar s fs n) p
    calendar_all periodic n p h =
        let o = on_sheet s fs n p h in
        let f = get_or fs (p.flow - 1) no_flow in
        let same : flow_at fs p.flow ≡ f = flow_at_place fs p.flow o.low in
        let some : 0 < f.period = subst (λ (g : Flow). 0 < g.period) same (period_some fs periodic p.flow o.low o.high) in
        let time : p.arrival ≡ (p.number - 1) * f.period = o.time ∙ ap (λ (g : Flow). arrival g p.number) same in
        let quotient : p.arrival / f.period ≡ p.number - 1 = ap (λ (k : ℕ). k / f.period) time ∙ mul-div_cancel (p.number - 1) some in
        let which : p.arrival / f.period + 1 ≡ p.number = omega (arith, o.counts) in
        let whole : p.arrival % f.period ≡ 0 = ap (λ (k : ℕ). k % f.period) time ∙ mul-mod_left (p.number - 1) f.period in
        let sort : of_sort s f (p.arrival / f.period + 1) ≡ true = ap (of_sort s f) which ∙ ap (λ (g : Flow). of_sort s g p.number) (sym same) ∙ o.sort in
        let comes : comes_at s f p.arrival ≡ true = and_from (eqb (p.arrival % f.period) 0) (of_sort s f (p.arrival / f.period + 1)) (eq-eqb _ _ whole) sort in
        let there : ContainsAt (arriving s 1 fs p.arrival) (packet_at p.flow f p.arrival) = arriving_has 1 fs p.arrival (p.flow - 1) p.flow (omega (arith, o.low)) (omega (arith, o.low, o.high)) comes in
        let is : packet_at p.flow f p.arrival ≡ p = ap (λ (j : ℕ). packet_of p.flow j p.arrival) which in
        calendar_at n p.arrival p o.early (subst (λ (q : Packet). ContainsAt (arriving s 1 fs p.arrival) q) is there)

    pub calendar_exactly : Periodic fs → (n : ℕ) → Exactly s fs n (calendar s fs n)
    calendar_exactly periodic n = record {
      all = calendar_all periodic n;
      once = rises_once (calendar s fs n) (calendar-rises n);
      only = λ p h. all-has (λ (q : Packet). belongs s fs n q ≡ true) (calendar s fs n) p (calendar_only n) h;
      ordered = calendar-rises n;
    }

pub calendar_apart : (s : Sort) (fs : List Flow) → Periodic fs → (n m : ℕ) → Apart (calendar s fs n) (calendar (other_sort s) fs m)
calendar_apart s fs periodic n m =
    All-weaker (λ (x : Packet). belongs s fs n x ≡ true) (λ (x : Packet). AllByRecursion (λ y. PacketsDiffer x y) (calendar (other_sort s) fs m))
    (λ x bx. All-weaker (λ (y : Packet). belongs (other_sort s) fs m y ≡ true) (λ (y : Packet). PacketsDiffer x y) (λ y by. sorts_differ s fs n m x y periodic (on_sheet s fs n x bx) (on_sheet (other_sort s) fs m y by)) (calendar (other_sort s) fs m) (calendar_only (other_sort s) fs m))
    (calendar s fs n) (calendar_only s fs n)
