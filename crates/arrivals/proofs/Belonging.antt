-- What is known of a packet of the sheet.
use Rattle.std.proofs.Common.{◌≡◌, ℕ, zero, suc, ◌+◌, ◌-◌, ◌*◌, ◌<◌, ◌≤◌, true, false, ◌&&◌, eqb, ltb, leb, List, [], ◌∷◌, length, get_or, sym, ap, ◌∙◌, subst, mul-le-mul_left, mul-one, arith}
use Rattle.std.specs.List.{AllByRecursion}
use Rattle.std.proofs.lemmas.Bool.{and_parts, and_from, leb-true, le-leb, ltb-true, lt-ltb, eqb-true, eq-eqb}
use Rattle.std.proofs.ByRecursion.{All-get_or}
use Rattle.std.proofs.lemmas.Bool.Decides.{nat_tests}
use Rattle.traffic.specs.declared.rate.Rate.{Rate}
use Rattle.traffic.specs.declared.flow.Flow.{Flow}
use Rattle.traffic.specs.declared.packet.Packet.{Packet}
use Rattle.traffic.specs.Wire.{wire_time}
use Rattle.traffic.specs.Packets.{arrival, flow_at, no_flow}
use Rattle.traffic.specs.Orders.{delivered_before}
use Rattle.sheet.specs.Ranges.{between, flow_ranged, flow_kept, all_kept}
use Rattle.traffic.specs.declared.sort.Sort.{Sort}
use Rattle.traffic.specs.Sorts.{of_sort}
use Rattle.arrivals.specs.Sorts.{belongs}
use Rattle.arrivals.proofs.Turns.{arrives-later}

-- the parts of the test
pub record OnSheet (s : Sort) (fs : List Flow) (end : ℕ) (p : Packet) : Type 0 where
  pub low : 1 ≤ p.flow
  pub high : p.flow ≤ length fs
  pub counts : 1 ≤ p.number
  pub time : p.arrival ≡ arrival (flow_at fs p.flow) p.number
  pub sort : of_sort s (flow_at fs p.flow) p.number ≡ true
  pub early : p.arrival < end

module _ (s : Sort) (fs : List Flow) (end : ℕ) (p : Packet) where
  pub on_sheet : belongs s fs end p ≡ true → OnSheet s fs end p
  on_sheet h =
      let f = flow_at fs p.flow in
      let a = and_parts (leb 1 p.flow && leb p.flow (length fs)) _ h in
      let b = and_parts (leb 1 p.flow) (leb p.flow (length fs)) a.0 in
      let c = and_parts (leb 1 p.number) _ a.1 in
      let d = and_parts (eqb p.arrival (arrival f p.number)) _ c.1 in
      let e = and_parts (of_sort s f p.number) (ltb p.arrival end) d.1 in
      record {
        low = leb-true 1 p.flow b.0;
        high = leb-true p.flow (length fs) b.1;
        counts = leb-true 1 p.number c.0;
        time = eqb-true p.arrival (arrival f p.number) d.0;
        sort = e.0;
        early = ltb-true p.arrival end e.1;
      }

  pub on_sheet_belongs : OnSheet s fs end p → belongs s fs end p ≡ true
  on_sheet_belongs o =
      let f = flow_at fs p.flow in
      and_from (leb 1 p.flow && leb p.flow (length fs)) _
      (and_from (leb 1 p.flow) (leb p.flow (length fs)) (le-leb 1 p.flow o.low) (le-leb p.flow (length fs) o.high))
      (and_from (leb 1 p.number) _ (le-leb 1 p.number o.counts)
      (and_from (eqb p.arrival (arrival f p.number)) _ (eq-eqb p.arrival (arrival f p.number) o.time)
      (and_from (of_sort s f p.number) (ltb p.arrival end) o.sort (lt-ltb p.arrival end o.early))))

-- each flow has a period
abbrev pub Periodic : List Flow → Type 0
Periodic fs = AllByRecursion (λ f. 0 < f.period) fs

-- the sheet says so
pub kept_periodic : (r : Rate) (fs : List Flow) → all_kept r fs ≡ true → Periodic fs
kept_periodic r [] h = tt
kept_periodic r (f ∷ fs) h =
    let a = and_parts (flow_kept r f) (all_kept r fs) h in
    let b = and_parts (flow_ranged f) (leb (wire_time r f.octets) f.deadline) a.0 in
    let c = and_parts (between 1 7 f.queue) _ b.0 in
    let d = and_parts (between 64 1522 f.octets) _ c.1 in
    let e = and_parts (between 1 1000000000 f.period) _ d.1 in
    let low = and_parts (leb 1 f.period) (leb f.period 1000000000) e.0 in
    (leb-true 1 f.period low.0, kept_periodic r fs a.1)

-- flow i by its place
pub flow_at_place : (fs : List Flow) (i : ℕ) → 1 ≤ i → flow_at fs i ≡ get_or fs (i - 1) no_flow
flow_at_place fs zero h = absurd (omega arith)
flow_at_place fs (suc i) h = let at : i ≡ suc i - 1 = omega arith in ap (λ (k : ℕ). get_or fs k no_flow) at

pub period_some : (fs : List Flow) → Periodic fs → (i : ℕ) → 1 ≤ i → i ≤ length fs → 0 < (flow_at fs i).period
period_some fs h i low high = subst (λ (f : Flow). 0 < f.period) (sym (flow_at_place fs i low)) (All-get_or (λ (f : Flow). 0 < f.period) fs (i - 1) no_flow (omega arith) h)

-- a packet's number does not pass its arrival
pub number_early : (s : Sort) (fs : List Flow) (end : ℕ) (p : Packet) → Periodic fs → OnSheet s fs end p → p.number ≤ p.arrival + 1
number_early s fs end p h o =
    let some : 1 ≤ (flow_at fs p.flow).period = period_some fs h p.flow o.low o.high in
    let times : (p.number - 1) * 1 ≤ (p.number - 1) * (flow_at fs p.flow).period = mul-le-mul_left (p.number - 1) some in
    let once : (p.number - 1) * 1 ≡ p.number - 1 = mul-one (p.number - 1) in
    omega (arith, o.time)

-- of two packets of a flow, the one with the greater number is not delivered before the other
pub not_delivered_before : (s : Sort) (fs : List Flow) (end : ℕ) (p q : Packet) → OnSheet s fs end p → OnSheet s fs end q → q.flow ≡ p.flow → q.number ≤ p.number → delivered_before p q ≡ false
not_delivered_before s fs end p q op oq same less =
    let time : q.arrival ≡ arrival (flow_at fs p.flow) q.number = oq.time ∙ ap (λ (i : ℕ). arrival (flow_at fs i) q.number) same in
    let later : arrival (flow_at fs p.flow) q.number ≤ arrival (flow_at fs p.flow) p.number = arrives-later (flow_at fs p.flow) q.number p.number less in
    let order : q.arrival ≤ p.arrival = omega (arith, op.time) in
    ordered p q same order
  where
    ordered : (p q : Packet) → q.flow ≡ p.flow → q.arrival ≤ p.arrival → delivered_before p q ≡ false
    ordered p q same order = grind (arith, nat_tests)
