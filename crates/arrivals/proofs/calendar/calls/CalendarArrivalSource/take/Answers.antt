-- The first cursor moves on.
use Rattle.std.proofs.Common.{◌≡◌, ℕ, ◌+◌, ◌<◌, ◌≤◌, Bool, true, false, if◌then◌else◌, List, ◌∷◌, length, Some, None, Result, MatchResult, sym, ap, ◌∙◌, subst, arith}
use Rattle.traffic.specs.declared.flow.Flow.{Flow}
use Rattle.traffic.specs.declared.packet.Packet.{Packet}
use Rattle.traffic.specs.Packets.{flow_at}
use Rattle.traffic.specs.Orders.{delivered_before}
use Rattle.table.specs.Order.{in_order, placed}
use Rattle.arrivals.specs.declared.calendar.Calendar.{Calendar}
use Rattle.arrivals.specs.Sources.{first, rest}
use Rattle.arrivals.specs.Upcoming.{NoPacket, NextPacket}
use Rattle.arrivals.proofs.Belonging.{Periodic, kept_periodic, number_early}
use Rattle.arrivals.proofs.Leading.{put_fits}
use Rattle.arrivals.proofs.Taking.{nothing_left, known, Moves, moves_last, moves_on}
use Rattle.arrivals.proofs.calendar.calls.CalendarArrivalSource.take.Goals as goal

periodic : (m : Calendar) → Periodic m.sheet.now.flows.items
periodic m = kept_periodic m.sheet.now.rate m.sheet.now.flows.items m.sheet.now.kept

same_flow : (there : Bool) (f g : Flow) → Some f ≡ (if there then Some g else None) → f ≡ g
same_flow true f g h = cc
same_flow false f g h = absurd (let e : ◌≡◌ {A = ℕ} 0 1 = cc in omega arith)

-- the first cursor q is taken
module _ (m : Calendar) (q : Packet) (qs : List Packet) (is : m.cursors ≡ q ∷ qs) (io : in_order delivered_before m.cursors ≡ true) where
  abbrev fs : List Flow
  fs = m.sheet.now.flows.items

  number_bound : q.number ≤ 4000000000000000000
  number_bound =
      let o = known m.sort fs m.end (periodic m) m.cursors q qs is m.stands io in
      omega (arith, number_early m.sort fs m.end q (periodic m) o, o.early, m.early)

  module _ (there : Bool) (f : Flow) (flow : Some f ≡ (if there then Some (flow_at fs q.flow) else None)) where
    -- and the next of its flow is put
    goes_on : {X Y : Type 0} (r : Result X Y) (n : Packet) (left : List Packet) → length m.cursors ≤ 64
        → MatchResult r (λ _. (length qs < 64) × (left ≡ placed delivered_before n qs)) (λ _. (64 ≤ length qs) × (left ≡ qs))
        → NextPacket m.sort f q.flow (q.number + 1) m.end n → Moves m.sort fs m.end m.cursors q left
    goes_on r n left few put next =
        let room : length qs < 64 = omega (arith, few, ap length is) in
        let own = subst (λ (g : Flow). NextPacket m.sort g q.flow (q.number + 1) m.end n) (same_flow there f (flow_at fs q.flow) flow) next in
        subst (Moves m.sort fs m.end m.cursors q) (sym (put_fits r n qs left room put)) (moves_on m.sort fs m.end (periodic m) m.cursors q qs is m.stands io n own)

    -- and its flow has no more
    ends : NoPacket m.sort f (q.number + 1) m.end → Moves m.sort fs m.end m.cursors q qs
    ends none = moves_last m.sort fs m.end (periodic m) m.cursors q qs is m.stands io (subst (λ (g : Flow). NoPacket m.sort g (q.number + 1) m.end) (same_flow there f (flow_at fs q.flow) flow) none)

pub returns-in_err-packet : goal.returns-in_err-packet
returns-in_err-packet c =
    let m = c.args.self.now in
    let none = nothing_left m.sort m.sheet.now.flows.items m.end in
    let before = none m.cursors c.in_err-packet.ensures.cases.0 in
    record { value = c.from_residual.ensures ∙ sym (ap first before); after = none c.take_first.new.self c.in_err-packet.ensures.cases.1 ∙ sym (ap rest before) }

pub overflow_add-from : goal.overflow_add-from
overflow_add-from c = omega (arith, number_bound c.args.self.now c.in_ok-packet.packet c.take_first.new.self c.in_ok-packet.ensures.cases c.take_first.ensures.ordered.0)

pub next_packet-requires : goal.next_packet-requires
next_packet-requires c =
    let bound = number_bound c.args.self.now c.in_ok-packet.packet c.take_first.new.self c.in_ok-packet.ensures.cases c.take_first.ensures.ordered.0 in
    (omega arith, omega arith)

pub invariant_of-self-in-Some : goal.invariant_of-self-in-Some
invariant_of-self-in-Some c =
    let m = c.args.self.now in
    let to = goes_on m c.in_ok-packet.packet c.take_first.new.self c.in_ok-packet.ensures.cases c.take_first.ensures.ordered.0 _ c.in_ok-flow.flow c.in_ok-flow.ensures c.put.result c.in-Some.next c.put.new.self c.take_first.ensures.few c.put.ensures.cases c.in-Some.ensures in
    record { early = m.early; stands = to.stands }

pub returns-in-Some : goal.returns-in-Some
returns-in-Some c =
    let m = c.args.self.now in
    let to = goes_on m c.in_ok-packet.packet c.take_first.new.self c.in_ok-packet.ensures.cases c.take_first.ensures.ordered.0 _ c.in_ok-flow.flow c.in_ok-flow.ensures c.put.result c.in-Some.next c.put.new.self c.take_first.ensures.few c.put.ensures.cases c.in-Some.ensures in
    record { value = to.value; after = to.after }

pub returns-in_default : goal.returns-in_default
returns-in_default c =
    let to = ends c.args.self.now c.in_ok-packet.packet c.take_first.new.self c.in_ok-packet.ensures.cases c.take_first.ensures.ordered.0 _ c.in_ok-flow.flow c.in_ok-flow.ensures c.in_default.ensures in
    record { value = to.value; after = to.after }
