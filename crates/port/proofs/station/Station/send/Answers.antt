-- What starts.
use Rattle.std.proofs.Common.{◌≡◌, true, sym, refl, subst}
use Rattle.traffic.specs.declared.packet.Packet.{Packet}
use Rattle.sending.specs.Calls.{of_sheet}
use Rattle.port.specs.Station.{sheet_of}
use Rattle.port.proofs.Lining.{left-lined}
use Rattle.port.proofs.Outgo.{ours, starting, sent_nothing, sent_start}
use Rattle.port.proofs.station.Station.send.Goals as goal

pub returns-in_err-queue : goal.returns-in_err-queue
returns-in_err-queue c = rw c.from_residual.ensures (sent_nothing c.args.list.now c.args.at c.args.offset c.args.self.now (sym c.in_err-queue.ensures))

pub is_mandatory_packet-requires : goal.is_mandatory_packet-requires
is_mandatory_packet-requires c =
    let can = starting c.args.self.now.lanes c.args.list.now c.args.offset c.in_ok-queue.queue c.in_ok-queue.first (sym c.in_ok-queue.ensures) in
    subst (λ (p : Packet). of_sheet (sheet_of c.args.self.now) p ≡ true) (sym c.from-packet.ensures) (ours c.args.list.now c.args.at c.args.offset c.args.self.now c.in_ok-queue.queue c.in_ok-queue.first can.head)

pub invariant_of-self : goal.invariant_of-self
invariant_of-self c = let x = c.args.self.now in record { lined = left-lined (sheet_of x) x.lanes c.leave.new.self c.in_ok-queue.queue x.lined c.leave.ensures }

pub returns : goal.returns
returns c =
    let x = c.args.self.now in
    let q = c.in_ok-queue.queue in
    let w = c.in_ok-queue.first in
    let can = starting x.lanes c.args.list.now c.args.offset q w (sym c.in_ok-queue.ensures) in
    sent_start c.args.list.now c.args.at c.args.offset x q w can c.if-self-at.false c.from-packet.result c.from-packet.ensures _ refl c.leave.ensures refl (rw c.is_mandatory_packet.ensures at c.add_start.ensures) refl
