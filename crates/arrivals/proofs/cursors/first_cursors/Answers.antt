-- One flow more.
use Rattle.std.proofs.Common.{◌≡◌, ◌+◌, ◌<◌, length, sym, ap, ◌∙◌, subst, ⊎_elim, arith}
use Rattle.std.specs.Slice.Iter.{iter_rest}
use Rattle.arrivals.specs.Upcoming.{NextPacket}
use Rattle.arrivals.proofs.Leading.{put_fits}
use Rattle.arrivals.proofs.Beginning.{Begun, within, begun_all, begun_skip, begun_put}
use Rattle.arrivals.proofs.cursors.first_cursors.Goals as goal

pub loop-index-preserved : goal.loop-index-preserved
loop-index-preserved c =
    let s = c.in-Some.ensures.steps in
    let b = begun_skip c.args.sort c.args.flows.now c.args.end c.loop-index.index-iterator.a.start _ c.loop-index.cursors c.loop-index.invariant.2 c.in-Some.flow.now _ s.1 c.in_default.ensures in
    ((tt, tt), tt, subst (λ k. Begun c.args.sort c.args.flows.now c.args.end k (iter_rest c.next.new.self.b) c.loop-index.cursors) (sym (s.0.1 ∙ ap (λ k. k + 1) s.0.0)) b)

pub loop-index-preserved-in-Some-next_packet : goal.loop-index-preserved-in-Some-next_packet
loop-index-preserved-in-Some-next_packet c =
    let s = c.in-Some.ensures.steps in
    let i = c.loop-index.invariant.2 in
    let fs = c.args.flows.now in
    let n = c.loop-index.index-iterator.a.start in
    let p = c.in-Some-next_packet.packet in
    let own = subst (λ k. NextPacket c.args.sort c.in-Some.flow.now k 1 c.args.end p) s.0.0 c.in-Some-next_packet.ensures in
    let room : length c.loop-index.cursors < 64 = omega (arith, i.count, within c.args.sort fs c.args.end n _ c.loop-index.cursors i c.in-Some.flow.now _ s.1, c.requires) in
    let put = put_fits c.put.result p c.loop-index.cursors c.put.new.self room c.put.ensures.cases in
    let b = begun_put c.args.sort fs c.args.end n _ c.loop-index.cursors i c.in-Some.flow.now _ s.1 p own c.put.new.self put c.put.ensures.ordered.1 in
    ((tt, tt), tt, subst (λ k. Begun c.args.sort fs c.args.end k (iter_rest c.next.new.self.b) c.put.new.self) (sym (s.0.1 ∙ ap (λ k. k + 1) s.0.0)) b)

pub returns : goal.returns
returns c =
    let i = c.loop-index.invariant.2 in
    let none : length (iter_rest c.loop-index.index-iterator.b) ≡ 0 = ⊎_elim (λ e. absurd (omega (arith, e.1.0, i.high, c.requires))) (λ e. e.1.0) c.in-None.ensures.steps in
    begun_all c.args.sort c.args.flows.now c.args.end _ _ c.loop-index.cursors i none
