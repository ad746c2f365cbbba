-- A packet waits where one of the jobs is of it.
use Rattle.std.proofs.Common.{◌≡◌, ◌||◌, List, [], ◌∷◌, map, refl, ap, ◌∙◌, arith, rules, tests}
use Rattle.std.specs.List.{list_any}
use Rattle.std.proofs.lemmas.List.{get_or_default}
use Rattle.std.proofs.lemmas.Iterator.{YieldsList-from_slice}
use Rattle.std.proofs.lemmas.Iterator.Search.{any_from_yields_List}
use Rattle.traffic.specs.declared.packet.Packet.{Packet}
use Rattle.traffic.specs.declared.packet.Job.{Job}
use Rattle.traffic.specs.Packets.{packet_of}
use Rattle.sending.specs.Sheet.{same}
use Rattle.sending.specs.Port.{holds}
use Rattle.port.specs.Lanes.{queue_at}
use Rattle.port.proofs.lanes.Lanes.holds.Goals as goal

any_holds : (jobs : List Job) (p : Packet) → list_any (λ x. same p (packet_of x)) jobs ≡ holds (map packet_of jobs) p
any_holds [] p = refl
any_holds (x ∷ xs) p = ap (λ b. same p (packet_of x) || b) (any_holds xs p)

pub returns : goal.returns
returns c =
    let p = c.args.packet.now in
    let there : c.records-waiting.result.now ≡ queue_at c.args.self.now c.args.queue = c.records-waiting.ensures.value ∙ get_or_default c.args.self.now.queues c.args.queue c.index-self-queue.result [] (omega arith) in
    let found : c.any.result ≡ list_any (λ x. same p (packet_of x)) c.records-waiting.result.now = any_from_yields_List (λ x. same p (packet_of x)) _ _ _ c.any.ensures.ran (YieldsList-from_slice c.records-waiting.result.now cc) (λ x b q k. search (rules, tests)) in
    found ∙ any_holds c.records-waiting.result.now p ∙ ap (λ (jobs : List Job). holds (map packet_of jobs) p) there
