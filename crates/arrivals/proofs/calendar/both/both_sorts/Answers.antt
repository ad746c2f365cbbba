-- The two calendars share no place, so they rise together.
use Rattle.std.proofs.Common.{◌≡◌, ◌*◌, List, sym, ap, ◌∙◌, subst}
use Rattle.traffic.specs.declared.packet.Packet.{Packet}
use Rattle.arrivals.specs.Sources.{Rises}
use Rattle.arrivals.specs.Merges.{merged, Apart}
use Rattle.arrivals.specs.Calendars.{to_come}
use Rattle.arrivals.proofs.calendar.both.both_sorts.Goals as goal

-- equal lists give one list
same-merged : {us vs xs ys : List Packet} → us ≡ xs → vs ≡ ys → merged us vs ≡ merged xs ys
same-merged {us} {vs} {xs} {ys} p q = ap (λ (zs : List Packet). merged zs vs) p ∙ ap (λ (zs : List Packet). merged xs zs) q

pub returns : goal.returns
returns c =
    let m = c.in_ok-mandatory.mandatory in
    let o = c.in_ok-optional.optional in
    let mandatory = c.in_ok-mandatory.ensures in
    let optional = c.in_ok-optional.ensures in
    let first : to_come c.new-3.result.first ≡ to_come m = ap to_come c.new-3.ensures.parts.0 in
    let second : to_come c.new-3.result.second ≡ to_come o = ap to_come c.new-3.ensures.parts.1 in
    let apart : Apart (to_come m) (to_come o) = subst (Apart (to_come m)) (sym optional.list) (mandatory.apart (c.args.cycles * c.args.sheet.now.cycle)) in
    let rising : Rises (merged (to_come m) (to_come o)) = c.new-3.ensures.laws.strict mandatory.exactly.ordered optional.exactly.ordered apart in
    record {
      taken = mandatory.taken;
      list = same-merged (first ∙ mandatory.list) (second ∙ optional.list);
      ordered = subst Rises (sym (same-merged first second)) rising;
    }
