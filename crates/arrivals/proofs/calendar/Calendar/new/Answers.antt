-- The calendar made.
use Rattle.std.proofs.Common.{◌≡◌, ℕ, ◌*◌, ◌<◌, ◌≤◌, true, ◌&&◌, leb, List, [], ◌∷◌, length, None, sym, ap, ◌∙◌, subst, mul-le-mul, arith, rules}
use Rattle.std.proofs.lemmas.Bool.{and_from, le-leb, eqb-false, cond-true}
use Rattle.std.proofs.ByRecursion.{All-weaker}
use Rattle.traffic.specs.declared.flow.Flow.{Flow}
use Rattle.traffic.specs.declared.packet.Packet.{Packet}
use Rattle.traffic.specs.declared.sort.Sort.{Sort}
use Rattle.arrivals.specs.Merges.{Apart}
use Rattle.arrivals.specs.Sorts.{other_sort, calendar, belongs, Exactly}
use Rattle.std.specs.List.{list_any}
use Rattle.arrivals.specs.Cursors.{leads_to, from_cursors, FirstCursors}
use Rattle.arrivals.specs.Calendars.{calendar_fault}
use Rattle.arrivals.proofs.Belonging.{Periodic, kept_periodic}
use Rattle.arrivals.proofs.Instants.{calendar_only, calendar_exactly, calendar_apart}
use Rattle.arrivals.proofs.Taking.{kept_all}
use Rattle.arrivals.proofs.calendar.Calendar.new.Goals as goal

-- the first cursors lead to the whole calendar
whole : (s : Sort) (fs : List Flow) (end : ℕ) (cs : List Packet) → FirstCursors s fs end cs → from_cursors s fs end cs ≡ calendar s fs end
whole s fs end cs h =
    kept_all (λ (p : Packet). list_any (leads_to p) cs) (calendar s fs end)
    (All-weaker (λ (p : Packet). belongs s fs end p ≡ true) (λ (p : Packet). list_any (leads_to p) cs ≡ true) h.whole (calendar s fs end) (calendar_only s fs end))

-- some flow, and cycles in range
no_fault : (fs : List Flow) (cycles : ℕ) → 0 < length fs → 1 ≤ cycles → cycles ≤ 4000000000 → calendar_fault fs cycles ≡ None
no_fault [] cycles some low high = absurd (omega arith)
no_fault (f ∷ fs) cycles some low high = cond-true (leb 1 cycles && leb cycles 4000000000) _ _ (and_from (leb 1 cycles) (leb cycles 4000000000) (le-leb 1 cycles low) (le-leb cycles 4000000000 high))

-- the end of so many cycles
end_bound : (cycles cycle : ℕ) → cycles ≤ 4000000000 → cycle ≤ 1000000000 → cycles * cycle ≤ 4000000000000000000
end_bound cycles cycle few short = mul-le-mul few short

pub invariant_of-result : goal.invariant_of-result
invariant_of-result c =
    let fs = c.args.sheet.now.flows.items in
    let end = c.args.cycles * c.cycle.result in
    let cs = c.first_cursors-cursors.result in
    let short : c.cycle.result ≤ 1000000000 = omega (arith, c.cycle.ensures, c.args.sheet.now.short) in
    let first : FirstCursors c.args.sort fs end cs = subst (λ (gs : List Flow). FirstCursors c.args.sort gs end cs) c.flows-flows.ensures c.first_cursors-cursors.ensures in
    record { early = end_bound c.args.cycles c.cycle.result (search rules) short; stands = first.stands }

pub returns : goal.returns
returns c =
    let sheet = c.args.sheet.now in
    let fs = sheet.flows.items in
    let end = c.args.cycles * c.cycle.result in
    let cs = c.first_cursors-cursors.result in
    let periodic : Periodic fs = kept_periodic sheet.rate fs sheet.kept in
    let first : FirstCursors c.args.sort fs end cs = subst (λ (gs : List Flow). FirstCursors c.args.sort gs end cs) c.flows-flows.ensures c.first_cursors-cursors.ensures in
    let some : length c.flows-flows.result.now ≡ 0 → ⊥ = eqb-false (length c.flows-flows.result.now) 0 (sym c.is_empty.ensures ∙ c.if-is_empty.false) in
    let long : length c.flows-flows.result.now ≡ length fs = ap length c.flows-flows.ensures in
    let same : end ≡ c.args.cycles * sheet.cycle = ap (λ (k : ℕ). c.args.cycles * k) c.cycle.ensures in
    let list : from_cursors c.args.sort fs end cs ≡ calendar c.args.sort fs (c.args.cycles * sheet.cycle) = whole c.args.sort fs end cs first ∙ ap (calendar c.args.sort fs) same in
    record {
      taken = no_fault fs c.args.cycles (omega arith) (search rules) (search rules);
      list = list;
      exactly = subst (Exactly c.args.sort fs (c.args.cycles * sheet.cycle)) (sym list) (calendar_exactly c.args.sort fs periodic (c.args.cycles * sheet.cycle));
      apart = λ other. subst (λ (ps : List Packet). Apart ps (calendar (other_sort c.args.sort) fs other)) (sym list) (calendar_apart c.args.sort fs periodic (c.args.cycles * sheet.cycle) other);
    }
