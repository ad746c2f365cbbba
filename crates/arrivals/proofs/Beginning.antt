-- The first cursors, flow by flow.
use Rattle.std.proofs.Common.{◌≡◌, ℕ, ◌+◌, ◌-◌, ◌<◌, ◌≤◌, true, false, List, ◌∷◌, length, get_or, drop, sym, ap, ◌∙◌, subst, ⊎_elim, arith}
use Rattle.std.specs.List.{list_any}
use Rattle.std.proofs.lemmas.List.{length-drop, get_or-drop, drop-drop}
use Rattle.std.proofs.lemmas.Bool.{and_from, or_left, or_right, or_from, eq-eqb, ne_eqb, le-leb, cases_eq, cases_lt, both_ways}
use Rattle.traffic.specs.declared.flow.Flow.{Flow}
use Rattle.traffic.specs.declared.packet.Packet.{Packet}
use Rattle.traffic.specs.declared.sort.Sort.{Sort}
use Rattle.traffic.specs.Packets.{arrival, flow_at, no_flow}
use Rattle.traffic.specs.Orders.{delivered_before}
use Rattle.traffic.specs.Sorts.{of_sort}
use Rattle.table.specs.Order.{in_order, placed}
use Rattle.arrivals.specs.Sorts.{belongs}
use Rattle.arrivals.specs.Upcoming.{NoPacket, NextPacket}
use Rattle.arrivals.specs.Cursors.{at_flow, standing, leads_to, FirstCursors}
use Rattle.arrivals.proofs.Belonging.{on_sheet, on_sheet_belongs, flow_at_place}
use Rattle.arrivals.proofs.Leading.{some_placed, length-placed, standing-placed}

-- the cursors of the flows in front of flow n, from which on the rest is left
pub record Begun (s : Sort) (fs : List Flow) (end n : ℕ) (rest : List Flow) (cs : List Packet) : Type 0 where
  pub low : 1 ≤ n
  pub high : n ≤ length fs + 1
  pub left : rest ≡ drop (n - 1) fs
  pub count : length cs < n
  pub ordered : in_order delivered_before cs ≡ true
  pub stands : standing s fs end cs ≡ true
  pub few : (k : ℕ) → n ≤ k → list_any (at_flow k) cs ≡ false
  pub whole : (p : Packet) → belongs s fs end p ≡ true → p.flow < n → list_any (leads_to p) cs ≡ true

module _ (s : Sort) (fs : List Flow) (end : ℕ) where
  pub begun_all : (n : ℕ) (rest : List Flow) (cs : List Packet) → Begun s fs end n rest cs → length rest ≡ 0 → FirstCursors s fs end cs
  begun_all n rest cs b none =
      let all : length fs < n = omega (arith, b.low, none, ap length b.left, length-drop (n - 1) fs) in
      record { ordered = b.ordered; stands = b.stands; whole = λ p h. b.whole p h (omega (arith, all, (on_sheet s fs end p h).high)) }

  -- flow n is f
  module _ (n : ℕ) (rest : List Flow) (cs : List Packet) (b : Begun s fs end n rest cs) (f : Flow) (after : List Flow) (is : rest ≡ f ∷ after) where
    cut : drop (n - 1) fs ≡ f ∷ after
    cut = sym b.left ∙ is

    pub within : n ≤ length fs
    within = omega (arith, b.low, ap length cut, length-drop (n - 1) fs)

    flow-here : (k : ℕ) → k ≡ n → flow_at fs k ≡ f
    flow-here k e =
        let at : n - 1 + 0 ≡ n - 1 = omega arith in
        ap (flow_at fs) e ∙ flow_at_place fs n b.low ∙ ap (λ (j : ℕ). get_or fs j no_flow) (sym at) ∙ sym (get_or-drop (n - 1) fs 0 no_flow) ∙ ap (λ (gs : List Flow). get_or gs 0 no_flow) cut

    left-after : after ≡ drop (n + 1 - 1) fs
    left-after =
        let on : n - 1 + 1 ≡ n + 1 - 1 = omega (arith, b.low) in
        sym (ap (drop 1) cut) ∙ drop-drop 1 (n - 1) fs ∙ ap (λ (k : ℕ). drop k fs) on

    -- it has no packet
    pub begun_skip : NoPacket s f 1 end → Begun s fs end (n + 1) after cs
    begun_skip none = record { low = omega arith; high = omega (arith, within); left = left-after; count = omega (arith, b.count); ordered = b.ordered; stands = b.stands; few = λ k l. b.few k (omega arith); whole = whole }
      where
        whole : (p : Packet) → belongs s fs end p ≡ true → p.flow < n + 1 → list_any (leads_to p) cs ≡ true
        whole p h l = ⊎_elim
            (λ (e : p.flow ≡ n).
            let o = on_sheet s fs end p h in
            let same = flow-here p.flow e in
            let sort : of_sort s f p.number ≡ true = ap (λ (g : Flow). of_sort s g p.number) (sym same) ∙ o.sort in
            let late : end ≤ arrival f p.number = none p.number o.counts sort in
            let time : p.arrival ≡ arrival f p.number = o.time ∙ ap (λ (g : Flow). arrival g p.number) same in
            absurd (omega (arith, o.early)))
            (λ ne. b.whole p h (omega arith))
            (cases_eq p.flow n)

    -- its first packet
    module _ (q : Packet) (next : NextPacket s f n 1 end q) where
      same_flow : flow_at fs q.flow ≡ f
      same_flow = flow-here q.flow next.flow

      here-belongs : belongs s fs end q ≡ true
      here-belongs = on_sheet_belongs s fs end q (record {
        low = omega (arith, b.low, next.flow);
        high = omega (arith, within, next.flow);
        counts = next.first.from;
        time = next.time ∙ ap (λ (g : Flow). arrival g q.number) (sym same_flow);
        sort = ap (λ (g : Flow). of_sort s g q.number) same_flow ∙ next.first.passes;
        early = next.early;
      })

      few_more : (k : ℕ) → n + 1 ≤ k → list_any (at_flow k) (placed delivered_before q cs) ≡ false
      few_more k l =
          let other : q.flow ≡ k → ⊥ = λ e. omega (arith, next.flow) in
          some_placed delivered_before (at_flow k) q cs ∙ or_from (at_flow k q) (list_any (at_flow k) cs) (ne_eqb q.flow k other) (b.few k (omega arith))

      whole_more : (p : Packet) → belongs s fs end p ≡ true → p.flow < n + 1 → list_any (leads_to p) (placed delivered_before q cs) ≡ true
      whole_more p h l = some_placed delivered_before (leads_to p) q cs ∙ ⊎_elim
          (λ (e : p.flow ≡ n).
          let o = on_sheet s fs end p h in
          let sort : of_sort s f p.number ≡ true = ap (λ (g : Flow). of_sort s g p.number) (sym (flow-here p.flow e)) ∙ o.sort in
          let reached : q.number ≤ p.number = ⊎_elim (λ less. absurd (both_ways (of_sort s f p.number) (next.first.first p.number o.counts less) sort)) (λ ge. ge) (cases_lt p.number q.number) in
          or_left (leads_to p q) (list_any (leads_to p) cs) (and_from (at_flow p.flow q) _ (eq-eqb q.flow p.flow (next.flow ∙ sym e)) (le-leb q.number p.number reached)))
          (λ ne. or_right (leads_to p q) (list_any (leads_to p) cs) (b.whole p h (omega arith)))
          (cases_eq p.flow n)

      pub begun_put : (more : List Packet) → more ≡ placed delivered_before q cs → in_order delivered_before more ≡ true → Begun s fs end (n + 1) after more
      begun_put more put io = subst (Begun s fs end (n + 1) after) (sym put) (record {
        low = omega arith;
        high = omega (arith, within);
        left = left-after;
        count = omega (arith, b.count, length-placed delivered_before q cs);
        ordered = ap (in_order delivered_before) (sym put) ∙ io;
        stands = standing-placed s fs end delivered_before q cs (record { here = here-belongs; alone = b.few q.flow (omega (arith, next.flow)); others = b.stands });
        few = few_more;
        whole = whole_more;
      })
