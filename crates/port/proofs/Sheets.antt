-- Packets of the sheet, as the code tells them. Assumes nothing.
use Rattle.std.proofs.Common.{◌≡◌, ℕ, zero, suc, ◌+◌, ◌^◌, ◌<◌, ◌≤◌, Bool, true, false, cond, ◌&&◌, eqb, ltb, leb, List, [], ◌∷◌, length, get_or, Some, None, Option, sym, refl, ap, ◌∙◌, subst, ⊎_elim, arith}
use Rattle.std.specs.Bool.{then_some}
use Rattle.std.specs.Option.{MatchOption}
use Rattle.std.proofs.lemmas.Bool.{cases_Bool, cond_both, and_parts, and_from, le-leb, lt-ltb, ltb-true, eqb-true, eq-eqb, ne_eqb, both_ways, cond-false}
use Rattle.traffic.specs.declared.rate.Rate.{Rate}
use Rattle.traffic.specs.declared.flow.Flow.{Flow}
use Rattle.traffic.specs.declared.packet.Packet.{Packet}
use Rattle.traffic.specs.declared.packet.Job.{Job}
use Rattle.traffic.specs.Pattern.{mandatory_at}
use Rattle.traffic.specs.Packets.{Traffic, arrival, listed, no_flow}
use Rattle.cycle.specs.Cycle.{packets_in, number_in_cycle}
use Rattle.cycle.proofs.Repeats.{same_place}
use Rattle.sheet.specs.declared.sheet.Sheet.{Sheet}
use Rattle.sheet.specs.Contents.{traffic_of}
use Rattle.sheet.specs.Ranges.{flow_kept, all_kept}
use Rattle.sheet.proofs.Numerals.{between_parts}
use Rattle.sheet.proofs.FlowLines.{kept_parts}
use Rattle.sending.specs.Sheet.{Fits, OfSheet, cycle, flow, job_of, queue}
use Rattle.sending.specs.Calls.{of_sheet}
use Rattle.sending.proofs.Fitting.{read_sheets_fit}
use Rattle.sending.proofs.Packets.{fits_of}
use Rattle.sending.proofs.Source.{ours_from}

-- each flow of a sheet keeps its ranges
kept_at : (r : Rate) (fs : List Flow) (i : ℕ) → all_kept r fs ≡ true → i < length fs → flow_kept r (get_or fs i no_flow) ≡ true
kept_at r [] i k l = absurd (omega arith)
kept_at r (f ∷ fs) zero k l = (and_parts (flow_kept r f) (all_kept r fs) k).0
kept_at r (f ∷ fs) (suc i) k l = kept_at r fs i (and_parts (flow_kept r f) (all_kept r fs) k).1 (omega arith)

-- so its deadline is short
short_deadline : (s : Traffic) → all_kept s.rate s.flows ≡ true → (i : ℕ) → 1 ≤ i → i ≤ length s.flows → (flow s i).deadline ≤ 1000000000
short_deadline s kept zero a b = absurd (omega arith)
short_deadline s kept (suc i) a b =
    let f = get_or s.flows i no_flow in
    let r = kept_parts s.rate f (kept_at s.rate s.flows i kept b) in
    let period = between_parts 1 1000000000 f.period r.period in
    let deadline = between_parts 1 f.period f.deadline r.deadline in
    omega arith

module _ (s : Traffic) (kept : all_kept s.rate s.flows ≡ true) (p : Packet) (early : p.arrival ≤ 4000000000000000000) where
  abbrev there : Bool
  there = listed s.flows p.flow && ltb (arrival (flow s p.flow) p.number + (flow s p.flow).deadline) (2 ^ 64)

  abbrev fits : Bool
  fits = ltb 0 p.number && eqb (arrival (flow s p.flow) p.number) p.arrival

  -- the sheet has the packet where its flow has it and it arrives then
  both_ours : there && fits ≡ of_sheet s p
  both_ours = ⊎_elim
      (λ (e : of_sheet s p ≡ true).
      let o = ours_from s p e in
      let short = short_deadline s kept p.flow o.from_one o.to_last in
      let on_time = o.on_time in
      and_from there fits
      (and_from (listed s.flows p.flow) _ (and_parts (listed s.flows p.flow) _ e).0 (lt-ltb _ _ (omega arith)))
      (and_from (ltb 0 p.number) _ (lt-ltb 0 p.number o.numbered) (eq-eqb (arrival (flow s p.flow) p.number) p.arrival (sym on_time)))
      ∙ sym e)
      (λ (e : of_sheet s p ≡ false). ⊎_elim
      (λ (h : (there && fits) ≡ true).
      let a = and_parts there fits h in
      let b = and_parts (ltb 0 p.number) _ a.1 in
      let numbered = ltb-true 0 p.number b.0 in
      let on_time = eqb-true (arrival (flow s p.flow) p.number) p.arrival b.1 in
      absurd (both_ways (of_sheet s p) e (and_from (listed s.flows p.flow) _ (and_parts (listed s.flows p.flow) _ a.0).0 (and_from (leb 1 p.number) _ (le-leb 1 p.number numbered) (eq-eqb p.arrival _ (sym on_time))))))
      (λ h. h ∙ sym e)
      (cases_Bool (there && fits)))
      (cases_Bool (of_sheet s p))

  -- what the sheet says of its flow's packet, if it is this one
  pub job_told : (o r : Option Job) → o ≡ cond there (Some (job_of s p)) None → MatchOption o (r ≡ None) (λ x. r ≡ then_some (ltb 0 p.number && eqb x.arrival p.arrival) x) → r ≡ cond (of_sheet s p) (Some (job_of s p)) None
  job_told o r e h = go there (subst (λ k. MatchOption k (r ≡ None) (λ x. r ≡ then_some (ltb 0 p.number && eqb x.arrival p.arrival) x)) e h) ∙ ap (λ b. cond b (Some (job_of s p)) None) both_ours
    where
      some : (b : Bool) → then_some b (job_of s p) ≡ cond b (Some (job_of s p)) None
      some true = refl
      some false = refl

      go : (b : Bool) → MatchOption (cond b (Some (job_of s p)) None) (r ≡ None) (λ x. r ≡ then_some (ltb 0 p.number && eqb x.arrival p.arrival) x) → r ≡ cond (b && fits) (Some (job_of s p)) None
      go true m = m ∙ some fits
      go false m = m

-- its cycle takes some time
pub some_cycle : (sheet : Sheet) → 0 < sheet.cycle
some_cycle sheet = let some = (read_sheets_fit (traffic_of sheet) sheet.kept).some_time in omega (arith, sheet.round)

-- some of its packets arrive in a cycle
packets_some : (s : Traffic) → Fits s → (p : Packet) → OfSheet s p → 0 < packets_in (cycle s) (flow s p.flow)
packets_some s fs p o =
    let place = same_place (cycle s) (flow s p.flow) (fits_of s fs p o).whole_patterns fs.some_time 1 in
    omega (arith, place.first, place.last)

-- so a packet of it has a number there
pub number_there : (s : Traffic) → Fits s → (p : Packet) → OfSheet s p → (a : ℕ) (f : Flow) → a ≡ cycle s → f ≡ flow s p.flow → (r : Option ℕ) →
    r ≡ cond (eqb (packets_in a f) 0) None (Some (number_in_cycle a f p.number)) → r ≡ Some (number_in_cycle (cycle s) (flow s p.flow) p.number)
number_there s fit p o a f e g r h =
    let some = packets_some s fit p o in
    h ∙ (λ i. cond (eqb (packets_in (e i) (g i)) 0) None (Some (number_in_cycle (e i) (g i) p.number)))
    ∙ cond-false (eqb (packets_in (cycle s) (flow s p.flow)) 0) None (Some (number_in_cycle (cycle s) (flow s p.flow) p.number)) (ne_eqb _ _ (λ z. omega arith))

-- and waits in one of the eight queues
pub queue_low : (s : Traffic) → Fits s → (p : Packet) → OfSheet s p → queue s p < 8
queue_low s fit p o =
    let f = flow s p.flow in
    let low = (fits_of s fit p o).last_queue in
    cond_both (mandatory_at f p.number) f.queue 0 (λ q. q < 8) (λ _. omega arith) (λ _. omega arith)
