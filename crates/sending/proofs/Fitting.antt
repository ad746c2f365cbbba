-- A sheet that was read has what the promises ask of one.
use Rattle.std.proofs.Common.{◌≡◌, ℕ, zero, suc, ◌+◌, ◌≤◌, true, List, [], ◌∷◌, length, get_or, arith}
use Prim.Native.Nat.{◌∣◌}
use Rattle.std.specs.List.{AllByRecursion}
use Rattle.std.proofs.ByRecursion.{All-get_or}
use Rattle.std.proofs.lemmas.Bool.{and_parts, leb-true}
use Rattle.traffic.specs.declared.rate.Rate.{Rate}
use Rattle.traffic.specs.declared.rate.Rate.TheVariants.{Mbit10, Mbit100, Mbit1000}
use Rattle.traffic.specs.declared.flow.Flow.{Flow}
use Rattle.traffic.specs.Wire.{wire_time}
use Rattle.traffic.specs.Packets.{Traffic, no_flow}
use Rattle.cycle.specs.Cycle.{cycle_of, pattern_time}
use Rattle.cycle.proofs.Repeats.{cycle-whole, cycle_some}
use Rattle.sheet.specs.Ranges.{flow_kept, all_kept}
use Rattle.sheet.proofs.Numerals.{between_parts}
use Rattle.sheet.proofs.FlowLines.{kept_parts}
use Rattle.sheet.proofs.Loops.{periods_some}
use Rattle.sending.specs.Sheet.{FlowFits, ReadSheetsFit, cycle, flow}

-- a frame takes some time
some_wire : (r : Rate) (octets : ℕ) → 1 ≤ wire_time r octets
some_wire Mbit10 octets = omega arith
some_wire Mbit100 octets = omega arith
some_wire Mbit1000 octets = omega arith

flow-fits : (s : Traffic) (f : Flow) → flow_kept s.rate f ≡ true → pattern_time f ∣ cycle s → FlowFits s f
flow-fits s f kept whole =
    let r = kept_parts s.rate f kept in
    let queues = between_parts 1 7 f.queue r.queue in
    let deadlines = between_parts 1 f.period f.deadline r.deadline in
    let kepts = between_parts (f.miss + 1) 20 f.among r.among in
    let some_kept = kepts.0 in
    record {
      own_queue = queues.0;
      last_queue = queues.1;
      some_wire = some_wire s.rate f.octets;
      can_end = leb-true (wire_time s.rate f.octets) f.deadline r.timely;
      one_waits = deadlines.1;
      some_kept = omega arith;
      few = kepts.1;
      whole_patterns = whole;
    }

each_kept : (r : Rate) (fs : List Flow) → all_kept r fs ≡ true → AllByRecursion (λ f. flow_kept r f ≡ true) fs
each_kept r [] h = tt
each_kept r (f ∷ fs) h = let both = and_parts (flow_kept r f) (all_kept r fs) h in (both.0, each_kept r fs both.1)

pub read_sheets_fit : ReadSheetsFit
read_sheets_fit s kept = record { some_time = cycle_some s.flows (periods_some s.rate s.flows kept); each = each }
  where
    each : (i : ℕ) → 1 ≤ i → i ≤ length s.flows → FlowFits s (flow s i)
    each zero a b = absurd (omega arith)
    each (suc i) a b = flow-fits s (get_or s.flows i no_flow)
        (All-get_or (λ f. flow_kept s.rate f ≡ true) s.flows i no_flow b (each_kept s.rate s.flows kept))
        (All-get_or (λ f. pattern_time f ∣ cycle_of s.flows) s.flows i no_flow b (cycle-whole s.flows))
