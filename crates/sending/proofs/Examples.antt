-- The worked lists and the worked run.
use Rattle.std.proofs.Common.{◌≡◌, ℕ, ◌+◌, ◌-◌, ◌*◌, ◌<◌, ◌≤◌, true, List, [], ◌∷◌, Some, None, sym, refl, ap, ◌∙◌, subst, ⊎_elim, arith}
use Rattle.std.proofs.lemmas.Bool.{cases_eq}
use Rattle.traffic.specs.declared.packet.Packet.{Packet}
use Rattle.traffic.specs.Packets.{in_time}
use Rattle.cycle.specs.Multiple.{gcd, lcm}
use Rattle.cycle.specs.Cycle.{cycle_of}
use Rattle.gates.specs.declared.entry.Entry.{Entry}
use Rattle.sending.specs.Sheet.{Fits, cycle, flow, job_of, packet}
use Rattle.sending.specs.Rules.{total, first_broken, wrong_gates, wrong_name, wrong_total}
use Rattle.sending.specs.Port.{run, starts}
use Rattle.sending.specs.InTime.{InTime, StartsInTime, first_cycle}
use Rattle.sending.specs.Examples.{one_flow, list_e, just_e, late_e, narrow_e, short_e, two_gates_e, misnamed_e, WorkedLists, WorkedRun}
use Rattle.sending.proofs.Fitting.{read_sheets_fit}
use Rattle.sending.proofs.Keeping.{rules_agree}
use Rattle.sending.proofs.Alone.{starts_from}
use Rattle.sending.proofs.Cycles.{ends_by}
use Rattle.sending.proofs.Waiting.{waits_unstarted}

cycle-is : cycle one_flow ≡ 20000
unfolding cycle_of gcd lcm
cycle-is = refl

one_flow-fits : Fits one_flow
one_flow-fits = read_sheets_fit one_flow refl

-- two starts in time are all that a list needs
two_starts : (es : List Entry) (t u : ℕ) →
    starts one_flow (λ _. es) (first_cycle one_flow) t ≡ Some (packet one_flow 1 1) → in_time (job_of one_flow (packet one_flow 1 1)) t ≡ true →
    starts one_flow (λ _. es) (first_cycle one_flow) u ≡ Some (packet one_flow 1 2) → in_time (job_of one_flow (packet one_flow 1 2)) u ≡ true → 10000 ≤ u →
    InTime one_flow es
two_starts es t u first ends second ends' later p i =
    let o = i.ours in
    let from = o.from_one in
    let to : p.flow ≤ 1 = o.to_last in
    let f : p.flow ≡ 1 = omega arith in
    let on : p.arrival ≡ (p.number - 1) * 10000 = subst (λ (j : ℕ). p.arrival ≡ (p.number - 1) * (flow one_flow j).period) f o.on_time in
    let early : p.arrival < 20000 = subst (λ (c : ℕ). p.arrival < c) cycle-is i.early in
    let some = o.numbered in
    let is : (j : ℕ) → p.number ≡ j → packet one_flow 1 j ≡ p = λ j e. sym (λ k. record { flow = f k; number = e k; arrival = (on ∙ ap (λ (n : ℕ). (n - 1) * 10000) e) k }) in
    ⊎_elim
    (λ (e : p.number ≡ 1). (t, subst (λ (x : Packet). StartsInTime one_flow (λ _. es) (first_cycle one_flow) x t) (is 1 e) (record { there = first; arrived = omega arith; ends = ends })))
    (λ ne. let e : p.number ≡ 2 = omega arith in
    (u, subst (λ (x : Packet). StartsInTime one_flow (λ _. es) (first_cycle one_flow) x u) (is 2 e) (record { there = second; arrived = later; ends = ends' })))
    (cases_eq p.number 1)

-- the starts of a list whose time is the cycle's, by the line of their gate
e_first : starts one_flow (λ _. list_e) (first_cycle one_flow) 0 ≡ Some (packet one_flow 1 1)
unfolding cycle_of gcd lcm
e_first = refl

e_second : starts one_flow (λ _. list_e) (first_cycle one_flow) 10000 ≡ Some (packet one_flow 1 2)
unfolding cycle_of gcd lcm
e_second = starts_from one_flow (λ _. list_e) one_flow-fits.some_time (λ _. sym cycle-is) (first_cycle one_flow) 0 10000 (packet one_flow 1 2) refl refl

just_first : starts one_flow (λ _. just_e) (first_cycle one_flow) 4328 ≡ Some (packet one_flow 1 1)
unfolding cycle_of gcd lcm
just_first = refl

just_second : starts one_flow (λ _. just_e) (first_cycle one_flow) 10000 ≡ Some (packet one_flow 1 2)
unfolding cycle_of gcd lcm
just_second = starts_from one_flow (λ _. just_e) one_flow-fits.some_time (λ _. sym cycle-is) (first_cycle one_flow) 0 10000 (packet one_flow 1 2) refl refl

e_keeps : first_broken one_flow list_e ≡ None
unfolding cycle_of gcd lcm
e_keeps = refl

just_keeps : first_broken one_flow just_e ≡ None
unfolding cycle_of gcd lcm
just_keeps = refl

late_keeps : first_broken one_flow late_e ≡ None
unfolding cycle_of gcd lcm
late_keeps = refl

narrow_keeps : first_broken one_flow narrow_e ≡ None
unfolding cycle_of gcd lcm
narrow_keeps = refl

short_breaks : first_broken one_flow short_e ≡ Some wrong_total
unfolding cycle_of gcd lcm
short_breaks = refl

two_gates_breaks : first_broken one_flow two_gates_e ≡ Some (wrong_gates 1)
unfolding cycle_of gcd lcm
two_gates_breaks = refl

misnamed_breaks : first_broken one_flow misnamed_e ≡ Some (wrong_name 3)
unfolding cycle_of gcd lcm
misnamed_breaks = refl

-- a packet that waits until its last chance is over is late
still_waits : (es : List Entry) → total es ≡ 20000 → (run one_flow (λ _. es) (first_cycle one_flow) 4329).waiting 7 ≡ packet one_flow 1 1 ∷ [] → InTime one_flow es → ⊥
still_waits es whole waits h =
    let p = packet one_flow 1 1 in
    let found = h p (record { ours = record { from_one = omega arith; to_last = omega arith; numbered = omega arith; on_time = refl }; early = subst (λ (c : ℕ). 0 < c) (sym cycle-is) (omega arith); let_in = refl }) in
    let ends : found.0 + 672 ≤ 5000 = ends_by one_flow p found.0 found.1.ends in
    let after = waits_unstarted one_flow one_flow-fits (λ _. es) (λ _. whole ∙ sym cycle-is) (first_cycle one_flow) p [] 4329 found.0 waits found.1.there in
    omega arith

late_waits : (run one_flow (λ _. late_e) (first_cycle one_flow) 4329).waiting 7 ≡ packet one_flow 1 1 ∷ []
unfolding cycle_of gcd lcm
late_waits = refl

narrow_waits : (run one_flow (λ _. narrow_e) (first_cycle one_flow) 4329).waiting 7 ≡ packet one_flow 1 1 ∷ []
unfolding cycle_of gcd lcm
narrow_waits = refl

pub worked_lists : WorkedLists
worked_lists = record {
  e_accepted = record { rules = (rules_agree one_flow list_e).0 e_keeps; in_time = two_starts list_e 0 10000 e_first refl e_second refl (omega arith) };
  just_accepted = record { rules = (rules_agree one_flow just_e).0 just_keeps; in_time = two_starts just_e 4328 10000 just_first refl just_second refl (omega arith) };
  late_refused = (late_keeps, still_waits late_e refl late_waits);
  narrow_refused = (narrow_keeps, still_waits narrow_e refl narrow_waits);
  short_refused = short_breaks;
  two_gates_refused = two_gates_breaks;
  misnamed_refused = misnamed_breaks;
}

pub worked_run : WorkedRun
unfolding cycle_of gcd lcm
worked_run = record { starts = refl; counts = refl }
