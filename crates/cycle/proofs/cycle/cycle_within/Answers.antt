-- The multiples flow by flow, and where they pass the limit.
use Rattle.std.proofs.Common.{◌≡◌, ℕ, ◌+◌, ◌<◌, ◌≤◌, Bool, true, false, cond, ◌&&◌, ltb, leb, Some, None, List, map, length, get_or, drop, refl, sym, ap, ◌∙◌, subst}
use Prim.Native.Nat.{◌∣◌}
use Rattle.std.specs.Bool.{then_some}
use Rattle.std.proofs.lemmas.Bool.{le-ltb, lt-ltb}
use Rattle.std.proofs.lemmas.List.{at_drop_more, at_drop_all}
use Rattle.traffic.specs.declared.flow.Flow.{Flow}
use Rattle.traffic.specs.Packets.{no_flow}
use Rattle.cycle.specs.Multiple.{lcm, lcm_of}
use Rattle.cycle.specs.Cycle.{pattern_time, cycle_of}
use Rattle.cycle.proofs.Multiples.{lcm_multiple, lcm_assoc, lcm-one, one-lcm}
use Rattle.cycle.proofs.Limits.{some_within, none_within, multiple_past}
use Rattle.cycle.proofs.Repeats.{cycle-is, cycle-whole, cycle_some}
use Rattle.cycle.proofs.cycle.cycle_within.Goals as goal
use Rattle.cycle.proofs.cycle.cycle_within.Goals.{then-cycle-gt0, else-cycle-gt0}

-- the multiple of the flows from i on
abbrev left : List Flow → ℕ → ℕ
left fs i = lcm_of (map pattern_time (drop i fs))

-- one flow more
step : (fs : List Flow) (i a : ℕ) → i < length fs → lcm (lcm a (pattern_time (get_or fs i no_flow))) (left fs (i + 1)) ≡ lcm a (left fs i)
step fs i a l =
    let more : left fs i ≡ lcm (pattern_time (get_or fs i no_flow)) (left fs (i + 1)) = at_drop_more (λ (gs : List Flow). lcm_of (map pattern_time gs)) fs i no_flow l in
    lcm_assoc a (pattern_time (get_or fs i no_flow)) (left fs (i + 1)) ∙ ap (λ (x : ℕ). lcm a x) (sym more)

-- none more
done : (fs : List Flow) (i a : ℕ) → length fs ≤ i → lcm a (left fs i) ≡ a
done fs i a l = let none : left fs i ≡ 1 = at_drop_all (λ (gs : List Flow). lcm_of (map pattern_time gs)) fs i l in ap (λ (x : ℕ). lcm a x) none ∙ lcm-one a

-- a number where a test passes
some_if : (b : Bool) (n : ℕ) → then_some b n ≡ cond b (Some n) None
some_if true n = refl
some_if false n = refl

pub loop-flow-init : goal.loop-flow-init
loop-flow-init c = one-lcm (left c.args.flows.now 0) ∙ sym (cycle-is c.args.flows.now)

pub loop-flow-preserved : goal.loop-flow-preserved
loop-flow-preserved c =
    let fs = c.args.flows.now in
    let i = c.loop-flow.flow-index in
    let a = c.loop-flow.cycle in
    let is : c.in_ok-cycle.cycle ≡ lcm a (pattern_time (get_or fs i no_flow)) = some_within _ (lcm a c.pattern_time.result) c.in_ok-cycle.cycle c.in_ok-cycle.ensures.value ∙ ap (λ (x : ℕ). lcm a x) c.pattern_time.ensures in
    ap (λ (x : ℕ). lcm x (left fs (i + 1))) is ∙ step fs i a c.loop-flow-test.true ∙ c.loop-flow.invariant

pub returns-in_err-cycle : goal.returns-in_err-cycle
returns-in_err-cycle c =
    let fs = c.args.flows.now in
    let i = c.loop-flow.flow-index in
    let a = c.loop-flow.cycle in
    let m = lcm a (pattern_time (get_or fs i no_flow)) in
    let is : lcm a c.pattern_time.result ≡ m = ap (λ (x : ℕ). lcm a x) c.pattern_time.ensures in
    let past : c.args.limit < m = subst (λ (x : ℕ). c.args.limit < x) is (none_within c.args.limit (lcm a c.pattern_time.result) c.in_err-cycle.ensures.value) in
    let divides : m ∣ cycle_of fs = subst (λ (x : ℕ). m ∣ x) (step fs i a c.loop-flow-test.true ∙ c.loop-flow.invariant) (lcm_multiple m (left fs (i + 1))).0 in
    record { value = c.from_residual.ensures ∙ multiple_past c.args.limit m (cycle_of fs) past divides; one_rule = cycle-is fs; whole = cycle-whole fs; some = cycle_some fs }

pub returns : goal.returns
returns c =
    let fs = c.args.flows.now in
    let is : c.loop-flow.cycle ≡ cycle_of fs = sym (done fs c.loop-flow.flow-index c.loop-flow.cycle c.loop-flow-test.false) ∙ c.loop-flow.invariant in
    let cycle = c.loop-flow.cycle in
    let test : c.if-cycle-gt0.then_some ≡ (ltb 0 cycle && leb cycle c.args.limit) = elim c.if-cycle-gt0.branch [
      | then-cycle-gt0 w ↦ rw (w.then_some-is, lt-ltb 0 cycle w.if-cycle-gt0.true)
      | else-cycle-gt0 w ↦ rw (w.then_some-is, le-ltb 0 cycle w.if-cycle-gt0.false)
    ] in
    record { value = rw (c.then_some.ensures, test, ← is) (some_if _ cycle); one_rule = cycle-is fs; whole = cycle-whole fs; some = cycle_some fs }
