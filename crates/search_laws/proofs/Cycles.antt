-- The packets of a sheet's cycle have what the laws ask. Assumes nothing.
use Rattle.std.proofs.Common.{◌≡◌, ℕ, zero, suc, ◌+◌, ◌-◌, ◌*◌, ◌/◌, ◌%◌, ◌<◌, ◌≤◌, Bool, true, false, cond, List, [], ◌∷◌, length, get_or, sym, ap, ◌∙◌, subst, ⊎_elim, mul-le-mul_right, add-mul, div-add-mod', arith}
use Prim.Native.Nat.{◌∣◌}
use native.Mathlib.Nat.{dvd_trans, dvd-mul_left, mod-eq-zero_of_dvd}
use Rattle.std.specs.List.{AllByRecursion}
use Rattle.std.proofs.ByRecursion.{All-weaker, All-get_or}
use Rattle.std.proofs.lemmas.Bool.{cases_lt, both_ways, and_parts}
use Rattle.traffic.specs.declared.rate.Rate.{Rate}
use Rattle.traffic.specs.declared.flow.Flow.{Flow}
use Rattle.traffic.specs.declared.packet.Job.{Job}
use Rattle.traffic.specs.Pattern.{turn, mandatory_at}
use Rattle.traffic.specs.Packets.{no_flow, flow_at}
use Rattle.traffic.specs.Orders.{queue_before}
use Rattle.traffic.specs.Behind.{queue_asym}
use Rattle.traffic.proofs.Total.{queue_order}
use Rattle.cycle.specs.Cycle.{pattern_time, cycle_of}
use Rattle.cycle.proofs.Repeats.{cycle-whole, cycle_some}
use Rattle.sheet.specs.declared.sheet.Sheet.{Sheet}
use Rattle.sheet.specs.Ranges.{all_kept}
use Rattle.sheet.specs.Contents.{traffic_of}
use Rattle.coming.specs.Coming.{Due}
use Rattle.coming.specs.Packets.{packets_before}
use Rattle.coming.proofs.Kept.{Ranged, ranged, ranged_at}
use Rattle.coming.proofs.Dues.{flow_at_getD, due_bounds}
use Rattle.coming.specs.Rising.{Rises}
use Rattle.coming.proofs.Arrivals.{packets_due, packets_rise}
use Rattle.coming.proofs.Steps.{not_sooner}
use Rattle.coming.proofs.Lefts.{due_same}
use Rattle.search_laws.specs.Laws.{Rising, WaitsIn, Unlike, Distinct, Given}
use Rattle.search_laws.specs.Sheets.{mandatory_packets, served_cycle}
use Rattle.search_laws.proofs.Lists.{all_both}

-- the next multiple of t is still within a multiple of t
next_multiple : (t long a : ℕ) → t ∣ long → a * t < long → a * t + t ≤ long
next_multiple t long a d h =
    let none : long % t ≡ 0 = mod-eq-zero_of_dvd t d in
    let parts = div-add-mod' long t in
    let k = long / t in
    ⊎_elim
    (λ (l : a < k).
    let up : (a + 1) * t ≤ k * t = mul-le-mul_right t (omega arith) in
    let one = add-mul a 1 t in
    omega arith)
    (λ (l : k ≤ a). let up : k * t ≤ a * t = mul-le-mul_right t l in absurd (omega arith))
    (cases_lt a k)

some_periods : (r : Rate) (fs : List Flow) → all_kept r fs ≡ true → AllByRecursion (λ f. 0 < f.period) fs
some_periods r [] h = tt
some_periods r (f ∷ fs) h = let p = and_parts _ _ h in ((ranged r f p.0).period_some, some_periods r fs p.1)

-- each period divides the cycle
period_divides : (s : Sheet) (i : ℕ) → i < length (traffic_of s).flows → (get_or (traffic_of s).flows i no_flow).period ∣ s.cycle
period_divides s i h =
    let fs = (traffic_of s).flows in
    let f = get_or fs i no_flow in
    let whole : pattern_time f ∣ cycle_of fs = All-get_or (λ (g : Flow). pattern_time g ∣ cycle_of fs) fs i no_flow h (cycle-whole fs) in
    let part : f.period ∣ pattern_time f = dvd-mul_left f.period (turn f) in
    subst (λ (n : ℕ). f.period ∣ n) (sym s.round) (dvd_trans f.period part whole)

-- a packet of the cycle is to be sent within it
due_within : (s : Sheet) (q : ℕ) (x : Job) → Due (traffic_of s) s.cycle q x → x.deadline ≤ s.cycle
due_within s q x d =
    let t = traffic_of s in
    let i = x.flow in
    let f = flow_at t.flows i in
    let within : i - 1 < length t.flows = omega (arith, d.named, d.listed) in
    let at = flow_at_getD t.flows i d.named in
    let r : Ranged t.rate f = subst (Ranged t.rate) (sym at) (ranged_at t.rate t.flows (i - 1) s.kept within) in
    let divides : f.period ∣ s.cycle = subst (λ (g : Flow). g.period ∣ s.cycle) (sym at) (period_divides s (i - 1) within) in
    let a : x.arrival ≡ (x.number - 1) * f.period = ap (λ (y : Job). y.arrival) d.is in
    let e : x.deadline ≡ (x.number - 1) * f.period + f.deadline = ap (λ (y : Job). y.deadline) d.is in
    let early = d.early in
    let room = next_multiple f.period s.cycle (x.number - 1) divides (omega arith) in
    let short = r.deadline_most in
    omega arith

waits : (s : Sheet) (q : ℕ) → AllByRecursion (WaitsIn s.cycle q) (packets_before (traffic_of s) q s.cycle)
waits s q =
    All-weaker (Due (traffic_of s) s.cycle q) (WaitsIn s.cycle q)
    (λ x d. (d.waits, (due_bounds (traffic_of s) s.cycle q x s.kept d).wire_some, d.named, due_within s q x d))
    (packets_before (traffic_of s) q s.cycle) (packets_due (traffic_of s) q s.cycle)

rising : (a : ℕ) (xs : List Job) → Rises queue_before xs → AllByRecursion (λ x. a ≤ x.arrival) xs → Rising a xs
rising a [] r low = tt
rising a (x ∷ xs) r low = (low.0, rising x.arrival xs r.1 (All-weaker (λ (y : Job). queue_before x y ≡ true) (λ (y : Job). x.arrival ≤ y.arrival) (λ y h. not_sooner x y (queue_asym x y h)) xs r.0))

late : (xs : List Job) → AllByRecursion (λ x. 0 ≤ x.arrival) xs
late [] = tt
late (x ∷ xs) = (omega arith, late xs)

distinct : (s : Sheet) (q : ℕ) (xs : List Job) → AllByRecursion (Due (traffic_of s) s.cycle q) xs → Rises queue_before xs → Distinct xs
distinct s q [] d r = tt
distinct s q (x ∷ xs) d r = (
  all_both (Due (traffic_of s) s.cycle q) (λ (y : Job). queue_before x y ≡ true) (Unlike x)
      (λ y e before flow number. both_ways (queue_before x x) (queue_order.never x) (subst (λ (z : Job). queue_before x z ≡ true) (due_same (traffic_of s) s.cycle q s.kept x y d.0 e (sym flow) (sym number)) before))
      xs d.1 r.0,
  distinct s q xs d.1 r.1,
)

own_queue : (b : Bool) (own k : ℕ) → cond b own 0 ≡ suc k → own ≡ suc k
own_queue true own k e = e
own_queue false own k e = absurd (omega arith)

home : (s : Sheet) (q : ℕ) → AllByRecursion (λ p. (flow_at (traffic_of s).flows p.flow).queue ≡ q) (mandatory_packets (traffic_of s) s.cycle q)
home s zero = tt
home s (suc q) =
    All-weaker (Due (traffic_of s) s.cycle (suc q)) (λ (p : Job). (flow_at (traffic_of s).flows p.flow).queue ≡ suc q)
    (λ x d. let f = flow_at (traffic_of s).flows x.flow in own_queue (mandatory_at f x.number) f.queue q (sym (ap (λ (y : Job). y.queue) d.is) ∙ d.waits))
    (packets_before (traffic_of s) (suc q) s.cycle) (packets_due (traffic_of s) (suc q) s.cycle)

waits_mandatory : (s : Sheet) (q : ℕ) → AllByRecursion (WaitsIn s.cycle q) (mandatory_packets (traffic_of s) s.cycle q)
waits_mandatory s zero = tt
waits_mandatory s (suc q) = waits s (suc q)

rises-mandatory : (s : Sheet) (q : ℕ) → Rising 0 (mandatory_packets (traffic_of s) s.cycle q)
rises-mandatory s zero = tt
rises-mandatory s (suc q) = rising 0 _ (packets_rise (traffic_of s) (suc q) s.cycle) (late _)

pub given_of : (s : Sheet) → Given (served_cycle s)
given_of s =
    let t = traffic_of s in
    let some : 0 < cycle_of t.flows = cycle_some t.flows (some_periods t.rate t.flows s.kept) in
    record {
      some_time = subst (λ (n : ℕ). 0 < n) (sym s.round) some;
      mandatory_waits = waits_mandatory s;
      mandatory_rises = rises-mandatory s;
      optional_waits = waits s 0;
      optional_rises = rising 0 _ (packets_rise t 0 s.cycle) (late _);
      optional_distinct = distinct s 0 _ (packets_due t 0 s.cycle) (packets_rise t 0 s.cycle);
      home = λ i. (flow_at t.flows i).queue;
      mandatory_home = home s;
    }
