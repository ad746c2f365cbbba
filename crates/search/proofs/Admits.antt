-- One trial: where the packet starts, and what stands after it. Assumes nothing.
use Rattle.std.proofs.Common.{◌≡◌, ℕ, zero, suc, ◌+◌, ◌<◌, ◌≤◌, max, false, cond, eqb, leb, List, [], ◌∷◌, length, take, drop, sym, refl, ap, ◌∙◌, subst, ⊎_elim, arith}
use Rattle.std.specs.List.{AllByRecursion, prefix_len}
use Rattle.std.proofs.Math.Seq.{take-add}
use Rattle.std.proofs.Math.Numerals.{one-add}
use Rattle.std.proofs.lemmas.List.Sums.{prefix_len-le-length}
use Rattle.std.proofs.lemmas.List.{take-take, take-append-le, length-take-le, length-append, length-drop}
use Rattle.std.proofs.ByRecursion.{All-append, All-weaker}
use Rattle.std.proofs.lemmas.Bool.{cases_Bool, leb-true, le-leb, lt-leb, cond_both, and_right, eq-eqb, eqb-true}
use Rattle.traffic.specs.declared.packet.Job.{Job}
use Rattle.search.specs.declared.window.Window.{Window}
use Rattle.search.specs.declared.trials.Room.{Room}
use Rattle.search.specs.Windows.{Fits, end, latest}
use Rattle.search.specs.Drawn.{drawn, inserted_at}
use Rattle.search.specs.Search.{most_entries, room, admitted_end, trial, inserted, admissible, tried}
use Rattle.search.specs.Trials.{EndsBy, Passed, HasRoom, Tried}
use Rattle.search.proofs.Rooms.{room_passed, room_from}

-- admitted windows end early
pub admitted_early : (ws : List Window) → AllByRecursion Fits ws → admitted_end ws ≤ latest
admitted_early [] h = omega arith
admitted_early (w ∷ ws) h =
    let rest = admitted_early ws h.1 in
    let here = h.0.early in
    cond_both (eqb w.packet.queue 0) (max (end w) (admitted_end ws)) (admitted_end ws) (λ (n : ℕ). n ≤ latest) (λ _. omega arith) (λ _. rest)

-- mandatory windows are not admitted ones
pub admitted_none : (ws : List Window) → AllByRecursion (λ w. 0 < w.packet.queue) ws → admitted_end ws ≡ 0
admitted_none [] h = refl
admitted_none (w ∷ ws) h =
    let rest = admitted_none ws h.1 in
    let here = h.0 in
    cond_both (eqb w.packet.queue 0) (max (end w) (admitted_end ws)) (admitted_end ws) (λ (n : ℕ). n ≡ 0)
    (λ e. let z = eqb-true w.packet.queue 0 e in absurd (omega arith)) (λ _. rest)

pub admitted-inserted : (i : ℕ) (w : Window) (ws : List Window) → w.packet.queue ≡ 0 → admitted_end (inserted_at i w ws) ≡ max (end w) (admitted_end ws)
admitted-inserted zero w ws q = rw (eq-eqb w.packet.queue 0 q)
admitted-inserted (suc i) w [] q = rw (eq-eqb w.packet.queue 0 q)
admitted-inserted (suc i) w (v ∷ vs) q =
    let rest = admitted-inserted i w vs q in
    ⊎_elim (λ e. rw e (omega arith)) (λ e. rw e rest) (cases_Bool (eqb v.packet.queue 0))

-- the room behind the windows that were passed is the trial's start
pub trial_start : (n low : ℕ) (p : Job) (ws : List Window) → 0 < p.wire → low ≡ max p.arrival (admitted_end ws) → Passed low n ws → room low p.wire (drop n ws) ≡ (trial p ws).start
trial_start n low p ws some is passed = room_passed low p.wire n ws some passed.ended ∙ ap (λ (k : ℕ). room k p.wire ws) is

pub tried_late : (long : ℕ) (p : Job) (ws : List Window) → p.deadline < end (trial p ws) → tried long p ws ≡ ws
tried_late long p ws late = rw (lt-leb (end (trial p ws)) p.deadline late)

pub tried_long : (long : ℕ) (p : Job) (ws : List Window) → most_entries < length (drawn 0 (inserted (trial p ws) ws) long) → tried long p ws ≡ ws
tried_long long p ws much =
    let no : admissible long (trial p ws) ws ≡ false = and_right (leb (end (trial p ws)) p.deadline) (leb (length (drawn 0 (inserted (trial p ws) ws) long)) most_entries) (lt-leb (length (drawn 0 (inserted (trial p ws) ws) long)) most_entries much) in
    rw no

pub tried_ok : (long : ℕ) (p : Job) (ws : List Window) → end (trial p ws) ≤ p.deadline → length (drawn 0 (inserted (trial p ws) ws) long) ≤ most_entries → tried long p ws ≡ inserted (trial p ws) ws
tried_ok long p ws in_time few = rw (le-leb (end (trial p ws)) p.deadline in_time, le-leb (length (drawn 0 (inserted (trial p ws) ws) long)) most_entries few)

pub passed_later : (t u n : ℕ) (ws : List Window) → t ≤ u → Passed t n ws → Passed u n ws
passed_later t u n ws h p = record { within = p.within; ended = All-weaker (EndsBy t) (EndsBy u) (λ w e. omega arith) (take n ws) p.ended }

-- behind a window that was inserted later nothing changes
take_inserted : (n i : ℕ) (w : Window) (ws : List Window) → n ≤ i → i ≤ length ws → take n (inserted_at i w ws) ≡ take n ws
take_inserted n i w ws h within =
    let long = length-take-le i ws within in
    take-append-le n (take i ws) (w ∷ drop i ws) (omega arith) ∙ take-take n i ws h

pub passed_inserted : (t n i : ℕ) (w : Window) (ws : List Window) → n ≤ i → i ≤ length ws → Passed t n ws → Passed t n (inserted_at i w ws)
passed_inserted t n i w ws h within p = record {
  within = let long = length-take-le i ws within in simp length-append (omega arith);
  ended = subst (AllByRecursion (EndsBy t)) (sym (take_inserted n i w ws h within)) p.ended;
}

-- the packet's room is its trial's window
pub trial-is : (n low : ℕ) (p : Job) (ws : List Window) (m : Room) → 0 < p.wire → low ≡ max p.arrival (admitted_end ws) → Passed low n ws → HasRoom low n p ws m → record { start = m.start; packet = p } ≡ trial p ws
trial-is n low p ws m some is passed has = ap (λ (k : ℕ). record { start = k; packet = p }) (has.start ∙ trial_start n low p ws some is passed)

-- after a packet is admitted
pub tried_in : (n low : ℕ) (p : Job) (ws : List Window) (m : Room) → p.queue ≡ 0 → low ≡ max p.arrival (admitted_end ws) → Passed low n ws → HasRoom low n p ws m →
    Tried p.arrival (inserted_at m.place (record { start = m.start; packet = p }) ws) (record { last = m.start + p.wire; passed = n })
tried_in n low p ws m q is passed has =
    let w : Window = record { start = m.start; packet = p } in
    let onto = admitted-inserted m.place w ws q in
    let onward : low ≤ m.start = subst (λ (k : ℕ). low ≤ k) (sym has.start) (room_from low p.wire (drop n ws)) in
    record {
      last = omega arith;
      passed = passed_inserted (max p.arrival (m.start + p.wire)) n m.place w ws has.onward has.within (passed_later low (max p.arrival (m.start + p.wire)) n ws (omega arith) passed);
    }

-- the windows behind those that were passed, as far as they end by then
ended_first : (t : ℕ) (ws : List Window) → AllByRecursion (EndsBy t) (take (prefix_len (λ w. leb (end w) t) ws) ws)
ended_first t [] = tt
ended_first t (w ∷ ws) =
    let n = prefix_len (λ (w : Window). leb (end w) t) ws in
    let first : ℕ → Type 0 = λ k. AllByRecursion (EndsBy t) (take k (w ∷ ws)) in
    ⊎_elim
    (λ e. subst first (sym (ap (λ b. cond b (1 + n) 0) e ∙ one-add n)) (leb-true (end w) t e, ended_first t ws))
    (λ e. subst first (sym (ap (λ b. cond b (1 + n) 0) e)) tt)
    (cases_Bool (leb (end w) t))

pub passed_more : (t n : ℕ) (ws : List Window) → Passed t n ws → Passed t (n + prefix_len (λ w. leb (end w) t) (drop n ws)) ws
passed_more t n ws p =
    let k = prefix_len (λ (w : Window). leb (end w) t) (drop n ws) in
    let few = prefix_len-le-length (λ (w : Window). leb (end w) t) (drop n ws) in
    let long = length-drop n ws in
    let within = p.within in
    record {
      within = omega arith;
      ended = subst (AllByRecursion (EndsBy t)) (sym (take-add n k ws)) (All-append (EndsBy t) (take n ws) (take k (drop n ws)) p.ended (ended_first t (drop n ws)));
    }
