-- Cycles do not touch: under accepted lists each cycle ends with nothing waiting and the wire free.
use Rattle.std.proofs.Common.{◌≡◌, ℕ, zero, suc, ◌+◌, ◌*◌, ◌/◌, ◌%◌, ◌<◌, ◌≤◌, Bool, true, ◌&&◌, List, [], ◌∷◌, map, length, Some, filter, sym, refl, ap, ◌∙◌, subst, mod-lt, mod-eq_of_lt, div-add-mod', arith}
use Rattle.std.specs.List.{AllByRecursion}
use Rattle.std.proofs.ByRecursion.{All-weaker}
use Rattle.std.proofs.lemmas.Bool.{and_parts, ltb-true, lt-ltb, leb-true, le-leb}
use Rattle.traffic.specs.declared.packet.Packet.{Packet}
use Rattle.traffic.specs.Packets.{Traffic, in_time}
use Rattle.gates.specs.declared.entry.Entry.{Entry}
use Rattle.gates.specs.Open.{open_at, stays_open}
use Rattle.sending.specs.Sheet.{Fits, OfSheet, arrives, cycle, deadline, job_of, packet_at, queue, same, wire}
use Rattle.sending.specs.Rules.{admitted}
use Rattle.sending.specs.Port.{fits_at, gate_at, list_at, arriving, starts}
use Rattle.sending.specs.InTime.{Accepted, InFirstCycle, StartsInTime, first_cycle}
use Rattle.sending.specs.Cycles.{InTimeOnce}
use Rattle.sending.proofs.Lists.{all_passing, kept_all}
use Rattle.sending.proofs.Line.{is, is_some, line, lstart, lstart-fits, free_inside}
use Rattle.sending.proofs.Gated.{in_cycle, stays_inside}
use Rattle.sending.proofs.Alone.{all_line, starts-queue, starts_from}
use Rattle.sending.proofs.Counting.{came, conserve, begun_more, came-then, kept_few, no_later}
use Rattle.sending.proofs.Shift.{Moved, moved-line, moved_start}
use Rattle.sending.proofs.Packets.{same-is, same_self, times, none_then, fits_of, counted, arrives_ours, arrives_it, Comes, all_come, comes-then, moved, arrives-moved, queue-moved, admitted-moved, flows_moved, ends_inside}

-- an admitted packet of the first cycle, in queue q
record InFirst (s : Traffic) (es : List Entry) (q : ℕ) (p : Packet) : Type 0 where
  first : InFirstCycle s es p
  own : queue s p ≡ q

-- the test of the end
pub ends_by : (s : Traffic) (p : Packet) (t : ℕ) → in_time (job_of s p) t ≡ true → t + wire s p ≤ deadline s p
ends_by s p t e = leb-true (t + wire s p) (deadline s p) e

pub by_ends : (s : Traffic) (p : Packet) (t : ℕ) → t + wire s p ≤ deadline s p → in_time (job_of s p) t ≡ true
by_ends s p t h = le-leb (t + wire s p) (deadline s p) h

module _ (s : Traffic) (fs : Fits s) where
  -- the first cycle by itself, on one list
  module _ (es : List Entry) (acc : Accepted s es) (q : ℕ) where
    abbrev one_fits : ℕ → ℕ → Bool
    one_fits t e = is q (gate_at s (λ _. es) t) && fits_at s (λ _. es) t q e

    abbrev one_comes : ℕ → List Packet
    one_comes t = filter (first_cycle s) (arriving s es q t (length s.flows))

    one_start : (p : Packet) → InFirst s es q p → (t : ℕ) × (t + wire s p ≤ deadline s p) × (t < cycle s) × (lstart (wire s) one_fits one_comes t ≡ Some p)
    one_start p i =
        let found = acc.in_time p i.first in
        let t = found.0 in
        let ends : t + wire s p ≤ deadline s p = ends_by s p t found.1.ends in
        let some_wire : 1 ≤ wire s p = (fits_of s fs p i.first.ours).some_wire in
        let inside : deadline s p ≤ cycle s = ends_inside s fs p i.first.ours i.first.early in
        let there = (starts-queue s (λ _. es) fs.some_time (λ _. acc.rules.whole) (first_cycle s) t p found.1.there).1 in
        (t, ends, omega arith, subst (λ (r : ℕ). lstart (wire s) (λ u e. is r (gate_at s (λ _. es) u) && fits_at s (λ _. es) u r e) (λ u. filter (first_cycle s) (arriving s es r u (length s.flows))) t ≡ Some p) i.own there)

    one_all : (u : ℕ) → AllByRecursion (InFirst s es q) (one_comes u)
    one_all u = all_passing (Comes s es q u) (InFirst s es q) (first_cycle s) (λ x c e. record { first = record { ours = c.ours; early = ltb-true x.arrival (cycle s) e; let_in = c.let_in }; own = c.own }) (arriving s es q u (length s.flows)) (all_come s es q u (length s.flows) (omega arith))

    one_few : (p : Packet) → InFirst s es q p → came same same-is same_self p one_comes (cycle s) ≤ 1
    one_few p i =
        let only : (u : ℕ) → (u ≡ p.arrival → ⊥) → times p (one_comes u) ≡ 0 = λ u ne. let a = kept_few same same-is same_self p (wire s) (first_cycle s) (arriving s es q u (length s.flows)) in let b = none_then s es q u p ne (length s.flows) in omega arith in
        let then : came same same-is same_self p one_comes (cycle s) ≡ times p (one_comes p.arrival) = came-then same same-is same_self p one_comes p.arrival only (cycle s) i.first.early in
        let few = kept_few same same-is same_self p (wire s) (first_cycle s) (arriving s es q p.arrival (length s.flows)) in
        let once : times p (arriving s es q p.arrival (length s.flows)) ≡ 1 = comes-then s fs es q p i.first.ours i.first.let_in i.own in
        omega arith

    one_clear : (line (wire s) one_fits one_comes (cycle s)).waiting ≡ []
    one_clear = go (line (wire s) one_fits one_comes (cycle s)).waiting refl (all_line (InFirst s es q) (wire s) one_fits one_comes one_all (cycle s))
      where
        go : (ws : List Packet) → (line (wire s) one_fits one_comes (cycle s)).waiting ≡ ws → AllByRecursion (InFirst s es q) ws → ws ≡ []
        go [] e a = refl
        go (p ∷ ps) e a =
            let found = one_start p a.0 in
            let few = one_few p a.0 in
            let kept-up = conserve same same-is same_self p (wire s) one_fits one_comes (cycle s) in
            let started = begun_more same same-is same_self p (lstart (wire s) one_fits one_comes) found.0 (cycle s) found.3 found.2 in
            let waits : times p (line (wire s) one_fits one_comes (cycle s)).waiting ≡ 1 + times p ps = rw (e, same_self p) in
            absurd (omega arith)

    one_free : (line (wire s) one_fits one_comes (cycle s)).free ≤ cycle s
    one_free = free_inside (wire s) one_fits one_comes (cycle s)
        (λ t e l f. let m : t % cycle s ≡ t = mod-eq_of_lt l in let w = acc.rules.whole in
        let st : stays_open es q t e ≡ true = rw m at (and_parts (is q (gate_at s (λ _. es) t)) (fits_at s (λ _. es) t q e) f).1 in
        let h = stays_inside es q t e (omega arith) st in omega arith)
        (cycle s) (omega arith)

  -- all cycles, with nothing missing
  module _ (in_force : ℕ → List Entry) (acc : (n : ℕ) → Accepted s (in_force n)) (q : ℕ) where
    abbrev pub all_fits : ℕ → ℕ → Bool
    all_fits t e = is q (gate_at s in_force t) && fits_at s in_force t q e

    abbrev pub all_comes : ℕ → List Packet
    all_comes t = arriving s (list_at s in_force t) q t (length s.flows)

    pub record Clear (n : ℕ) : Type 0 where
      pub nothing_waits : (line (wire s) all_fits all_comes (n * cycle s)).waiting ≡ []
      pub wire_free : (line (wire s) all_fits all_comes (n * cycle s)).free ≤ n * cycle s

    module _ (n : ℕ) (clear : Clear n) where
      fits_again : (o : ℕ) → o < cycle s → all_fits (n * cycle s + o) ≡ one_fits (in_force n) (acc n) q o
      fits_again o h =
          let d = in_cycle (cycle s) n o h in
          ap {B = ℕ → Bool} (λ (j : ℕ) (e : ℕ). is q (open_at (in_force j) ((n * cycle s + o) % cycle s)) && stays_open (in_force j) q ((n * cycle s + o) % cycle s) e) d.0
          ∙ ap {B = ℕ → Bool} (λ (x : ℕ) (e : ℕ). is q (open_at (in_force n) x) && stays_open (in_force n) q x e) (d.1 ∙ sym (mod-eq_of_lt h))

      comes_again : (o : ℕ) → o < cycle s → all_comes (n * cycle s + o) ≡ map (moved s (n * cycle s)) (one_comes (in_force n) (acc n) q o)
      comes_again o h =
          let d = in_cycle (cycle s) n o h in
          let every : filter (first_cycle s) (arriving s (in_force n) q o (length s.flows)) ≡ arriving s (in_force n) q o (length s.flows) =
          kept_all (first_cycle s) (arriving s (in_force n) q o (length s.flows)) (All-weaker (Comes s (in_force n) q o) (λ x. first_cycle s x ≡ true) (λ x c. let e = c.now in lt-ltb x.arrival (cycle s) (omega arith)) _ (all_come s (in_force n) q o (length s.flows) (omega arith))) in
          ap (λ (j : ℕ). arriving s (in_force j) q (n * cycle s + o) (length s.flows)) d.0
          ∙ flows_moved s fs (in_force n) q n o (length s.flows) (omega arith)
          ∙ ap (map (moved s (n * cycle s))) (sym every)

      at_start : Moved (wire s) (moved s (n * cycle s)) (λ _. refl) (n * cycle s) (line (wire s) all_fits all_comes (n * cycle s)) (line (wire s) (one_fits (in_force n) (acc n) q) (one_comes (in_force n) (acc n) q) 0)
      at_start = record { waits = clear.nothing_waits; frees = let f = clear.wire_free in omega arith }

      next_clear : Clear (suc n)
      next_clear =
          let k = n * cycle s in
          let m = moved-line (wire s) (moved s k) (λ _. refl) k all_fits (one_fits (in_force n) (acc n) q) all_comes (one_comes (in_force n) (acc n) q) (cycle s) fits_again comes_again at_start (cycle s) (omega arith) (suc n * cycle s) (omega arith) in
          let none = one_clear (in_force n) (acc n) q in
          let free = one_free (in_force n) (acc n) q in
          let frees = m.frees in
          record { nothing_waits = m.waits ∙ ap (map (moved s k)) none; wire_free = omega arith }

      pub again : (o : ℕ) → o < cycle s → (p : Packet) → lstart (wire s) (one_fits (in_force n) (acc n) q) (one_comes (in_force n) (acc n) q) o ≡ Some p → lstart (wire s) all_fits all_comes (n * cycle s + o) ≡ Some (moved s (n * cycle s) p)
      again o h p e = moved_start (wire s) (moved s (n * cycle s)) (λ _. refl) (n * cycle s) all_fits (one_fits (in_force n) (acc n) q) all_comes (one_comes (in_force n) (acc n) q) (cycle s) fits_again comes_again at_start o h (n * cycle s + o) refl p e

    pub all_clear : (n : ℕ) → Clear n
    all_clear zero = let z : 0 * cycle s ≡ 0 = omega arith in record { nothing_waits = rw z; wire_free = rw z (omega arith) }
    all_clear (suc n) = next_clear n (all_clear n)

  -- in time among all, so in time among those that turned up
  module _ (in_force : ℕ → List Entry) (acc : (n : ℕ) → Accepted s (in_force n)) (up : Packet → Bool) where
    pub once_in_time : (p : Packet) → OfSheet s p → admitted s (in_force (p.arrival / cycle s)) p ≡ true → up p ≡ true →
        (t : ℕ) × StartsInTime s in_force up p t × ((u : ℕ) → starts s in_force up u ≡ Some p → u ≡ t)
    once_in_time p ours let_in turned =
        let n = p.arrival / cycle s in
        let o = p.arrival % cycle s in
        let i = p.flow in
        let q = queue s p in
        let es = in_force n in
        let k = n * cycle s in
        let pos = fs.some_time in
        let o-in : o < cycle s = mod-lt p.arrival pos in
        let when : p.arrival ≡ k + o = sym (div-add-mod' p.arrival (cycle s)) in
        let ff = fits_of s fs p ours in
        let p-is : p ≡ packet_at s i (k + o) = counted s fs p ours ∙ ap (packet_at s i) when in
        let there : arrives s i o ≡ true = sym (arrives-moved s pos n i ff o) ∙ ap (arrives s i) (sym when) ∙ arrives_it s fs p ours in
        let first : InFirst s es q (packet_at s i o) = record {
          first = record {
            ours = arrives_ours s i o ours.from_one ours.to_last there;
            early = o-in;
            let_in = sym (admitted-moved s pos n i ff es o) ∙ sym (ap (admitted s es) p-is) ∙ let_in;
          };
          own = sym (queue-moved s pos n i ff o) ∙ sym (ap (queue s) p-is);
        } in
        let start = one_start es (acc n) q (packet_at s i o) first in
        let t = k + start.0 in
        let ends : start.0 + wire s (packet_at s i o) ≤ deadline s (packet_at s i o) = start.1 in
        let due : deadline s p ≡ k + deadline s (packet_at s i o) = let e = ours.on_time in let e' = first.first.ours.on_time in omega arith in
        let full : lstart (wire s) (all_fits in_force acc q) (all_comes in_force acc q) t ≡ Some p = again in_force acc q n (all_clear in_force acc q n) start.0 start.2 (packet_at s i o) start.3 ∙ ap (λ (x : Packet). Some x) (sym p-is) in
        let only : (u : ℕ) → (u ≡ p.arrival → ⊥) → times p (all_comes in_force acc q u) ≡ 0 = λ u ne. none_then s (list_at s in_force u) q u p ne (length s.flows) in
        let once : times p (all_comes in_force acc q p.arrival) ≡ 1 = comes-then s fs es q p ours let_in refl in
        let got = no_later same same-is same_self p (wire s) (all_fits in_force acc q) (all_comes in_force acc q) up p.arrival t only once turned full in
        let u = got.0 in
        let ut = got.1 in
        let opens : gate_at s in_force u ≡ Some q = is_some q (gate_at s in_force u) (and_parts _ _ (lstart-fits (wire s) (all_fits in_force acc q) (λ v. filter up (all_comes in_force acc q v)) u p got.3)).0 in (
          u,
          record { there = starts_from s in_force pos (λ m. (acc m).rules.whole) up q u p opens got.3; arrived = got.2; ends = by_ends s p u (omega arith) },
          λ v e. got.4 v (starts-queue s in_force pos (λ m. (acc m).rules.whole) up v p e).1,
        )

pub in_time_once : InTimeOnce
in_time_once s fs in_force acc up p ours let_in turned = once_in_time s fs in_force acc up p ours let_in turned
