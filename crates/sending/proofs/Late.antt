-- A late packet still waits when its last chance to start is over.
use Rattle.std.proofs.Common.{◌≡◌, ℕ, suc, ◌<◌, ◌≤◌, Bool, true, false, cond, List, length, Some, sym, refl, ap, ◌∙◌, subst, ⊎_elim, arith}
use Rattle.std.proofs.lemmas.Bool.{and_parts, cases_lt, lt-ltb}
use Rattle.traffic.specs.declared.packet.Packet.{Packet}
use Rattle.sending.specs.Sheet.{last_start, flow, queue, same, wire}
use Rattle.sending.specs.Port.{fits_at, gate_at, holds, joining, arriving, run}
use Rattle.sending.specs.InTime.{StartsInTime, first_cycle}
use Rattle.sending.specs.Cycles.{LateWaits}
use Rattle.sending.proofs.Line.{is_some, line, lstart, lstart-fits}
use Rattle.sending.proofs.OneQueue.{is-alone}
use Rattle.sending.proofs.Gated.{held}
use Rattle.sending.proofs.Alone.{starts-queue, starts_from}
use Rattle.sending.proofs.Counting.{conserve, came-then, came_not, begun_more, find, count_kept}
use Rattle.sending.proofs.Packets.{same-is, same_self, times, times_none, times_some, fits_of, comes-then}
use Rattle.sending.proofs.Cycles.{ends_by, by_ends}
use Rattle.sending.proofs.Waiting.{fits, arr, only, came_few}

pub late_waits : LateWaits
late_waits s fs es whole p i = (punctual, late)
  where
    q : ℕ
    q = queue s p

    t : ℕ
    t = suc (last_start s p)

    waits : (run s (λ _. es) (first_cycle s) t).waiting q ≡ (line (wire s) (fits s fs (λ _. es) (first_cycle s) q) (arr s fs (λ _. es) (first_cycle s) q) t).waiting
    waits = (is-alone (wire s) (gate_at s (λ _. es)) (fits_at s (λ _. es)) (joining s (λ _. es) (first_cycle s)) (held s (λ _. es) fs.some_time (λ _. whole)) q t).waits

    punctual : holds ((run s (λ _. es) (first_cycle s) t).waiting q) p ≡ false → (u : ℕ) × StartsInTime s (λ _. es) (first_cycle s) p u
    punctual e =
        let can : wire s p ≤ (flow s p.flow).deadline = (fits_of s fs p i.ours).can_end in
        let on_time = i.ours.on_time in
        let none_left : times p (line (wire s) (fits s fs (λ _. es) (first_cycle s) q) (arr s fs (λ _. es) (first_cycle s) q) t).waiting ≡ 0 = ap (times p) (sym waits) ∙ times_none p ((run s (λ _. es) (first_cycle s) t).waiting q) e in
        let once : times p (arriving s es q p.arrival (length s.flows)) ≡ 1 = comes-then s fs es q p i.ours i.let_in refl in
        let here : times p (arr s fs (λ _. es) (first_cycle s) q p.arrival) ≡ 1 = count_kept same same-is same_self p (first_cycle s) (arriving s es q p.arrival (length s.flows)) ∙ ap (λ (b : Bool). cond b (times p (arriving s es q p.arrival (length s.flows))) 0) (lt-ltb _ _ i.early) ∙ once in
        let c = came-then same same-is same_self p (arr s fs (λ _. es) (first_cycle s) q) p.arrival (only s fs (λ _. es) (first_cycle s) q p) t (omega arith) in
        let k = conserve same same-is same_self p (wire s) (fits s fs (λ _. es) (first_cycle s) q) (arr s fs (λ _. es) (first_cycle s) q) t in
        let found = find same same-is same_self p (lstart (wire s) (fits s fs (λ _. es) (first_cycle s) q) (arr s fs (λ _. es) (first_cycle s) q)) t (omega arith) in
        let u = found.0 in
        let ut = found.1 in
        let after : p.arrival ≤ u = ⊎_elim
        (λ (h : u < p.arrival).
        let n = came_not same same-is same_self p (arr s fs (λ _. es) (first_cycle s) q) p.arrival (only s fs (λ _. es) (first_cycle s) q p) (suc u) h in
        let d = conserve same same-is same_self p (wire s) (fits s fs (λ _. es) (first_cycle s) q) (arr s fs (λ _. es) (first_cycle s) q) (suc u) in
        let b = begun_more same same-is same_self p (lstart (wire s) (fits s fs (λ _. es) (first_cycle s) q) (arr s fs (λ _. es) (first_cycle s) q)) u (suc u) found.2 (omega arith) in absurd (omega arith))
        (λ (h : p.arrival ≤ u). h) (cases_lt u p.arrival) in
        let opens : gate_at s (λ _. es) u ≡ Some q = is_some q (gate_at s (λ _. es) u) (and_parts _ _ (lstart-fits (wire s) (fits s fs (λ _. es) (first_cycle s) q) (arr s fs (λ _. es) (first_cycle s) q) u p found.2)).0 in
        (u, record { there = starts_from s (λ _. es) fs.some_time (λ _. whole) (first_cycle s) q u p opens found.2; arrived = after; ends = by_ends s p u (omega arith) })

    late : holds ((run s (λ _. es) (first_cycle s) t).waiting q) p ≡ true → (u : ℕ) → StartsInTime s (λ _. es) (first_cycle s) p u → ⊥
    late e u st =
        let ends = ends_by s p u st.ends in
        let some : 1 ≤ times p (line (wire s) (fits s fs (λ _. es) (first_cycle s) q) (arr s fs (λ _. es) (first_cycle s) q) t).waiting = subst (λ (l : List Packet). 1 ≤ times p l) waits (times_some p ((run s (λ _. es) (first_cycle s) t).waiting q) e) in
        let b = begun_more same same-is same_self p (lstart (wire s) (fits s fs (λ _. es) (first_cycle s) q) (arr s fs (λ _. es) (first_cycle s) q)) u t (starts-queue s (λ _. es) fs.some_time (λ _. whole) (first_cycle s) u p st.there).1 (omega arith) in
        let c = conserve same same-is same_self p (wire s) (fits s fs (λ _. es) (first_cycle s) q) (arr s fs (λ _. es) (first_cycle s) q) t in
        let f = came_few s fs (λ _. es) (first_cycle s) q p t in
        omega arith
