-- One packet is taken. Assumes nothing.
use Rattle.std.proofs.Common.{◌≡◌, ℕ, ◌<◌, ◌≤◌, Bool, true, cond, ◌&&◌, eqb, List, length, Some, sym, refl, ap, ◌∙◌, subst, arith}
use lib.ListN.{length-map}
use Rattle.std.proofs.lemmas.Bool.{and_parts, eq-eqb, cond-true}
use Rattle.traffic.specs.declared.packet.Packet.{Packet}
use Rattle.traffic.specs.declared.packet.Job.{Job}
use Rattle.traffic.specs.Packets.{Traffic, packet_of}
use Rattle.gates.specs.declared.entry.Entry.{Entry}
use Rattle.sending.specs.Sheet.{job_of, queue, waits_before, placed as put_in}
use Rattle.sending.specs.Rules.{admitted}
use Rattle.sending.specs.Port.{State}
use Rattle.sending.specs.Calls.{of_sheet, welcome, enter, take_in, one_foreign, one_unadmitted}
use Rattle.port.specs.declared.lanes.Lanes.{Lanes}
use Rattle.port.specs.declared.station.Station.{Station}
use Rattle.port.specs.Counting.{counts_of}
use Rattle.port.specs.Lanes.{queue_at, waiting_of, Lined, LaneJoined}
use Rattle.port.specs.Station.{state_of, sheet_of, TookIn}
use Rattle.port.proofs.Lining.{waits_as, waits_as_sheet, joined_lined, joined_waiting, length_put_in}

module _ (es : List Entry) (t : ℕ) (p : Packet) (entry : Station) where
  abbrev s : Traffic
  s = sheet_of entry

  abbrev w : Bool
  w = welcome s t entry.last (state_of entry) p

  -- a welcome packet is of the sheet
  pub welcome_ours : w ≡ true → of_sheet s p ≡ true
  welcome_ours e = (and_parts (of_sheet s p) _ e).0

  -- where it is let in, it enters
  enters : w ≡ true → admitted s es p ≡ true → take_in s es t entry.last (state_of entry) p ≡ enter s (state_of entry) p
  enters e a = λ i. cond ((e i) && (a i)) (enter s (state_of entry) p) (state_of entry)

  -- there is room for it
  pub has_room : w ≡ true → admitted s es p ≡ true → (j : Job) → j ≡ job_of s p → ((q : ℕ) → length ((take_in s es t entry.last (state_of entry) p).waiting q) ≤ 64) →
      length (queue_at entry.lanes j.queue) < 64
  has_room e a j is room =
      let k = queue s p in
      let here : j.queue ≡ k = ap (λ (x : Job). x.queue) is in
      let after : (take_in s es t entry.last (state_of entry) p).waiting k ≡ put_in (waits_before s) p (waiting_of entry.lanes k) = ap (λ (x : State Packet). x.waiting k) (enters e a) ∙ cond-true (eqb k k) _ _ (eq-eqb k k refl) in
      let long : length (put_in (waits_before s) p (waiting_of entry.lanes k)) ≤ 64 = subst (λ (ps : List Packet). length ps ≤ 64) after (room k) in
      let one_more = length_put_in (waits_before s) p (waiting_of entry.lanes k) in
      let flat : length (waiting_of entry.lanes k) ≡ length (queue_at entry.lanes k) = length-map (queue_at entry.lanes k) packet_of in
      subst (λ (q : ℕ). length (queue_at entry.lanes q) < 64) (sym here) (omega arith)

  -- so the queues stay as they should
  pub still_lined : w ≡ true → (j : Job) → j ≡ job_of s p → (l : Lanes) → LaneJoined j entry.lanes l → Lined s l
  still_lined e j is l h = joined_lined s entry.lanes l j entry.lined (waits_as_sheet s p j (welcome_ours e) is) h

  -- it joins its queue
  pub takes_joined : w ≡ true → admitted s es p ≡ true → (j : Job) → j ≡ job_of s p → (y : Station) → y.sheet ≡ entry.sheet → LaneJoined j entry.lanes y.lanes → y.free ≡ entry.free → y.last ≡ Some p → y.counts ≡ entry.counts → TookIn es t p entry y
  takes_joined e a j is y sheets h frees lasts same =
      let ours = welcome_ours e in
      let it = waits_as s p j ours is in
      let here : j.queue ≡ queue s p = ap (λ (x : Job). x.queue) is in
      let now : (q : ℕ) → waiting_of y.lanes q ≡ cond (eqb q j.queue) (put_in (waits_before s) (packet_of j) (waiting_of entry.lanes q)) (waiting_of entry.lanes q) = joined_waiting s entry.lanes y.lanes j entry.lined (waits_as_sheet s p j ours is) h in
      let then-q : (q : ℕ) → waiting_of y.lanes q ≡ (enter s (state_of entry) p).waiting q = λ q. now q ∙ (λ i. cond (eqb q (here i)) (put_in (waits_before s) (it i) (waiting_of entry.lanes q)) (waiting_of entry.lanes q)) in
      let state : state_of y ≡ enter s (state_of entry) p = λ i. record { waiting = λ q. then-q q i; free = frees i } in
      record {
        sheet = sheets;
        state = state ∙ sym (enters e a);
        last = lasts;
        counts = ap counts_of same ∙ (λ i. cond (sym e i) (cond (sym a i) (counts_of entry.counts) (one_unadmitted (counts_of entry.counts))) (one_foreign (counts_of entry.counts)));
      }
