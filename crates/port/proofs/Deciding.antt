-- A port just made, and the three steps of an instant put together. Assumes nothing.
use Rattle.std.proofs.Common.{◌≡◌, ℕ, suc, ◌+◌, ◌%◌, ◌≤◌, eqb, List, [], ◌∷◌, map, length, None, Option, sym, ap, ◌∙◌, subst, add-one, Bor}
use Rattle.traffic.specs.declared.packet.Packet.{Packet}
use Rattle.traffic.specs.Packets.{Traffic, packet_of}
use Rattle.sheet.specs.declared.sheet.Sheet.{Sheet}
use Rattle.sheet.specs.Contents.{traffic_of}
use Rattle.gates.specs.declared.entry.Entry.{Entry}
use Rattle.gates.specs.Open.{open_at, stays_open}
use Rattle.sending.specs.Sheet.{cycle, wire}
use Rattle.sending.specs.Port.{Turn, send}
use Rattle.sending.specs.Calls.{Port, Taken, decide, new_port, no_counts, now_in_force, still_pending, switch, taken, turn, with_start}
use Rattle.port.specs.declared.station.Station.{Station}
use Rattle.port.specs.Counting.{counts_of}
use Rattle.port.specs.Lanes.{queue_at}
use Rattle.port.specs.Station.{state_of, sheet_of, taking, third_step, Room, TookAll, Sent}
use Rattle.port.specs.Life.{port_of, instant, Ample}

-- nothing waits
pub new_is : (x : Station) → ((q : ℕ) → queue_at x.lanes q ≡ []) → (es : List Entry) → (x.free ≡ 0) × (x.last ≡ None) × (counts_of x.counts ≡ no_counts) → port_of 0 es None x ≡ new_port es
new_is x none es h =
    let free = h.0 in
    let last = h.1 in
    let counts = h.2 in
    λ i. record { state = record { waiting = λ q. map packet_of (none q i); free = free i }; clock = 0; list = es; pending = None; last = last i; counts = counts i }

module _ (clock : ℕ) (list : List Entry) (pending : Option (List Entry)) (x : Station) (o : ℕ) (o_is : o ≡ clock % cycle (sheet_of x)) (es : List Entry) (force : es ≡ switch (eqb o 0) list pending) where
  abbrev s : Traffic
  s = sheet_of x

  abbrev p : Port
  p = port_of clock list pending x

  in_force-is : es ≡ now_in_force s p
  in_force-is = force ∙ ap (λ (n : ℕ). switch (eqb n 0) list pending) o_is

  -- there is room for what comes
  pub ample_room : Ample s p → Room es clock x
  ample_room h source q = subst (λ (l : List Entry). length ((taking l clock x source).state.waiting q) ≤ 64) (sym in_force-is) (h [] tt source q)

  module _ (pends : Option (List Entry)) (pends-is : pends ≡ still_pending (eqb o 0) pending) (source rest : List Packet) (y z : Station) (r : Option Packet) (took : TookAll es clock source x y rest) (sent : Sent es clock o r y z) where
    -- the sheet is the same
    sheets : sheet_of y ≡ s
    sheets = ap (λ (b : Bor Sheet). traffic_of b.now) took.sheet

    same_sheet : z.sheet ≡ x.sheet
    same_sheet = sent.sheet ∙ took.sheet

    taken_is : taking es clock x source ≡ taken s p source
    taken_is = ap (λ (l : List Entry). taking l clock x source) in_force-is

    turn_is : third_step (sheet_of y) es clock o (state_of y) ≡ turn s p source
    turn_is =
        let same = sheets in
        let here = in_force-is in
        let state : state_of y ≡ (taken s p source).state = took.state ∙ ap (λ (k : Taken). k.state) taken_is in
        λ i. send (wire (same i)) (λ q e. stays_open (here i) q (o_is i) e) clock (open_at (here i) (o_is i)) (state i)

    decided_start : r ≡ (decide s p source).start
    decided_start = sent.start ∙ ap (λ (k : Turn Packet). k.start) turn_is

    decided-left : rest ≡ (decide s p source).left
    decided-left = took.left ∙ ap (λ (k : Taken). k.left) taken_is

    decided_port : port_of (clock + 1) es pends z ≡ (decide s p source).port
    decided_port =
        let same = sheets in
        let here = in_force-is in
        let start = decided_start in
        let state : state_of z ≡ (turn s p source).after = sent.state ∙ ap (λ (k : Turn Packet). k.after) turn_is in
        let later : clock + 1 ≡ suc clock = add-one clock in
        let pends-now : pends ≡ still_pending (eqb (clock % cycle s) 0) pending = pends-is ∙ ap (λ (n : ℕ). still_pending (eqb n 0) pending) o_is in
        let last : z.last ≡ (taken s p source).last = sent.last ∙ took.last ∙ ap (λ (k : Taken). k.last) taken_is in
        let counted : counts_of y.counts ≡ (taken s p source).counts = took.counts ∙ ap (λ (k : Taken). k.counts) taken_is in
        let both : with_start (sheet_of y) r (counts_of y.counts) ≡ with_start s (turn s p source).start (taken s p source).counts = λ i. with_start (same i) (start i) (counted i) in
        let counts : counts_of z.counts ≡ with_start s (turn s p source).start (taken s p source).counts = sent.counts ∙ both in
        λ i. record { state = state i; clock = later i; list = here i; pending = pends-now i; last = last i; counts = counts i }

    -- the instant at the clock was decided
    pub decided_all : (z.sheet ≡ x.sheet) × (port_of (clock + 1) es pends z ≡ (decide s p source).port) × (rest ≡ (decide s p source).left) × (r ≡ (decide s p source).start)
    decided_all = (same_sheet, decided_port, decided-left, decided_start)

    -- and there still is room
    pub decided_ample : Ample s p → Ample (sheet_of z) (port_of (clock + 1) es pends z)
    decided_ample h = let same = same_sheet in subst (λ (b : Bor Sheet). Ample (traffic_of b.now) (port_of (clock + 1) es pends z)) (sym same) (subst (Ample s) (sym decided_port) (λ life l. h (instant source ∷ life) l))
