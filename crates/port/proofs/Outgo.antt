-- The third step, case by case. Assumes nothing.
use Rattle.std.proofs.Common.{◌≡◌, ℕ, zero, suc, ◌+◌, ◌^◌, ◌<◌, ◌≤◌, Bool, true, false, cond, eqb, leb, List, [], ◌∷◌, map, drop, Some, None, Option, sym, refl, ap, ◌∙◌, subst, arith}
use Rattle.std.specs.Option.{is_some}
use Rattle.std.specs.List.{slice_get, list_all}
use Rattle.std.proofs.lemmas.Bool.{and_parts, and_left, and_right, and_from, le-leb, lt-leb, cond-true, cond-false}
use Rattle.traffic.specs.declared.packet.Packet.{Packet}
use Rattle.traffic.specs.declared.packet.Job.{Job}
use Rattle.traffic.specs.Packets.{Traffic, packet_of}
use Rattle.gates.specs.declared.entry.Entry.{Entry}
use Rattle.gates.specs.Open.{alone_below, gates_at, open_at, stays_open}
use Rattle.sending.specs.Sheet.{wire, mandatory}
use Rattle.sending.specs.Port.{State, Turn, idle, send, serve}
use Rattle.sending.specs.Calls.{of_sheet, one_start}
use Rattle.port.specs.declared.lanes.Lanes.{Lanes}
use Rattle.port.specs.declared.station.Station.{Station}
use Rattle.port.specs.Counting.{counts_of}
use Rattle.port.specs.Lanes.{queue_at, waiting_of, as_sheet, LaneLeft}
use Rattle.port.specs.Station.{state_of, sheet_of, third_step, Sent}
use Rattle.port.specs.Quiet.{fitting, can_start}
use Rattle.port.proofs.Lining.{as_sheet-is, left_waiting}

-- there are eight gates
low_gate : (n g q : ℕ) → alone_below n g ≡ Some q → q < n
low_gate zero g q e = let z : ◌≡◌ {A = ℕ} 0 1 = cc in absurd (omega arith)
low_gate (suc n) g q e = go (eqb g (2 ^ n)) e (low_gate n g q)
  where
    go : (b : Bool) → cond b (Some n) (alone_below n g) ≡ Some q → (alone_below n g ≡ Some q → q < n) → q < suc n
    go true h ih = let k : n ≡ q = cc in omega arith
    go false h ih = let k = ih h in omega arith

pub open_low : (es : List Entry) (o q : ℕ) → open_at es o ≡ Some q → q < 8
open_low es o q e = low_gate 8 (gates_at es o) q e

module _ (s : Traffic) (es : List Entry) (t o : ℕ) where
  busy_serve : (q : ℕ) (x : State Packet) (ps : List Packet) → t < x.free → serve (wire s) (λ e. stays_open es q o e) t q x ps ≡ idle x
  busy_serve q x [] l = refl
  busy_serve q x (p ∷ ps) l = cond-false _ _ _ (and_left (leb x.free t) (stays_open es q o (wire s p)) (lt-leb x.free t l))

  -- the wire is taken
  pub busy : (x : State Packet) → t < x.free → third_step s es t o x ≡ idle x
  busy x l = go (open_at es o)
    where
      go : (g : Option ℕ) → send (wire s) (λ q e. stays_open es q o e) t g x ≡ idle x
      go None = refl
      go (Some q) = busy_serve q x (x.waiting q) l

  -- no gate is open
  pub shut : (x : State Packet) → open_at es o ≡ None → third_step s es t o x ≡ idle x
  shut x e = ap (λ (g : Option ℕ). send (wire s) (λ q e. stays_open es q o e) t g x) e

  -- nothing waits behind it
  pub vacant : (x : State Packet) (q : ℕ) → open_at es o ≡ Some q → x.waiting q ≡ [] → third_step s es t o x ≡ idle x
  vacant x q e n = ap (λ (g : Option ℕ). send (wire s) (λ q e. stays_open es q o e) t g x) e ∙ ap (serve (wire s) (λ e. stays_open es q o e) t q x) n

  at_gate : (x : State Packet) (q : ℕ) (p : Packet) (ps : List Packet) → open_at es o ≡ Some q → x.waiting q ≡ p ∷ ps → third_step s es t o x ≡ serve (wire s) (λ e. stays_open es q o e) t q x (p ∷ ps)
  at_gate x q p ps e n = ap (λ (g : Option ℕ). send (wire s) (λ q e. stays_open es q o e) t g x) e ∙ ap (serve (wire s) (λ e. stays_open es q o e) t q x) n

  -- the gate does not stay open for the first
  unfit : (x : State Packet) (q : ℕ) (p : Packet) (ps : List Packet) → open_at es o ≡ Some q → x.waiting q ≡ p ∷ ps → stays_open es q o (wire s p) ≡ false → third_step s es t o x ≡ idle x
  unfit x q p ps e n f = at_gate x q p ps e n ∙ cond-false _ _ _ (and_right (leb x.free t) (stays_open es q o (wire s p)) f)

  -- the first starts
  starts : (x : State Packet) (q : ℕ) (p : Packet) (ps : List Packet) → open_at es o ≡ Some q → x.waiting q ≡ p ∷ ps → x.free ≤ t → stays_open es q o (wire s p) ≡ true →
      third_step s es t o x ≡ record { after = record { waiting = λ r. cond (eqb r q) ps (x.waiting r); free = t + wire s p }; start = Some p }
  starts x q p ps e n l f = at_gate x q p ps e n ∙ cond-true _ _ _ (and_from (leb x.free t) (stays_open es q o (wire s p)) (le-leb x.free t l) f)

-- the first that waits
none_first : (ws : List Job) → slice_get ws 0 ≡ None → map packet_of ws ≡ []
none_first [] e = refl
none_first (w ∷ ws) e = cc

some_first : (ws : List Job) (w : Job) → slice_get ws 0 ≡ Some w → map packet_of ws ≡ packet_of w ∷ drop 1 (map packet_of ws)
some_first [] w e = cc
some_first (x ∷ ws) w e = let k : x ≡ w = cc in ap (λ (y : Job). packet_of y ∷ map packet_of ws) k

first_good : (s : Traffic) (ws : List Job) (w : Job) → slice_get ws 0 ≡ Some w → list_all (as_sheet s) ws ≡ true → as_sheet s w ≡ true
first_good s [] w e a = cc
first_good s (x ∷ ws) w e a = let k : x ≡ w = cc in subst (λ (y : Job). as_sheet s y ≡ true) k (and_parts (as_sheet s x) (list_all (as_sheet s) ws) a).0

-- a gate that does not stay open for the first
pub unfitting : {X : Type 0} (b : Bool) (a : X) → cond b (Some a) None ≡ None → b ≡ false
unfitting true a e = cc
unfitting false a e = refl

pub not_some : {X : Type 0} (o : Option X) → is_some o ≡ false → o ≡ None
not_some None e = refl
not_some (Some x) e = cc

-- what can start is the first behind the open gate, for which it stays open
pub record Starting (l : Lanes) (es : List Entry) (o q : ℕ) (w : Job) : Type 0 where
  pub gate : open_at es o ≡ Some q
  pub head : slice_get (queue_at l q) 0 ≡ Some w
  pub fits : stays_open es q o w.wire ≡ true

pub starting : (l : Lanes) (es : List Entry) (o q : ℕ) (w : Job) → can_start l es o (open_at es o) ≡ Some (q, w) → Starting l es o q w
starting l es o q w c = at_gate (open_at es o) refl c
  where
    at_gate : (g : Option ℕ) → open_at es o ≡ g → can_start l es o g ≡ Some (q, w) → Starting l es o q w
    at_gate None e c = cc
    at_gate (Some r) e c = at_head (slice_get (queue_at l r) 0) refl c
      where
        fitted : (b : Bool) (x : Job) → stays_open es r o x.wire ≡ b → slice_get (queue_at l r) 0 ≡ Some x → cond {A = Option (ℕ × Job)} b (Some (r, x)) None ≡ Some (q, w) → Starting l es o q w
        fitted true x f h c =
            let both : ◌≡◌ {A = ℕ × Job} (r, x) (q, w) = cc in
            let Goal : ℕ × Job → Type 0 = λ a. Starting l es o a.0 a.1 in
            subst Goal both (record { gate = e; head = h; fits = f })
        fitted false x f h c = cc

        at_head : (h : Option Job) → slice_get (queue_at l r) 0 ≡ h → fitting es r o h ≡ Some (q, w) → Starting l es o q w
        at_head None i c = cc
        at_head (Some x) i c = fitted (stays_open es r o x.wire) x refl i c

module _ (es : List Entry) (t o : ℕ) (entry : Station) where
  abbrev s : Traffic
  s = sheet_of entry

  module _ (q : ℕ) (w : Job) (head : slice_get (queue_at entry.lanes q) 0 ≡ Some w) where
    good : as_sheet s w ≡ true
    good = first_good s (queue_at entry.lanes q) w head (and_parts _ _ (entry.lined q)).1

    pub ours : of_sheet s (packet_of w) ≡ true
    ours = (and_parts (of_sheet s (packet_of w)) _ good).0

    wire-is : w.wire ≡ wire s (packet_of w)
    wire-is = ap (λ (j : Job). j.wire) (as_sheet-is s w good)

    line : waiting_of entry.lanes q ≡ packet_of w ∷ drop 1 (waiting_of entry.lanes q)
    line = some_first (queue_at entry.lanes q) w head

  -- nothing can start
  pub stuck : can_start entry.lanes es o (open_at es o) ≡ None → third_step s es t o (state_of entry) ≡ idle (state_of entry)
  stuck c = go (open_at es o) refl c
    where
      go : (g : Option ℕ) → open_at es o ≡ g → can_start entry.lanes es o g ≡ None → third_step s es t o (state_of entry) ≡ idle (state_of entry)
      go None e c = shut s es t o (state_of entry) e
      go (Some q) e c = at_head (slice_get (queue_at entry.lanes q) 0) refl c
        where
          at_head : (h : Option Job) → slice_get (queue_at entry.lanes q) 0 ≡ h → fitting es q o h ≡ None → third_step s es t o (state_of entry) ≡ idle (state_of entry)
          at_head None i c = vacant s es t o (state_of entry) q e (none_first (queue_at entry.lanes q) i)
          at_head (Some w) i c = unfit s es t o (state_of entry) q (packet_of w) (drop 1 (waiting_of entry.lanes q)) e (line q w i) (ap (stays_open es q o) (sym (wire-is q w i)) ∙ unfitting (stays_open es q o w.wire) (q, w) c)

  pub sent_busy : t < entry.free → Sent es t o None entry entry
  sent_busy l = let e = busy s es t o (state_of entry) l in record { sheet = refl; start = ap (λ (x : Turn Packet). x.start) (sym e); state = ap (λ (x : Turn Packet). x.after) (sym e); counts = refl; last = refl }

  pub sent_nothing : can_start entry.lanes es o (open_at es o) ≡ None → Sent es t o None entry entry
  sent_nothing c = let e = stuck c in record { sheet = refl; start = ap (λ (x : Turn Packet). x.start) (sym e); state = ap (λ (x : Turn Packet). x.after) (sym e); counts = refl; last = refl }

  pub sent_start : (q : ℕ) (w : Job) → Starting entry.lanes es o q w → entry.free ≤ t → (p : Packet) → p ≡ packet_of w → (y : Station) → y.sheet ≡ entry.sheet → LaneLeft q entry.lanes y.lanes → y.free ≡ t + w.wire → counts_of y.counts ≡ one_start (mandatory s p) (counts_of entry.counts) → y.last ≡ entry.last →
      Sent es t o (Some p) entry y
  sent_start q w can free p is y sheets h frees counted lasts =
      let wires = wire-is q w can.head in
      let it = starts s es t o (state_of entry) q (packet_of w) (drop 1 (waiting_of entry.lanes q)) can.gate (line q w can.head) free (ap (stays_open es q o) (sym wires) ∙ can.fits) in
      let waits = left_waiting s entry.lanes y.lanes q entry.lined h in
      let until = frees ∙ ap (λ (n : ℕ). t + n) wires in
      record {
        sheet = sheets;
        start = ap Some is ∙ ap (λ (x : Turn Packet). x.start) (sym it);
        state = ◌∙◌ {b = record { waiting = λ r. cond (eqb r q) (drop 1 (waiting_of entry.lanes q)) (waiting_of entry.lanes r); free = t + wire s (packet_of w) }} (λ i. record { waiting = λ r. waits r i; free = until i }) (ap (λ (x : Turn Packet). x.after) (sym it));
        counts = counted;
        last = lasts;
      }
