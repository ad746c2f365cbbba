-- Over instants at which nothing happens only the clock moves. Assumes nothing.
use Rattle.std.proofs.Common.{◌≡◌, ℕ, zero, suc, ◌+◌, ◌-◌, ◌%◌, ◌<◌, ◌≤◌, true, List, [], ◌∷◌, Some, None, Option, sym, refl, ap, ◌∙◌, subst, mod-eq_of_lt, arith}
use native.Mathlib.Nat.{mod-add-mod}
use Rattle.std.proofs.lemmas.Bool.{le-leb}
use Rattle.traffic.specs.declared.packet.Packet.{Packet}
use Rattle.traffic.specs.Packets.{Traffic}
use Rattle.gates.specs.declared.entry.Entry.{Entry}
use Rattle.arrivals.specs.Sources.{first}
use Rattle.sending.specs.Sheet.{cycle}
use Rattle.sending.specs.Port.{Turn}
use Rattle.sending.specs.Calls.{Advanced, Decided, Port, advance_by, decide}
use Rattle.sending.specs.Jumps.{later, none_before}
use Rattle.sending.proofs.Jumping.{quiet_instants, advance_splits}
use Rattle.port.specs.declared.station.Station.{Station}
use Rattle.port.specs.Station.{state_of}
use Rattle.port.specs.Life.{port_of, instant, Ample}
use Rattle.port.proofs.Running.{goes}
use Rattle.port.specs.Quiet.{Lasts, NotArrived, Unswitched, Unsent}

-- an offset later in the same cycle
pub offset_later : (t k c : ℕ) → t % c + k < c → (t + k) % c ≡ t % c + k
offset_later t k c h = sym (mod-add-mod t c k) ∙ mod-eq_of_lt h

-- within a cycle no list comes into force
pub unswitched : (s : Traffic) (pending : Option (List Entry)) (clock i : ℕ) → 0 < clock % cycle s → clock ≤ i → i < clock + (cycle s - clock % cycle s) → Unswitched s pending i
unswitched s pending clock i pos low high e =
    let at : i ≡ clock + (i - clock) = omega arith in
    let later-is : i % cycle s ≡ clock % cycle s + (i - clock) = ap (λ (n : ℕ). n % cycle s) at ∙ offset_later clock (i - clock) (cycle s) (omega arith) in
    absurd (omega arith)

-- the head has not arrived by the last of these instants
none_come : (t : ℕ) (xs : List Packet) → NotArrived (first xs) t → none_before (suc t) xs ≡ true
none_come t [] h = refl
none_come t (x ∷ xs) h = le-leb (suc t) x.arrival h

-- whatever an advance does, there is room
ample_advance : (s : Traffic) (n : ℕ) (p : Port) (xs : List Packet) → Ample s p → Ample s (advance_by s n p xs).port
ample_advance s zero p xs a = a
ample_advance s (suc n) p xs a = go (decide s p xs).start (λ life l. a (instant xs ∷ life) l) (ample_advance s n (decide s p xs).port (decide s p xs).left (λ life l. a (instant xs ∷ life) l))
  where
    d : Decided
    d = decide s p xs

    go : (o : Option Packet) → Ample s d.port → Ample s (advance_by s n d.port d.left).port →
        Ample s (goes s p.clock n d o).port
    go None now on = on
    go (Some y) now on = now

module _ (s : Traffic) (es : List Entry) (pending : Option (List Entry)) (x : Station) where
  abbrev p : ℕ → Port
  p t = port_of t es pending x

  -- no list comes into force, and nothing starts
  abbrev Still : ℕ → Type 0
  Still i = Unswitched s pending i × Unsent s es (state_of x) i

  -- only the clock goes on
  moves : (k t : ℕ) (xs : List Packet) → ((i : ℕ) → t ≤ i → i < t + k → NotArrived (first xs) i × Still i) → advance_by s k (p t) xs ≡ record { port = later k (p t); left = xs; start = None }
  moves zero t xs h = let at : t ≡ t + 0 = omega arith in ap (λ (n : ℕ). record { port = p n; left = xs; start = None }) at
  moves (suc k) t xs h =
      let end : t + suc k ≡ suc (t + k) = omega arith in
      quiet_instants s (suc k) (p t) xs (record {
        same_list = λ i l. (h (t + i) (omega arith) (omega arith)).1.0;
        none_taken = ap (λ (n : ℕ). none_before n xs) end ∙ none_come (t + k) xs (h (t + k) (omega arith) (omega arith)).0;
        none_starts = λ i l. ap (λ (y : Turn Packet). y.start) (h (t + i) (omega arith) (omega arith)).1.1;
      })

  module _ (clock u v next end : ℕ) (head : Option Packet) (arrives : Lasts (NotArrived head) clock end u) (switches : Lasts (Unswitched s pending) clock u v) (sends : Lasts (Unsent s es (state_of x)) clock v next) where
    still : (i : ℕ) → clock ≤ i → i < next → Still i
    still i l h = let a = sends.high in (switches.each i l (omega arith), sends.each i l h)

    at_next : clock + (next - clock) ≡ next
    at_next = let d = sends.low in omega arith

    -- what is left to do is the same
    pub passed : (xs : List Packet) → head ≡ first xs → advance_by s (end - next) (p next) xs ≡ advance_by s (end - clock) (p clock) xs
    passed xs e =
        let a = arrives.high in
        let b = switches.high in
        let c = sends.high in
        let d = sends.low in
        let n : end - clock ≡ (next - clock) + (end - next) = omega arith in
        let go = moves (next - clock) clock xs (λ i l h. (subst (λ (o : Option Packet). NotArrived o i) e (arrives.each i l (omega arith)), still i l (omega arith))) in
        sym (ap (λ (m : ℕ). advance_by s m (p clock) xs) n
        ∙ advance_splits s (next - clock) (end - next) (p clock) xs (ap (λ (y : Advanced). y.start) go)
        ∙ ap (λ (y : Advanced). advance_by s (end - next) y.port y.left) go
        ∙ ap (λ (m : ℕ). advance_by s (end - next) (p m) xs) at_next)

    pub passed_ample : Ample s (p clock) → Ample s (p next)
    passed_ample a =
        let go = moves (next - clock) clock [] (λ i l h. (tt, still i l (let n = at_next in omega arith))) in
        subst (λ (m : ℕ). Ample s (p m)) at_next (subst (λ (y : Advanced). Ample s y.port) go (ample_advance s (next - clock) (p clock) [] a))
