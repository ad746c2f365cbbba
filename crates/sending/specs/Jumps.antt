-- Instants at which nothing happens, and advances in parts. Assumes nothing.
use Rattle.std.specs.Prelude.{◌≡◌, ℕ, ◌+◌, ◌%◌, ◌<◌, Bool, true, List, [], ◌∷◌, None, nat_le}
use Rattle.traffic.specs.declared.packet.Packet.{Packet}
use Rattle.traffic.specs.Packets.{Traffic}
use Rattle.gates.specs.Open.{open_at, stays_open}
use Rattle.sending.specs.Sheet.{cycle, wire}
use Rattle.sending.specs.Port.{send}
use Rattle.sending.specs.Calls.{Port, advance_by}

-- no packet of the source arrives before t, by its head
abbrev pub none_before : ℕ → List Packet → Bool
none_before t [] = true
none_before t (x ∷ xs) = nat_le t x.arrival

-- over the next n instants no pending list comes into force, the source has nothing to take, and nothing can start
pub record Quiet (s : Traffic) (p : Port) (source : List Packet) (n : ℕ) : Type 0 where
  pub same_list : (i : ℕ) → i < n → (p.clock + i) % cycle s ≡ 0 → p.pending ≡ None
  pub none_taken : none_before (p.clock + n) source ≡ true
  pub none_starts : (i : ℕ) → i < n →
      (send (wire s) (λ q e. stays_open p.list q ((p.clock + i) % cycle s) e) (p.clock + i) (open_at p.list ((p.clock + i) % cycle s)) p.state).start ≡ None

-- the same port, n instants later
abbrev pub later : ℕ → Port → Port
later n p = record { state = p.state; clock = p.clock + n; list = p.list; pending = p.pending; last = p.last; counts = p.counts }

-- over quiet instants only the clock goes on
abbrev pub QuietInstants : Type 0
QuietInstants = (s : Traffic) (n : ℕ) (p : Port) (source : List Packet) → Quiet s p source n → advance_by s n p source ≡ record { port = later n p; left = source; start = None }

-- an advance in two parts, where the first has no start
abbrev pub AdvanceSplits : Type 0
AdvanceSplits =
    (s : Traffic) (m n : ℕ) (p : Port) (source : List Packet) → (advance_by s m p source).start ≡ None →
    advance_by s (m + n) p source ≡ advance_by s n (advance_by s m p source).port (advance_by s m p source).left
