-- What waits in a queue is due, has arrived, and stands strictly in queue order.
use Rattle.std.proofs.Common.{◌≡◌, ℕ, zero, suc, ◌+◌, ◌<◌, Bool, true, false, cond, ◌&&◌, leb, List, [], ◌∷◌, ◌++◌, length, arith}
use Rattle.std.specs.List.{AllByRecursion}
use Rattle.std.proofs.ByRecursion.{All-append, all_kept_by, All-weaker}
use Rattle.traffic.specs.declared.packet.Packet.{Packet}
use Rattle.traffic.specs.Packets.{Traffic}
use Rattle.gates.specs.declared.entry.Entry.{Entry}
use Rattle.sending.specs.Sheet.{Fits, OfSheet, wire}
use Rattle.sending.specs.Port.{list_at, arriving}
use Rattle.sending.specs.Laws.{InOrder}
use Rattle.sending.proofs.Line.{Line, lsend, line}
use Rattle.sending.proofs.Packets.{Comes, all_come}
use Rattle.sending.proofs.Strict.{strict_flows, strict_kept, strict_append}
use Rattle.sending.proofs.Waiting.{Due, all_due, fits, arr}

module _ (s : Traffic) (fs : Fits s) (in_force : ℕ → List Entry) (up : Packet → Bool) (q : ℕ) where
  abbrev D : Packet → Type 0
  D = Due s in_force up q

  pub record Lined (t : ℕ) (ws : List Packet) : Type 0 where
    pub due : AllByRecursion D ws
    pub strict : InOrder s ws
    pub come : AllByRecursion (λ w. w.arrival < t) ws

  -- what comes at t arrives then
  pub arrive : (t : ℕ) → AllByRecursion (λ v. v.arrival ≡ t) (arr s fs in_force up q t)
  arrive t = all_kept_by up (λ v. v.arrival ≡ t) _ (All-weaker (Comes s (list_at s in_force t) q t) (λ v. v.arrival ≡ t) (λ v k. k.now) _ (all_come s (list_at s in_force t) q t (length s.flows) (omega arith)))

  joined : (t : ℕ) (ws : List Packet) → Lined t ws → Lined (suc t) (ws ++ arr s fs in_force up q t)
  joined t ws l =
      let new = arr s fs in_force up q t in
      let dues : AllByRecursion D new = all_due s fs in_force up q t in
      record {
        due = All-append D ws new l.due dues;
        strict = strict_append s t ws new l.strict (strict_kept s up (arriving s (list_at s in_force t) q t (length s.flows)) (strict_flows s (list_at s in_force t) q t (length s.flows)))
            (All-weaker D (OfSheet s) (λ x d. d.ours) ws l.due) l.come (All-weaker D (OfSheet s) (λ x d. d.ours) new dues) (arrive t);
        come = All-append (λ w. w.arrival < suc t) ws new (All-weaker (λ w. w.arrival < t) (λ w. w.arrival < suc t) (λ x h. omega arith) ws l.come) (All-weaker (λ w. w.arrival ≡ t) (λ w. w.arrival < suc t) (λ x h. omega arith) new (arrive t));
      }

  left : (free : ℕ → Bool) (t f u : ℕ) (ws : List Packet) → Lined u ws → Lined u (lsend (wire s) free t f ws).waiting
  left free t f u [] l = l
  left free t f u (x ∷ xs) l = go (leb f t && free (wire s x))
    where
      go : (b : Bool) → Lined u (cond {A = Line Packet} b (record { waiting = xs; free = t + wire s x }) (record { waiting = x ∷ xs; free = f })).waiting
      go true = record { due = l.due.1; strict = l.strict.1; come = l.come.1 }
      go false = l

  pub lined : (t : ℕ) → Lined t (line (wire s) (fits s fs in_force up q) (arr s fs in_force up q) t).waiting
  lined zero = record { due = tt; strict = tt; come = tt }
  lined (suc t) = left (fits s fs in_force up q t) t _ (suc t) _ (joined t _ (lined t))

  -- once those of the instant have joined
  pub lined_then : (t : ℕ) → Lined (suc t) ((line (wire s) (fits s fs in_force up q) (arr s fs in_force up q) t).waiting ++ arr s fs in_force up q t)
  lined_then t = joined t _ (lined t)
