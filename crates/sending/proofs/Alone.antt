-- The starts of one queue, whatever the others do.
use Rattle.std.proofs.Common.{◌≡◌, ℕ, zero, suc, ◌+◌, ◌*◌, ◌/◌, ◌%◌, ◌<◌, Bool, true, false, cond, ◌&&◌, leb, List, [], ◌∷◌, length, Some, None, filter, Option, sym, refl, ap, ◌∙◌, subst, div-mul-le_self, arith}
use Rattle.std.specs.List.{AllByRecursion}
use Rattle.std.proofs.ByRecursion.{All-append, all_kept_by}
use Rattle.std.proofs.lemmas.Bool.{and_parts, eqb-true}
use Rattle.traffic.specs.declared.packet.Packet.{Packet}
use Rattle.traffic.specs.Packets.{Traffic}
use Rattle.gates.specs.declared.entry.Entry.{Entry}
use Rattle.gates.specs.Open.{open_at, stays_open}
use Rattle.sending.specs.Sheet.{OfSheet, cycle, packet_at, queue, waits_before, wire}
use Rattle.sending.specs.Rules.{total}
use Rattle.sending.specs.Port.{fits_at, gate_at, has_packet, joining, arriving, starts}
use Rattle.sending.specs.Cycles.{QueueAlone}
use Rattle.sending.proofs.Lists.{all_cond, all_placed, kept_same}
use Rattle.sending.proofs.Line.{is, Line, first, lsend, line, lstart, lstart-same}
use Rattle.sending.proofs.OneQueue.{qfits, begins-alone, begins_shut}
use Rattle.sending.proofs.Gated.{held}
use Rattle.sending.proofs.Packets.{Comes, all_come}

-- what every packet that comes has, every packet that waits or starts has
module _ {P : Type 0} (Q : P → Type 0) (wire : P → ℕ) where
  pub all_lsend : (fits : ℕ → Bool) (t f : ℕ) (ws : List P) → AllByRecursion Q ws → AllByRecursion Q (lsend wire fits t f ws).waiting
  all_lsend fits t f [] a = tt
  all_lsend fits t f (p ∷ ps) a = go (leb f t && fits (wire p))
    where
      go : (b : Bool) → AllByRecursion Q (cond {A = Line P} b (record { waiting = ps; free = t + wire p }) (record { waiting = p ∷ ps; free = f })).waiting
      go true = a.1
      go false = a

  pub all_line : (fits : ℕ → ℕ → Bool) (arr : ℕ → List P) → ((u : ℕ) → AllByRecursion Q (arr u)) → (t : ℕ) → AllByRecursion Q (line wire fits arr t).waiting
  all_line fits arr a zero = tt
  all_line fits arr a (suc t) = all_lsend (fits t) t _ _ (All-append Q (line wire fits arr t).waiting (arr t) (all_line fits arr a t) (a t))

  all_first : (fits : ℕ → Bool) (t f : ℕ) (ws : List P) (p : P) → AllByRecursion Q ws → first wire fits t f ws ≡ Some p → Q p
  all_first fits t f [] p a e = let z : ◌≡◌ {A = ℕ} 0 1 = cc in absurd (omega arith)
  all_first fits t f (w ∷ ws) p a e = go (leb f t && fits (wire w)) e
    where
      go : (b : Bool) → cond b (Some w) None ≡ Some p → Q p
      go true h = let same : w ≡ p = cc in subst Q same a.0
      go false h = let z : ◌≡◌ {A = ℕ} 0 1 = cc in absurd (omega arith)

  pub all_start : (fits : ℕ → ℕ → Bool) (arr : ℕ → List P) → ((u : ℕ) → AllByRecursion Q (arr u)) → (t : ℕ) (p : P) → lstart wire fits arr t ≡ Some p → Q p
  all_start fits arr a t p e = all_first (fits t) t _ _ p (All-append Q (line wire fits arr t).waiting (arr t) (all_line fits arr a t) (a t)) e

pub of_queue : (s : Traffic) (es : List Entry) (q t n : ℕ) → AllByRecursion (λ p. queue s p ≡ q) (arriving s es q t n)
of_queue s es q t zero = tt
of_queue s es q t (suc n) = all_cond (λ p. queue s p ≡ q) (has_packet s es q t (suc n)) _ _
    (λ h. all_placed (λ p. queue s p ≡ q) (waits_before s) (packet_at s (suc n) t) _
    (sym (eqb-true q (queue s (packet_at s (suc n) t)) (and_parts _ _ (and_parts _ _ h).1).0)) (of_queue s es q t n))
    (λ _. of_queue s es q t n)

module _ (s : Traffic) (in_force : ℕ → List Entry) (pos : 0 < cycle s) (whole : (n : ℕ) → total (in_force n) ≡ cycle s) (up : Packet → Bool) where
  -- queue q as a line by itself
  abbrev pub queue_fits : (q t e : ℕ) → Bool
  queue_fits = qfits (wire s) (gate_at s in_force) (fits_at s in_force) (joining s in_force up)

  abbrev pub queue_comes : (q t : ℕ) → List Packet
  queue_comes q t = joining s in_force up t q

  pub starts-queue : (t : ℕ) (p : Packet) → starts s in_force up t ≡ Some p → (gate_at s in_force t ≡ Some (queue s p)) × (lstart (wire s) (queue_fits (queue s p)) (queue_comes (queue s p)) t ≡ Some p)
  starts-queue t p e = go (gate_at s in_force t) refl
    where
      go : (g : Option ℕ) → gate_at s in_force t ≡ g → (gate_at s in_force t ≡ Some (queue s p)) × (lstart (wire s) (queue_fits (queue s p)) (queue_comes (queue s p)) t ≡ Some p)
      go None g = let no_start = begins_shut (wire s) (gate_at s in_force) (fits_at s in_force) (joining s in_force up) (held s in_force pos whole) t g in let z : ◌≡◌ {A = ℕ} 0 1 = cc in absurd (omega arith)
      go (Some r) g =
          let there : lstart (wire s) (queue_fits r) (queue_comes r) t ≡ Some p = sym (begins-alone (wire s) (gate_at s in_force) (fits_at s in_force) (joining s in_force up) (held s in_force pos whole) r t g) ∙ e in
          let own : queue s p ≡ r = all_start (λ x. queue s x ≡ r) (wire s) (queue_fits r) (queue_comes r) (λ u. all_kept_by up (λ x. queue s x ≡ r) _ (of_queue s _ r u _)) t p there in
          rw own (g, there)

  pub starts_from : (q t : ℕ) (p : Packet) → gate_at s in_force t ≡ Some q → lstart (wire s) (queue_fits q) (queue_comes q) t ≡ Some p → starts s in_force up t ≡ Some p
  starts_from q t p g e = begins-alone (wire s) (gate_at s in_force) (fits_at s in_force) (joining s in_force up) (held s in_force pos whole) q t g ∙ e

pub one_way : (s : Traffic) → 0 < cycle s → (in_force in_force' : ℕ → List Entry) → ((n : ℕ) → total (in_force n) ≡ cycle s) → ((n : ℕ) → total (in_force' n) ≡ cycle s) →
    (up up' : Packet → Bool) (clock : ℕ) → ((n : ℕ) → n * cycle s < clock → in_force n ≡ in_force' n) →
    (t : ℕ) → t < clock → (p : Packet) → ((r : Packet) → OfSheet s r → queue s r ≡ queue s p → up r ≡ up' r) → starts s in_force up t ≡ Some p → starts s in_force' up' t ≡ Some p
one_way s pos in_force in_force' whole whole' up up' clock lists t tc p turned e =
    let q = queue s p in
    let here = starts-queue s in_force pos whole up t p e in
    let list : (u : ℕ) → u < suc t → in_force (u / cycle s) ≡ in_force' (u / cycle s) = λ u h. lists (u / cycle s) (let k = div-mul-le_self u (cycle s) in omega arith) in
    let same : lstart (wire s) (queue_fits s in_force pos whole up q) (queue_comes s in_force pos whole up q) t ≡ lstart (wire s) (queue_fits s in_force' pos whole' up' q) (queue_comes s in_force' pos whole' up' q) t =
    lstart-same (wire s) _ _ _ _ t
    (λ u h. ap {B = ℕ → Bool} (λ (es : List Entry) (e : ℕ). is q (open_at es (u % cycle s)) && stays_open es q (u % cycle s) e) (list u h))
    (λ u h. ap (λ (es : List Entry). filter up (arriving s es q u (length s.flows))) (list u h) ∙ kept_same (Comes s (in_force' (u / cycle s)) q u) up up' (λ x c. turned x c.ours c.own) (arriving s (in_force' (u / cycle s)) q u (length s.flows)) (all_come s (in_force' (u / cycle s)) q u (length s.flows) (omega arith))) in
    let opens : gate_at s in_force' t ≡ Some q = ap (λ (es : List Entry). open_at es (t % cycle s)) (sym (list t (omega arith))) ∙ here.0 in
    starts_from s in_force' pos whole' up' q t p opens (sym same ∙ here.1)

pub queue-alone : QueueAlone
queue-alone s fits in_force in_force' whole whole' up up' q clock turned lists t tc p own = (
  one_way s fits.some_time in_force in_force' whole whole' up up' clock lists t tc p (λ r o h. turned r o (h ∙ own)),
  one_way s fits.some_time in_force' in_force whole' whole up' up clock (λ n h. sym (lists n h)) t tc p (λ r o h. sym (turned r o (h ∙ own))),
)
