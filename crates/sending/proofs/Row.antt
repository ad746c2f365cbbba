-- Of any k packets in a row a flow loses at most m.
use Rattle.std.proofs.Common.{◌≡◌, ℕ, zero, suc, ◌+◌, ◌<◌, ◌≤◌, Bool, true, false, cond, not, ◌&&◌, List, length, refl, ap, ◌∙◌, subst, ⊎_elim, arith}
use Rattle.std.proofs.lemmas.Bool.{and_from, cases_eq, both_ways, or_left, or_right}
use Rattle.traffic.specs.declared.packet.Packet.{Packet}
use Rattle.traffic.specs.Packets.{Traffic, in_time}
use Rattle.traffic.specs.Pattern.{mandatory_at, optionals}
use Rattle.traffic.proofs.Rows.{few_optional}
use Rattle.gates.specs.declared.entry.Entry.{Entry}
use Rattle.sending.specs.Sheet.{Fits, OfSheet, deadline, flow, job_of, mandatory, packet, wire}
use Rattle.sending.specs.Port.{losses, lost, sent_whole, starts, starts_it}
use Rattle.sending.specs.InTime.{Accepted, StartsInTime}
use Rattle.sending.specs.Cycles.{FewLost}
use Rattle.sending.proofs.Packets.{same_self, fits_of}
use Rattle.sending.proofs.Cycles.{ends_by, once_in_time}

-- a start in time is seen
pub seen : (s : Traffic) (in_force : ℕ → List Entry) (up : Packet → Bool) (p : Packet) (u : ℕ) → StartsInTime s in_force up p u → (t : ℕ) → u < t → sent_whole s in_force up p t ≡ true
seen s in_force up p u h zero l = absurd (omega arith)
seen s in_force up p u h (suc t) l = ⊎_elim
    (λ (e : u ≡ t). or_left _ _ (subst (λ (v : ℕ). (starts_it p (starts s in_force up v) && in_time (job_of s p) v) ≡ true) e (and_from _ _ (ap (starts_it p) h.there ∙ same_self p) h.ends)))
    (λ ne. or_right _ _ (seen s in_force up p u h t (omega arith)))
    (cases_eq u t)

module _ (s : Traffic) (fs : Fits s) (i : ℕ) (from_one : 1 ≤ i) (to_last : i ≤ length s.flows) where
  pub numbered_packet : (j : ℕ) → 1 ≤ j → OfSheet s (packet s i j)
  numbered_packet j h = record { from_one = from_one; to_last = to_last; numbered = h; on_time = refl }

  -- where no mandatory one is lost, no more than the optional ones are
  lost_few : (gone : Packet → Bool) (n j : ℕ) → ((l : ℕ) → j ≤ l → l < j + n → mandatory s (packet s i l) ≡ true → gone (packet s i l) ≡ false) →
      losses s gone i j n ≤ optionals (flow s i).miss (flow s i).among j n
  lost_few gone zero j h = omega arith
  lost_few gone (suc n) j h =
      let rest = lost_few gone n (suc j) (λ l a b m. h l (omega arith) (omega arith) m) in
      go (mandatory_at (flow s i) j) refl (gone (packet s i j)) refl rest
    where
      go : (b : Bool) → mandatory_at (flow s i) j ≡ b → (d : Bool) → gone (packet s i j) ≡ d →
          losses s gone i (suc j) n ≤ optionals (flow s i).miss (flow s i).among (suc j) n →
          cond d 1 0 + losses s gone i (suc j) n ≤ cond b 0 1 + optionals (flow s i).miss (flow s i).among (suc j) n
      go true m false x r = omega arith
      go true m true x r = absurd (both_ways (gone (packet s i j)) (h j (omega arith) (omega arith) m) x)
      go false m true x r = omega arith
      go false m false x r = omega arith

  -- k in a row lose at most m where no mandatory one is lost
  pub row_few : (gone : Packet → Bool) (j : ℕ) → 1 ≤ j → ((l : ℕ) → j ≤ l → l < j + (flow s i).among → mandatory s (packet s i l) ≡ true → gone (packet s i l) ≡ false) →
      losses s gone i j (flow s i).among ≤ (flow s i).miss
  row_few gone j first h =
      let ff = fs.each i from_one to_last in
      let a = lost_few gone (flow s i).among j h in
      let b = few_optional (flow s i).miss (flow s i).among ff.some_kept ff.few j first in
      omega arith

  not_lost : (in_force : ℕ → List Entry) → ((n : ℕ) → Accepted s (in_force n)) → (up : Packet → Bool) (j : ℕ) → 1 ≤ j → mandatory s (packet s i j) ≡ true → up (packet s i j) ≡ true → lost s in_force up (packet s i j) ≡ false
  not_lost in_force acc up j first m u =
      let p = packet s i j in
      let ours = numbered_packet j first in
      let found = once_in_time s fs in_force acc up p ours (or_left (mandatory s p) _ m) u in
      let ends = ends_by s p found.0 found.1.ends in
      let some_wire : 1 ≤ wire s p = (fits_of s fs p ours).some_wire in
      let at : found.0 < deadline s p = omega arith in
      ap not (seen s in_force up p found.0 found.1 (deadline s p) at)

pub few_lost : FewLost
few_lost s fs in_force acc up i j from_one to_last first turned =
    row_few s fs i from_one to_last (lost s in_force up) j first (λ l a b m. not_lost s fs i from_one to_last in_force acc up l (omega arith) m (turned l a b m))
