-- No list has two verdicts.
use Rattle.std.proofs.Common.{◌≡◌, ℕ, ◌<◌, List, Some, None, Option, sym, refl, ap, ◌∙◌, ⊎_elim, arith}
use Rattle.traffic.specs.declared.packet.Packet.{Packet}
use Rattle.traffic.specs.Packets.{Traffic}
use Rattle.gates.specs.declared.entry.Entry.{Entry}
use Rattle.sending.specs.Sheet.{Fits, deadline, flow, number_at, packet}
use Rattle.sending.specs.Rules.{Broken, first_broken}
use Rattle.sending.specs.InTime.{Accepted}
use Rattle.sending.specs.Verdict.{Late, FirstLate, broken, not_in_time, OneVerdict}
use Rattle.sending.proofs.Keeping.{rules_agree}
use Rattle.sending.proofs.Packets.{number_is}

no_both : (b : Broken) (o : Option Broken) → o ≡ None → o ≡ Some b → ⊥
no_both b o e f = let z : ◌≡◌ {A = ℕ} 0 1 = cc in omega arith

-- an accepted list has no late packet
none_late : (s : Traffic) (es : List Entry) (p : Packet) → Accepted s es → Late s es p → ⊥
none_late s es p a l = let found = a.in_time p l.there in l.never found.0 found.1

-- the first late packet is one
module _ (s : Traffic) (fs : Fits s) (es : List Entry) where
  same-deadline : (p r : Packet) → FirstLate s es p → FirstLate s es r → (deadline s p ≡ deadline s r) × (p.flow ≡ r.flow)
  same-deadline p r a b = ⊎_elim
      (λ (l : deadline s p < deadline s r). ⊎_elim (λ (k : deadline s r < deadline s p). absurd (omega arith)) (λ k. let e = k.0 in absurd (omega arith)) (b.least p a.late))
      (λ e. let same = e.0 in let below = e.1 in ⊎_elim (λ (k : deadline s r < deadline s p). absurd (omega arith)) (λ k. let above = k.1 in (same, omega arith)) (b.least p a.late))
      (a.least r b.late)

  same_late : (i n j m : ℕ) → FirstLate s es (packet s i n) → FirstLate s es (packet s j m) → (i ≡ j) × (n ≡ m)
  same_late i n j m a b =
      let both = same-deadline (packet s i n) (packet s j m) a b in
      let flows : i ≡ j = both.1 in
      let times : deadline s (packet s i n) ≡ deadline s (packet s j m) = both.0 in
      let due : (flow s i).deadline ≡ (flow s j).deadline = ap (λ (k : ℕ). (flow s k).deadline) flows in
      let arrive : (packet s i n).arrival ≡ (packet s j m).arrival = omega arith in
      let first = number_is s fs (packet s i n) a.late.there.ours in
      let second = number_is s fs (packet s j m) b.late.there.ours in
      (flows, sym first ∙ (λ k. number_at (flow s (flows k)) (arrive k)) ∙ second)

pub one_verdict : OneVerdict
one_verdict s fs es None None a b = refl
one_verdict s fs es None (Some (broken x)) a b = absurd (no_both x (first_broken s es) ((rules_agree s es).1 a.rules) b)
one_verdict s fs es None (Some (not_in_time i n)) a b = absurd (none_late s es (packet s i n) a b.1.late)
one_verdict s fs es (Some (broken x)) None a b = absurd (no_both x (first_broken s es) ((rules_agree s es).1 b.rules) a)
one_verdict s fs es (Some (broken x)) (Some (broken y)) a b = let e : Some x ≡ Some y = sym a ∙ b in let same : x ≡ y = cc in ap (λ (z : Broken). Some (broken z)) same
one_verdict s fs es (Some (broken x)) (Some (not_in_time i n)) a b = absurd (no_both x (first_broken s es) b.0 a)
one_verdict s fs es (Some (not_in_time i n)) None a b = absurd (none_late s es (packet s i n) b a.1.late)
one_verdict s fs es (Some (not_in_time i n)) (Some (broken y)) a b = absurd (no_both y (first_broken s es) a.0 b)
one_verdict s fs es (Some (not_in_time i n)) (Some (not_in_time j m)) a b = let same = same_late s fs es i n j m a.1 b.1 in λ k. Some (not_in_time (same.0 k) (same.1 k))
