-- The promise for any calls and any source in order.
use Rattle.std.proofs.Common.{◌≡◌, ℕ, zero, suc, ◌+◌, ◌*◌, ◌/◌, ◌<◌, ◌≤◌, Bool, true, not, ◌&&◌, ◌⊎◌, List, [], ◌∷◌, ◌++◌, Some, None, Option, sym, refl, ap, ◌∙◌, subst, inl, inr, ⊎_elim, arith}
use Rattle.std.proofs.lemmas.Bool.{and_from, cases_lt, cases_eq, or_left, or_right}
use Rattle.traffic.specs.declared.packet.Packet.{Packet}
use Rattle.traffic.specs.Packets.{Traffic, in_time}
use Rattle.gates.specs.declared.entry.Entry.{Entry}
use Rattle.sending.specs.Sheet.{Fits, OfSheet, cycle, deadline, job_of, mandatory, packet, queue, same, wire}
use Rattle.sending.specs.Rules.{admitted}
use Rattle.sending.specs.Port.{holds, starts}
use Rattle.sending.specs.InTime.{Accepted}
use Rattle.sending.specs.Calls.{Start}
use Rattle.sending.specs.Runs.{Ran, Run, in_force, outcome, started, starts_below}
use Rattle.sending.specs.Promise.{In, PortPunctual, Punctual, QueuesApart, StartedOnce, how_often, sent}
use Rattle.sending.proofs.Packets.{same-is, same_self, fits_of}
use Rattle.sending.proofs.Counting.{one, begun, one_some, one-is}
use Rattle.sending.proofs.Alone.{one_way}
use Rattle.sending.proofs.Cycles.{ends_by, once_in_time}
use Rattle.sending.proofs.Row.{numbered_packet, row_few}
use Rattle.sending.proofs.Bridge.{Tied, outcome_tied}

in_append : (x : Start) (xs ys : List Start) → In x (xs ++ ys) → In x xs ⊎ In x ys
in_append x [] ys h = inr h
in_append x (y ∷ xs) ys h = ⊎_elim (λ e. inl (inl e)) (λ i. ⊎_elim (λ a. inl (inr a)) (λ b. inr b) (in_append x xs ys i)) h

in_left : (x : Start) (xs ys : List Start) → In x xs → In x (xs ++ ys)
in_left x [] ys h = absurd h
in_left x (y ∷ xs) ys h = ⊎_elim (λ e. inl e) (λ i. inr (in_left x xs ys i)) h

in_right : (x : Start) (xs ys : List Start) → In x ys → In x (xs ++ ys)
in_right x [] ys h = h
in_right x (y ∷ xs) ys h = inr (in_right x xs ys h)

in_started : (u t : ℕ) (p : Packet) (o : Option Packet) → In (record { at = t; packet = p }) (started u o) → (u ≡ t) × (o ≡ Some p)
in_started u t p None h = absurd h
in_started u t p (Some r) h = ⊎_elim
    (λ e. (ap (λ (x : Start). x.at) e, ap (λ (x : Start). Some x.packet) e)) (λ i. absurd i) h

module _ (s : Traffic) (lists : ℕ → List Entry) (up : Packet → Bool) where
  -- what is answered is what starts below the clock
  pub in_below : (c t : ℕ) (p : Packet) → In (record { at = t; packet = p }) (starts_below s lists up c) → starts s lists up t ≡ Some p
  in_below zero t p h = absurd h
  in_below (suc c) t p h = ⊎_elim (λ i. in_below c t p i) (λ i. let e = in_started c t p (starts s lists up c) i in subst (λ (u : ℕ). starts s lists up u ≡ Some p) e.0 e.1) (in_append _ (starts_below s lists up c) (started c (starts s lists up c)) h)

  pub below_in : (c t : ℕ) (p : Packet) → t < c → starts s lists up t ≡ Some p → In (record { at = t; packet = p }) (starts_below s lists up c)
  below_in zero t p l e = absurd (omega arith)
  below_in (suc c) t p l e = ⊎_elim
      (λ (k : t ≡ c). in_right _ (starts_below s lists up c) _ (subst (λ (o : Option Packet). In (record { at = t; packet = p }) (started c o)) (sym (subst (λ (u : ℕ). starts s lists up u ≡ Some p) k e)) (inl (λ i. record { at = sym k i; packet = p }))))
      (λ ne. in_left _ (starts_below s lists up c) _ (below_in c t p (omega arith) e))
      (cases_eq t c)

  often_append : (p : Packet) (xs ys : List Start) → how_often p (xs ++ ys) ≡ how_often p xs + how_often p ys
  often_append p [] ys = omega arith
  often_append p (x ∷ xs) ys = let h = often_append p xs ys in omega arith

  often_started : (p : Packet) (t : ℕ) (o : Option Packet) → how_often p (started t o) ≡ one same same-is same_self p o
  often_started p t None = refl
  often_started p t (Some r) = omega arith

  often_begun : (p : Packet) (c : ℕ) → how_often p (starts_below s lists up c) ≡ begun same same-is same_self p (starts s lists up) c
  often_begun p zero = refl
  often_begun p (suc c) = let a = often_append p (starts_below s lists up c) (started c (starts s lists up c)) in let b = often_started p c (starts s lists up c) in let d = often_begun p c in omega arith

module _ (p : Packet) (st : ℕ → Option Packet) (u : ℕ) (there : st u ≡ Some p) (only : (v : ℕ) → st v ≡ Some p → v ≡ u) where
  abbrev many : ℕ → ℕ
  many c = begun same same-is same_self p st c

  other : (v : ℕ) → (v ≡ u → ⊥) → one same same-is same_self p (st v) ≡ 0
  other v ne = ⊎_elim (λ (h : 0 < one same same-is same_self p (st v)). absurd (ne (only v (one_some same same-is same_self p (st v) h)))) (λ (h : one same same-is same_self p (st v) ≤ 0). omega arith) (cases_lt 0 (one same same-is same_self p (st v)))

  none_yet : (c : ℕ) → c ≤ u → many c ≡ 0
  none_yet zero h = refl
  none_yet (suc c) h = let a = none_yet c (omega arith) in let b = other c (λ e. omega arith) in omega arith

  pub exactly_once : (c : ℕ) → u < c → many c ≡ 1
  exactly_once zero h = absurd (omega arith)
  exactly_once (suc c) h = ⊎_elim
      (λ (e : c ≡ u). let a = none_yet c (omega arith) in let b : one same same-is same_self p (st c) ≡ 1 = one-is same same-is same_self p (st c) (subst (λ (v : ℕ). st v ≡ Some p) (sym e) there) in omega arith)
      (λ ne. let a = exactly_once c (omega arith) in let b = other c ne in omega arith)
      (cases_eq c u)

seen : (s : Traffic) (p : Packet) (t : ℕ) → in_time (job_of s p) t ≡ true → (xs : List Start) → In (record { at = t; packet = p }) xs → sent s xs p ≡ true
seen s p t ends [] h = absurd h
seen s p t ends (x ∷ xs) h = ⊎_elim
    (λ (e : x ≡ record { at = t; packet = p }).
    or_left _ (sent s xs p) (subst (λ (y : Start). (same p y.packet && in_time (job_of s p) y.at) ≡ true) (sym e) (and_from _ _ (same_self p) ends)))
    (λ i. or_right (same p x.packet && in_time (job_of s p) x.at) (sent s xs p) (seen s p t ends xs i)) h

module _ (s : Traffic) (fs : Fits s) (up : Packet → Bool) (r : Ran) (accepted : (n : ℕ) → Accepted s (in_force s r.overs n)) (exact : r.answered ≡ starts_below s (in_force s r.overs) up r.port.clock) where
  pub in_time_once : (p : Packet) → OfSheet s p → up p ≡ true → admitted s (in_force s r.overs (p.arrival / cycle s)) p ≡ true → deadline s p ≤ r.port.clock → StartedOnce s r.answered p
  in_time_once p ours turned let_in reached =
      let lists = in_force s r.overs in
      let found = once_in_time s fs lists accepted up p ours let_in turned in
      let t = found.0 in
      let ends = ends_by s p t found.1.ends in
      let some_wire : 1 ≤ wire s p = (fits_of s fs p ours).some_wire in
      let below : t < r.port.clock = omega arith in
      record {
        once = ap (how_often p) exact ∙ often_begun s lists up p r.port.clock ∙ exactly_once p (starts s lists up) t found.1.there found.2 r.port.clock below;
        when = t;
        answered = subst (In (record { at = t; packet = p })) (sym exact) (below_in s lists up r.port.clock t p below found.1.there);
        arrived = found.1.arrived;
        ends = found.1.ends;
      }

punctual : (s : Traffic) → Fits s → (source : List Packet) (r : Ran) → Tied s source r → Punctual s source r
punctual s fs source r k = record {
  in_time = in_time_once s fs (holds source) r k.lawful.accepted k.answers;
  exact = k.answers;
  few_lost = λ i j from_one to_last first reached turned.
      row_few s fs i from_one to_last (λ p. not (sent s r.answered p)) j first
      (λ n a b m.
      let p = packet s i n in
      let got = in_time_once s fs (holds source) r k.lawful.accepted k.answers p (numbered_packet s fs i from_one to_last n (omega arith)) (turned n a b m) (or_left (mandatory s p) _ m) (reached n a b) in
      ap not (seen s p got.when got.ends r.answered got.answered));
}

pub port_punctual : PortPunctual
port_punctual s fs r = punctual s fs r.source (outcome s r) (outcome_tied s fs r)

half : (s : Traffic) → Fits s → (r r' : Run s) →
    (p : Packet) → ((x : Packet) → OfSheet s x → queue s x ≡ queue s p → holds r.source x ≡ holds r'.source x) →
    ((n : ℕ) → n * cycle s < (outcome s r).port.clock → n * cycle s < (outcome s r').port.clock → in_force s (outcome s r).overs n ≡ in_force s (outcome s r').overs n) →
    (t : ℕ) → t < (outcome s r).port.clock → t < (outcome s r').port.clock →
    In (record { at = t; packet = p }) (outcome s r).answered → In (record { at = t; packet = p }) (outcome s r').answered
half s fs r r' p turned lists t tc tc' h =
    let k = outcome_tied s fs r in
    let k' = outcome_tied s fs r' in
    let o = outcome s r in
    let o' = outcome s r' in
    let e : starts s (in_force s o.overs) (holds r.source) t ≡ Some p = in_below s (in_force s o.overs) (holds r.source) o.port.clock t p (subst (In (record { at = t; packet = p })) k.answers h) in
    let e' : starts s (in_force s o'.overs) (holds r'.source) t ≡ Some p = one_way s fs.some_time (in_force s o.overs) (in_force s o'.overs) (λ n. (k.lawful.accepted n).rules.whole) (λ n. (k'.lawful.accepted n).rules.whole) (holds r.source) (holds r'.source) (suc t) (λ n l. lists n (omega arith) (omega arith)) t (omega arith) p turned e in
    subst (In (record { at = t; packet = p })) (sym k'.answers) (below_in s (in_force s o'.overs) (holds r'.source) o'.port.clock t p tc' e')

pub queues_apart : QueuesApart
queues_apart s fs r r' q turned lists t tc tc' p own = (
  half s fs r r' p (λ x o e. turned x o (e ∙ own)) lists t tc tc',
  half s fs r' r p (λ x o e. sym (turned x o (e ∙ own))) (λ n a b. sym (lists n b a)) t tc' tc,
)
