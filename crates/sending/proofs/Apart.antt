-- Between cycles the port is empty, whatever turned up.
use Rattle.std.proofs.Common.{◌≡◌, ℕ, zero, suc, ◌+◌, ◌*◌, ◌/◌, ◌%◌, ◌<◌, ◌≤◌, Bool, true, false, cond, ◌&&◌, eqb, leb, List, [], ◌∷◌, Some, None, filter, Option, refl, ap, ◌∙◌, mul-le-mul_right, mod-lt, div-lt_iff_lt-mul, div-add-mod', arith}
use Rattle.std.proofs.lemmas.Bool.{and_parts}
use Rattle.sending.specs.Sheet.{cycle, wire}
use Rattle.sending.specs.Port.{State, Turn, fits_at, gate_at, idle, join, joining, send, serve, ticks}
use Rattle.sending.specs.Cycles.{CyclesApart}
use Rattle.sending.proofs.Line.{Line}
use Rattle.sending.proofs.OneQueue.{is-alone}
use Rattle.sending.proofs.Gated.{held, stays_inside}
use Rattle.sending.proofs.Lagging.{Lag, level, ahead, never_later}
use Rattle.sending.proofs.Cycles.{all_clear, all_fits, all_comes}

lag_none : {P : Type 0} (wire : P → ℕ) (keep : P → Bool) (t : ℕ) (s all : Line P) → Lag wire keep t s all → all.waiting ≡ [] → s.waiting ≡ []
lag_none wire keep t s all (level e f) none = e ∙ ap (filter keep) none
lag_none wire keep t s all (ahead [] last e f) none = let k : filter keep all.waiting ≡ [] = ap (filter keep) none in let z : ◌≡◌ {A = ℕ} 0 1 = cc in absurd (omega arith)
lag_none wire keep t s all (ahead (g ∷ gone) last e f) none = let k : filter keep all.waiting ≡ [] = ap (filter keep) none in let z : ◌≡◌ {A = ℕ} 0 1 = cc in absurd (omega arith)

-- nothing is sent across the end of a cycle
module _ {P : Type 0} (wire : P → ℕ) (far : ℕ) where
  serve_inside : (fits : ℕ → Bool) (t q : ℕ) → ((e : ℕ) → fits e ≡ true → t + e ≤ far) → (s : State P) → s.free ≤ far → (ws : List P) → (serve wire fits t q s ws).after.free ≤ far
  serve_inside fits t q h s l [] = l
  serve_inside fits t q h s l (p ∷ ps) = go (leb s.free t && fits (wire p)) refl
    where
      go : (b : Bool) → (leb s.free t && fits (wire p)) ≡ b → (cond {A = Turn P} b (record { after = record { waiting = λ r. cond (eqb r q) ps (s.waiting r); free = t + wire p }; start = Some p }) (idle s)).after.free ≤ far
      go true e = h (wire p) (and_parts (leb s.free t) (fits (wire p)) e).1
      go false e = l

  send_inside : (fits : ℕ → ℕ → Bool) (t : ℕ) (g : Option ℕ) → ((q e : ℕ) → fits q e ≡ true → t + e ≤ far) → (s : State P) → s.free ≤ far → (send wire fits t g s).after.free ≤ far
  send_inside fits t None h s l = l
  send_inside fits t (Some q) h s l = serve_inside (fits q) t q (h q) s l (s.waiting q)

  ticks_inside : (gate : ℕ → Option ℕ) (fits : ℕ → ℕ → ℕ → Bool) (comes : ℕ → ℕ → List P) → ((t q e : ℕ) → t < far → fits t q e ≡ true → t + e ≤ far) → (t : ℕ) → t ≤ far → (ticks wire gate fits comes t).free ≤ far
  ticks_inside gate fits comes h zero l = omega arith
  ticks_inside gate fits comes h (suc t) l = send_inside (fits t) t (gate t) (λ q e k. h t q e (omega arith) k) (join (comes t) (ticks wire gate fits comes t)) (ticks_inside gate fits comes h t (omega arith))

cycle-end : (c t n e : ℕ) → 0 < c → t < n * c → t % c + e ≤ c → t + e ≤ n * c
cycle-end c t n e pos h l =
    let whole : t / c * c + t % c ≡ t = div-add-mod' t c in
    let m : t / c < n = (div-lt_iff_lt-mul pos).1 h in
    let k = mul-le-mul_right c m in
    omega arith

pub cycles_apart : CyclesApart
cycles_apart s fs in_force acc up n = (
  λ q.
      let same = is-alone (wire s) (gate_at s in_force) (fits_at s in_force) (joining s in_force up) (held s in_force fs.some_time (λ m. (acc m).rules.whole)) q (n * cycle s) in
      let lag = never_later (wire s) (all_fits s fs in_force acc q) up (all_comes s fs in_force acc q) (n * cycle s) in
      same.waits ∙ lag_none (wire s) up (n * cycle s) _ _ lag (all_clear s fs in_force acc q n).nothing_waits,
  ticks_inside (wire s) (n * cycle s) (gate_at s in_force) (fits_at s in_force) (joining s in_force up)
      (λ t q e h f. let w = (acc (t / cycle s)).rules.whole in let m = mod-lt t fs.some_time in let i = stays_inside (in_force (t / cycle s)) q (t % cycle s) e (omega arith) f in cycle-end (cycle s) t n e fs.some_time h (omega arith))
      (n * cycle s) (omega arith),
)
