-- The search refuses rightly. Assumes nothing.
use Rattle.std.proofs.Common.{◌≡◌, ℕ, zero, suc, ◌-◌, ◌<◌, ◌≤◌, Bool, true, false, ltb, List, [], ◌∷◌, ◌++◌, length, Some, None, Ok, Err, Option, Result, sym, refl, ap, subst, ⊎_elim, append_assoc, arith}
use Rattle.std.proofs.lemmas.Bool.{cases_Bool, cond_both}
use Rattle.std.specs.List.{AllByRecursion}
use Rattle.traffic.specs.declared.packet.Job.{Job}
use Rattle.search.specs.declared.window.Window.{Window}
use Rattle.search_laws.specs.Words.{Serving, OnTime}
use Rattle.search.specs.Windows.{end}
use Rattle.search.specs.Drawn.{closed, entry, drawn}
use Rattle.search.specs.Search.{Cycle, most_entries, firsts, next, without, placed_next, and_then, turn, walked, count, admitted, planned_windows}
use Rattle.search.specs.declared.fault.SearchFault.{SearchFault}
use Rattle.search.specs.declared.fault.SearchFault.TheVariants.{EmptySheet, LittleMemory, Late, TooLong}
use Rattle.search_laws.specs.Laws.{In, Given, WalkLaw, LateRightly, TooLongRightly}
use Rattle.search_laws.proofs.Steps.{stopped}
use Rattle.search.proofs.Inserts.{placed-is, placed-err}
use Rattle.search_laws.proofs.Next.{never_idle, next_once}
use Rattle.search_laws.proofs.Turns.{Turns, Homed, homed_without, firsts_differ}
use Rattle.search_laws.proofs.Law.{all_home, from_law, law_turns}

-- one window more: the list up to its start, its entry, and what is left of the cycle
pub drawn_push : (a b : ℕ) (ws : List Window) (w : Window) → drawn a (ws ++ (w ∷ [])) b ≡ drawn a ws w.start ++ (entry w ∷ closed (end w) b [])
drawn_push a b [] w = cond_both (ltb a w.start) (record { gates = 0; interval = w.start - a; flow = 0; number = 0 } ∷ []) [] (λ l. closed a w.start (entry w ∷ closed (end w) b []) ≡ l ++ (entry w ∷ closed (end w) b [])) (λ on. rw on) (λ off. rw off)
drawn_push a b (v ∷ vs) w =
    let ih = drawn_push (end v) b vs w in
    ⊎_elim (λ (on : ltb a v.start ≡ true). rw (on, ih)) (λ (off : ltb a v.start ≡ false). rw (off, ih)) (cases_Bool (ltb a v.start))

-- more windows make no shorter list
short_closed : (a b : ℕ) → length (closed a b []) ≤ 1
short_closed a b = cond_both (ltb a b) (record { gates = 0; interval = b - a; flow = 0; number = 0 } ∷ []) [] (λ l. length l ≤ 1) (λ _. omega arith) (λ _. omega arith)

pub longer : (a b : ℕ) (ys zs : List Window) → length (drawn a ys b) ≤ length (drawn a (ys ++ zs) b)
longer a b [] [] = omega arith
longer a b [] (w ∷ ws) =
    let h = short_closed a b in
    cond_both (ltb a w.start) (record { gates = 0; interval = w.start - a; flow = 0; number = 0 } ∷ (entry w ∷ drawn (end w) ws b)) (entry w ∷ drawn (end w) ws b) (λ l. length (closed a b []) ≤ length l) (λ _. omega arith) (λ _. omega arith)
longer a b (v ∷ vs) zs =
    let ih = longer (end v) b vs zs in
    ⊎_elim (λ (on : ltb a v.start ≡ true). rw on (omega arith)) (λ (off : ltb a v.start ≡ false). rw off (omega arith)) (cases_Bool (ltb a v.start))

-- where a walk that has its windows is refused: never as late, and as too long at a list too long
abbrev Stops : ℕ → List Window → List Window → SearchFault → Type 0
Stops long ws xs EmptySheet = ⊥
Stops long ws xs LittleMemory = ⊥
Stops long ws xs (Late flow number) = ⊥
Stops long ws xs (TooLong flow number) = (ys zs : List Window) × (xs ≡ ys ++ zs) × (most_entries < length (drawn 0 (ws ++ ys) long))

stops_more : (long : ℕ) (ws : List Window) (w : Window) (xs : List Window) (e : SearchFault) → Stops long (ws ++ (w ∷ [])) xs e → Stops long ws (w ∷ xs) e
stops_more long ws w xs EmptySheet s = s
stops_more long ws w xs LittleMemory s = s
stops_more long ws w xs (Late flow number) s = s
stops_more long ws w xs (TooLong flow number) s =
    (w ∷ s.0, s.1, ap (λ (l : List Window). w ∷ l) s.2, let same : drawn 0 ((ws ++ (w ∷ [])) ++ s.0) long ≡ drawn 0 (ws ++ (w ∷ s.0)) long = ap (λ (l : List Window). drawn 0 l long) (append_assoc ws (w ∷ []) s.0) in rw same at s.3)

stops : (before : Job → Job → Bool) (home : ℕ → ℕ) (long : ℕ) → Serving before → (n t : ℕ) (left : ℕ → List Job) (ws xs : List Window) (e : SearchFault) → Homed home left → Turns before t left xs → AllByRecursion OnTime xs →
    walked before long n t left ws ≡ Err e → Stops long ws xs e
stops before home long laws zero t left ws xs e h x o d = let z : ◌≡◌ {A = ℕ} 0 1 = cc in absurd (omega arith)
stops before home long laws (suc n) t left ws xs e h x o d = go (next before t (firsts left 7)) refl d xs x o (stops before home long laws n)
  where
    go : (k : Option Window) → next before t (firsts left 7) ≡ k → turn k ws (λ w. and_then (placed_next long ws w) (walked before long n (end w) (without w.packet.queue left))) ≡ Err e →
        (xs : List Window) → Turns before t left xs → AllByRecursion OnTime xs →
        ((t : ℕ) (left : ℕ → List Job) (ws xs : List Window) (e : SearchFault) → Homed home left → Turns before t left xs → AllByRecursion OnTime xs → walked before long n t left ws ≡ Err e → Stops long ws xs e) →
        Stops long ws xs e
    go None f c xs x o ih = let z : ◌≡◌ {A = ℕ} 0 1 = cc in absurd (omega arith)
    go (Some w) f c [] x o ih =
        let m = never_idle before t (firsts left 7) w laws (firsts_differ home left 7 h) f in
        let P : List Job → Type 0 = λ l. In w.packet l in absurd (subst P x m.among)
    go (Some w) f c (v ∷ vs) x o ih =
        let differ = firsts_differ home left 7 h in
        let m = never_idle before t (firsts left 7) w laws differ f in
        let same : v ≡ w = next_once before t (firsts left 7) v w laws differ x.0 m in
        let P : Window → Type 0 = λ u. Turns before (end u) (without u.packet.queue left) vs in
        let on : OnTime w = subst OnTime same o.0 in
        let due = on.1 in
        let Q : Window → Type 0 = λ u. Stops long ws (u ∷ vs) e in
        let Goes_on = (us : List Window) × (placed_next long ws w ≡ Ok us) × (walked before long n (end w) (without w.packet.queue left) us ≡ Err e) in
        subst Q (sym same)
        (⊎_elim
        (λ (no_place : placed_next long ws w ≡ Err e). ⊎_elim
        (λ (l : (e ≡ Late w.packet.flow w.packet.number) × (w.packet.deadline < end w)). let past = l.1 in absurd (omega arith))
        (λ (l : (e ≡ TooLong w.packet.flow w.packet.number) × (most_entries < length (drawn 0 (ws ++ (w ∷ [])) long))).
        let here : Stops long ws (w ∷ vs) (TooLong w.packet.flow w.packet.number) = (w ∷ [], vs, refl, l.1) in
        subst (Stops long ws (w ∷ vs)) (sym l.0) here)
        (placed-err long ws w e no_place))
        (λ (k : Goes_on).
        let p = placed-is long ws k.0 w k.1 in
        let R : List Window → Type 0 = λ l. Stops long l vs e in
        stops_more long ws w vs e (subst R p.0 (ih (end w) (without w.packet.queue left) k.0 vs e (homed_without home left w.packet.queue h) (subst P same x.1) o.1 k.2)))
        (stopped (placed_next long ws w) (walked before long n (end w) (without w.packet.queue left)) e c))

refused : (before : Job → Job → Bool) (c : Cycle) (e : SearchFault) (ws : List Window) → Serving before → Given c → planned_windows before c ≡ Err e → WalkLaw before c ws → Stops c.long [] ws e
refused before c e ws laws given d g =
    let w = walked before c.long (count c.mandatory 7) 0 c.mandatory [] in
    let Goes_on = (us : List Window) × (w ≡ Ok us) × (◌≡◌ {A = Result (List Window) SearchFault} (Ok (admitted c.long c.optional us)) (Err e)) in
    ⊎_elim
    (λ (f : w ≡ Err e). stops before given.home c.long laws (count c.mandatory 7) 0 c.mandatory [] ws e (all_home c given) (law_turns before laws c.long 0 c.mandatory ws (from_law before c ws given g)) g.on_time f)
    (λ (k : Goes_on). let bad = k.2 in let z : ◌≡◌ {A = ℕ} 0 1 = cc in absurd (omega arith))
    (stopped w (λ us. Ok (admitted c.long c.optional us)) e d)

pub late_rightly : LateRightly
late_rightly before c p ws laws given d g = refused before c (Late p.flow p.number) ws laws given d g

pub too_long_rightly : TooLongRightly
too_long_rightly before c p ws laws given d g =
    let s = refused before c (TooLong p.flow p.number) ws laws given d g in
    let h = longer 0 c.long s.0 s.1 in
    let same : length (drawn 0 ws c.long) ≡ length (drawn 0 (s.0 ++ s.1) c.long) = ap (λ (l : List Window). length (drawn 0 l c.long)) s.2 in
    let big = s.3 in
    omega arith
