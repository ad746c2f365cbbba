-- A window among others that stand one after the other. Assumes nothing.
use Rattle.std.proofs.Common.{◌≡◌, ℕ, zero, suc, ◌+◌, ◌<◌, ◌≤◌, true, false, not, ltb, List, [], ◌∷◌, ◌++◌, length, take, drop, Ok, Err, Result, ◌⊎◌, sym, refl, inl, inr, ap, ◌∙◌, subst, ⊎_elim, arith}
use Rattle.std.specs.List.{AllByRecursion, HoldsAt}
use Rattle.std.proofs.ByRecursion.{All-append, All-take, All-drop}
use Rattle.std.proofs.lemmas.List.{length-take-le, length-append, length-drop}
use Rattle.std.proofs.lemmas.Bool.{cases_Bool, and_from, le-ltb, lt-ltb, ltb-true, ltb-false}
use Rattle.std.proofs.lemmas.Bool.Decides.{nat_tests}
use Rattle.table.specs.Order.{in_order, none_before, placed, placed_last}
use Rattle.table.specs.Calls.{Put, PlaceFor}
use Rattle.table.proofs.Places.{placed_last-is}
use Rattle.search.specs.declared.window.Window.{Window}
use Rattle.search.specs.Windows.{Fits, Apart, end, last_end, first_start, latest, starts_before}
use Rattle.search.specs.Drawn.{drawn, entry, inserted_at}
use Rattle.search.specs.declared.fault.SearchFault.{SearchFault}
use Rattle.search.specs.declared.fault.SearchFault.TheVariants.{Late, TooLong}
use Rattle.search.specs.Search.{most_entries, inserted, placed_next}
use Rattle.search.specs.Schedules.{Tallied, GoesAt}
use Rattle.search.proofs.Entries.{length-closed}

-- the last of them ends after the first instant, and by the last one
pub apart_onward : (a b : ℕ) (ws : List Window) → Apart a ws b → a ≤ last_end a ws
apart_onward a b [] h = omega arith
apart_onward a b (w ∷ ws) h = let rest = apart_onward (end w) b ws h.1 in let here = h.0 in omega arith

pub apart_ends : (a b : ℕ) (ws : List Window) → Apart a ws b → last_end a ws ≤ b
apart_ends a b [] h = h
apart_ends a b (w ∷ ws) h = apart_ends (end w) b ws h.1

-- the first windows of such are such
pub apart_take : (a b i : ℕ) (ws : List Window) → Apart a ws b → Apart a (take i ws) b
apart_take a b zero ws h = let on = apart_onward a b ws h in let to = apart_ends a b ws h in omega arith
apart_take a b (suc i) [] h = h
apart_take a b (suc i) (w ∷ ws) h = (h.0, apart_take (end w) b i ws h.1)

none_sooner : (v : Window) (a b : ℕ) (ws : List Window) → v.start ≤ a → Apart a ws b → none_before starts_before v ws ≡ true
none_sooner v a b [] low h = refl
none_sooner v a b (w ∷ ws) low h =
    let here = h.0 in
    and_from (not (ltb w.start v.start)) (none_before starts_before v ws)
    (ap not (le-ltb w.start v.start (omega arith)))
    (none_sooner v (end w) b ws (omega arith) h.1)

-- they stand in order
pub apart_ordered : (a b : ℕ) (ws : List Window) → Apart a ws b → in_order starts_before ws ≡ true
apart_ordered a b [] h = refl
apart_ordered a b (w ∷ ws) h = and_from (none_before starts_before w ws) (in_order starts_before ws) (none_sooner w (end w) b ws (omega arith) h.1) (apart_ordered (end w) b ws h.1)

-- a window goes where those in front end before it and those behind start after it
pub placed-there : (a b i : ℕ) (w : Window) (ws : List Window) → Apart a ws b → last_end a (take i ws) ≤ w.start → w.start < first_start (drop i ws) (w.start + 1) → placed starts_before w ws ≡ inserted_at i w ws
placed-there a b zero w [] h front back = refl
placed-there a b zero w (v ∷ vs) h front back = rw (lt-ltb w.start v.start back)
placed-there a b (suc i) w [] h front back = refl
placed-there a b (suc i) w (v ∷ vs) h front back =
    let on = apart_onward (end v) b (take i vs) (apart_take (end v) b i vs h.1) in
    let late : ltb w.start v.start ≡ false = le-ltb w.start v.start (omega arith) in
    rw late (ap (λ (zs : List Window). v ∷ zs) (placed-there (end v) b i w vs h.1 front back))

-- those behind its place start after it
later_each : (a b : ℕ) (w : Window) (ws : List Window) → Apart a ws b → w.start < a → (k : ℕ) → k < length ws → HoldsAt (λ v. starts_before w v ≡ true) ws k
later_each a b w [] h low k u = absurd (omega arith)
later_each a b w (v ∷ vs) h low zero u = let here = h.0 in λ d. lt-ltb w.start v.start (omega arith)
later_each a b w (v ∷ vs) h low (suc k) u = let here = h.0 in later_each (end v) b w vs h.1 (omega arith) k (omega arith)

leads_place : (a b i : ℕ) (w : Window) (ws : List Window) → Apart a ws b → w.start < first_start (drop i ws) (w.start + 1) → (k : ℕ) → i ≤ k → k < length ws → HoldsAt (λ v. starts_before w v ≡ true) ws k
leads_place a b i w [] h back k low u = absurd (omega arith)
leads_place a b zero w (v ∷ vs) h back zero low u = λ d. lt-ltb w.start v.start back
leads_place a b zero w (v ∷ vs) h back (suc k) low u = later_each (end v) b w vs h.1 (omega arith) k (omega arith)
leads_place a b (suc i) w (v ∷ vs) h back zero low u = absurd (omega arith)
leads_place a b (suc i) w (v ∷ vs) h back (suc k) low u = leads_place (end v) b i w vs h.1 back k (omega arith) (omega arith)

-- the one in front of its place does not
follows_place : (a b i : ℕ) (w : Window) (ws : List Window) → Apart a ws b → i ≤ length ws → last_end a (take i ws) ≤ w.start → (k : ℕ) → k + 1 ≡ i → HoldsAt (λ v. starts_before w v ≡ false) ws k
follows_place a b zero w ws h within front k e = absurd (omega arith)
follows_place a b (suc i) w [] h within front k e = absurd (omega arith)
follows_place a b (suc i) w (v ∷ vs) h within front zero e =
    let on = apart_onward (end v) b (take i vs) (apart_take (end v) b i vs h.1) in
    λ d. le-ltb w.start v.start (omega arith)
follows_place a b (suc i) w (v ∷ vs) h within front (suc k) e = follows_place (end v) b i w vs h.1 (omega arith) front k (omega arith)

window_asym : (x y : Window) → starts_before x y ≡ true → starts_before y x ≡ false
window_asym x y h = grind (arith, nat_tests)

window_behind : (x y z : Window) → starts_before y x ≡ false → starts_before z y ≡ false → starts_before z x ≡ false
window_behind x y z h k = grind (arith, nat_tests)

pub placed_last-there : (a b i : ℕ) (w : Window) (ws : List Window) → Apart a ws b → last_end a (take i ws) ≤ w.start → w.start < first_start (drop i ws) (w.start + 1) → placed_last starts_before w ws ≡ inserted_at i w ws
placed_last-there a b i w ws h front back = placed_last-is window_asym window_behind w ws (apart_ordered a b ws h) ∙ placed-there a b i w ws h front back

pub apart_inserted : (a b i : ℕ) (w : Window) (ws : List Window) → Apart a ws b → last_end a (take i ws) ≤ w.start → end w ≤ first_start (drop i ws) b → Apart a (inserted_at i w ws) b
apart_inserted a b zero w [] h front back = (front, back)
apart_inserted a b zero w (v ∷ vs) h front back = (front, (back, h.1))
apart_inserted a b (suc i) w [] h front back = (front, back)
apart_inserted a b (suc i) w (v ∷ vs) h front back = (h.0, apart_inserted (end v) b i w vs h.1 front back)

pub all_inserted : (P : Window → Type 0) (i : ℕ) (w : Window) (ws : List Window) → P w → AllByRecursion P ws → AllByRecursion P (inserted_at i w ws)
all_inserted P i w ws p ps = All-append P (take i ws) (w ∷ drop i ws) (All-take P i ws ps) (p, All-drop P i ws ps)

pub length-inserted_at : (i : ℕ) (w : Window) (ws : List Window) → i ≤ length ws → length (inserted_at i w ws) ≡ length ws + 1
length-inserted_at i w ws h =
    let front = length-take-le i ws h in
    let back = length-drop i ws in
    let all = length-append (take i ws) (w ∷ drop i ws) in
    omega arith

-- each window has an entry
pub fewer_windows : (a b : ℕ) (ws : List Window) → length ws ≤ length (drawn a ws b)
fewer_windows a b [] = omega arith
fewer_windows a b (w ∷ ws) =
    let rest = fewer_windows (end w) b ws in
    let here = length-closed a w.start (entry w ∷ drawn (end w) ws b) in
    omega arith

-- a later start than the window's end is later than its start
pub start_before : (w : Window) (ws : List Window) → 0 < w.packet.wire → end w ≤ first_start ws latest → w.start < first_start ws (w.start + 1)
start_before w [] some h = omega arith
start_before w (v ∷ vs) some h = omega arith

pub goes_there : (i : ℕ) (w : Window) (ws : List Window) → Apart 0 ws latest → GoesAt i w ws → inserted w ws ≡ inserted_at i w ws
goes_there i w ws apart goes = placed-there 0 latest i w ws apart goes.front (start_before w (drop i ws) goes.fits.some_wire goes.back)

-- the place that a window goes to is its place in the table
pub goes_place : (i : ℕ) (w : Window) (ws : List Window) → Apart 0 ws latest → GoesAt i w ws → PlaceFor starts_before w ws i
goes_place i w ws apart goes = record {
  within = goes.within;
  follows = follows_place 0 latest i w ws apart goes.within goes.front;
  leads = leads_place 0 latest i w ws apart (start_before w (drop i ws) goes.fits.some_wire goes.back);
}

-- what is known of the memory after one window more
pub inserted_tally : (long i e more n entries : ℕ) (ms ns : List Window) (w : Window) →
    Tallied long ms n entries → GoesAt i w (take n ms) →
    e ≡ length (drawn 0 (inserted_at i w (take n ms)) long) → e ≤ most_entries → length ns ≡ length ms →
    Put starts_before w n ms ns more →
    (take more ns ≡ inserted_at i w (take n ms)) × Tallied long ns more e
inserted_tally long i e more n entries ms ns w ok goes count few same put =
    let ws = take n ms in
    let is : take more ns ≡ inserted_at i w ws =
    ap (λ (k : ℕ). take k ns) put.count ∙ put.holds ∙ placed_last-there 0 latest i w ws ok.apart goes.front (start_before w (drop i ws) goes.fits.some_wire goes.back) in
    let room = put.room in
    let next = put.count in
    let early = goes.fits.early in
    let in_time = goes.in_time in
    let memory = ok.memory in
    let one : Fits w = record { early = omega arith; queued = goes.fits.queued; numbered = goes.fits.numbered } in (
      is,
      record {
        memory = omega arith;
        short = ok.short;
        within = omega arith;
        fit = subst (AllByRecursion Fits) (sym is) (all_inserted Fits i w ws one ok.fit);
        apart = subst (λ (zs : List Window). Apart 0 zs latest) (sym is) (apart_inserted 0 latest i w ws ok.apart goes.front goes.back);
        count = count ∙ ap (λ (zs : List Window). length (drawn 0 zs long)) (sym is);
        few = few;
      },
    )

-- a window that is placed stands at the end, in time, and the list stays within its limit
pub placed-is : (long : ℕ) (ws vs : List Window) (w : Window) → placed_next long ws w ≡ Ok vs → (vs ≡ ws ++ (w ∷ [])) × (end w ≤ w.packet.deadline) × (length (drawn 0 (ws ++ (w ∷ [])) long) ≤ most_entries)
placed-is long ws vs w e =
    ⊎_elim
    (λ (on : ltb w.packet.deadline (end w) ≡ true). let x : ◌≡◌ {A = Result (List Window) SearchFault} (Err (Late w.packet.flow w.packet.number)) (Ok vs) = rw on at e in let z : ◌≡◌ {A = ℕ} 0 1 = cc in absurd (omega arith))
    (λ (off : ltb w.packet.deadline (end w) ≡ false).
    let e2 = rw off at e in
    ⊎_elim
    (λ (on : ltb most_entries (length (drawn 0 (ws ++ (w ∷ [])) long)) ≡ true). let x : ◌≡◌ {A = Result (List Window) SearchFault} (Err (TooLong w.packet.flow w.packet.number)) (Ok vs) = rw on at e2 in let z : ◌≡◌ {A = ℕ} 0 1 = cc in absurd (omega arith))
    (λ (no_more : ltb most_entries (length (drawn 0 (ws ++ (w ∷ [])) long)) ≡ false).
    let x : ◌≡◌ {A = Result (List Window) SearchFault} (Ok (ws ++ (w ∷ []))) (Ok vs) = rw no_more at e2 in
    let same : ws ++ (w ∷ []) ≡ vs = cc in
    (sym same, ltb-false _ _ off, ltb-false most_entries (length (drawn 0 (ws ++ (w ∷ [])) long)) no_more))
    (cases_Bool (ltb most_entries (length (drawn 0 (ws ++ (w ∷ [])) long)))))
    (cases_Bool (ltb w.packet.deadline (end w)))

-- why one is not placed
pub placed-err : (long : ℕ) (ws : List Window) (w : Window) (d : SearchFault) → placed_next long ws w ≡ Err d →
    ((d ≡ Late w.packet.flow w.packet.number) × (w.packet.deadline < end w)) ⊎ ((d ≡ TooLong w.packet.flow w.packet.number) × (most_entries < length (drawn 0 (ws ++ (w ∷ [])) long)))
placed-err long ws w d e =
    ⊎_elim
    (λ (on : ltb w.packet.deadline (end w) ≡ true). let x : ◌≡◌ {A = Result (List Window) SearchFault} (Err (Late w.packet.flow w.packet.number)) (Err d) = rw on at e in let same : d ≡ Late w.packet.flow w.packet.number = cc in inl (same, ltb-true _ _ on))
    (λ (off : ltb w.packet.deadline (end w) ≡ false).
    let e2 = rw off at e in
    ⊎_elim
    (λ (on : ltb most_entries (length (drawn 0 (ws ++ (w ∷ [])) long)) ≡ true). let x : ◌≡◌ {A = Result (List Window) SearchFault} (Err (TooLong w.packet.flow w.packet.number)) (Err d) = rw on at e2 in let same : d ≡ TooLong w.packet.flow w.packet.number = cc in inr (same, ltb-true most_entries (length (drawn 0 (ws ++ (w ∷ [])) long)) on))
    (λ (no_more : ltb most_entries (length (drawn 0 (ws ++ (w ∷ [])) long)) ≡ false). let x : ◌≡◌ {A = Result (List Window) SearchFault} (Ok (ws ++ (w ∷ []))) (Err d) = rw no_more at e2 in let z : ◌≡◌ {A = ℕ} 0 1 = cc in absurd (omega arith))
    (cases_Bool (ltb most_entries (length (drawn 0 (ws ++ (w ∷ [])) long)))))
    (cases_Bool (ltb w.packet.deadline (end w)))
