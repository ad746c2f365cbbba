-- The laws, of a search on a sheet. Assumes nothing.
use Rattle.std.proofs.Common.{◌≡◌, ℕ, zero, suc, ◌-◌, ◌<◌, ◌≤◌, Bool, true, false, ◌||◌, eqb, ltb, List, [], length, take, replicate, Ok, Err, Result, sym, refl, ap, ◌∙◌, subst, ⊎_elim, arith, MatchResult}
use Rattle.std.proofs.lemmas.List.{take_at}
use Rattle.std.proofs.lemmas.Bool.{cases_Bool}
use Rattle.traffic.specs.declared.packet.Job.{Job}
use Rattle.gates.specs.declared.entry.Entry.{Entry}
use Rattle.sheet.specs.declared.sheet.Sheet.{Sheet}
use Rattle.sheet.specs.Contents.{traffic_of}
use Rattle.search.specs.declared.window.Window.{Window}
use Rattle.search.specs.declared.fault.SearchFault.{SearchFault}
use Rattle.search.specs.declared.fault.SearchFault.TheVariants.{EmptySheet, LittleMemory, Late, TooLong}
use Rattle.search.specs.Drawn.{drawn}
use Rattle.search.specs.Memory.{no_entry, found, answer_of, list_after}
use Rattle.search.specs.Search.{most_entries, and_then, admitted, planned_windows, planned_list}
use Rattle.coming.specs.Packets.{packets_before}
use Rattle.search.specs.Packets.{cycle_packets}
use Rattle.search_laws.specs.Words.{Serving}
use Rattle.search_laws.specs.Sheets.{mandatory_packets, served_cycle, Lawful, Rightly}
use Rattle.search_laws.proofs.Steps.{went_on}
use Rattle.search.proofs.Walking.{walked_like}
use Rattle.search_laws.proofs.Admit.{windows_fit, rules_hold}
use Rattle.search_laws.proofs.Once.{plan_lawful}
use Rattle.search_laws.proofs.Refusals.{late_rightly, too_long_rightly}
use Rattle.search_laws.proofs.Cycles.{given_of}

-- queue 0 plays no part in the walk
planned_same : (b : Job → Job → Bool) (s : Sheet) → planned_windows b (cycle_packets s) ≡ planned_windows b (served_cycle s)
planned_same b s =
    let t = traffic_of s in
    let all : ℕ → List Job = λ q. packets_before t q s.cycle in
    let like : (q : ℕ) → 0 < q → q ≤ 7 → all q ≡ mandatory_packets t s.cycle q = same t s in
    ap (λ (r : Result (List Window) SearchFault). and_then r (λ ws. Ok (admitted s.cycle (packets_before t 0 s.cycle) ws)))
    (walked_like b s.cycle 0 all (mandatory_packets t s.cycle) [] like)
  where
    same : (t : _) (s : Sheet) (q : ℕ) → 0 < q → q ≤ 7 → packets_before t q s.cycle ≡ mandatory_packets t s.cycle q
    same t s zero h k = absurd (omega arith)
    same t s (suc q) h k = refl

pub lawful : (b : Job → Job → Bool) (s : Sheet) (list : List Entry) → Serving b → planned_list b (cycle_packets s) ≡ Ok list → Lawful b s list
lawful b s list laws e =
    let c = served_cycle s in
    let given = given_of s in
    let moved : planned_list b c ≡ Ok list = sym (ap (λ (r : Result (List Window) SearchFault). and_then r (λ ws. Ok (drawn 0 ws s.cycle))) (planned_same b s)) ∙ e in
    let on = went_on (planned_windows b c) (λ ws. Ok (drawn 0 ws s.cycle)) list moved in
    let ws = on.0 in
    let is : Ok (drawn 0 ws s.cycle) ≡ Ok list = on.2 in
    let same : list ≡ drawn 0 ws s.cycle = cc in
    record {
      windows = ws;
      drawn_from = same;
      fit = windows_fit b c ws given on.1;
      law = plan_lawful b c ws laws given on.1;
      rules = rules_hold b c list given moved;
    }

pub rightly : (b : Job → Job → Bool) (s : Sheet) (e : SearchFault) → Serving b → planned_list b (cycle_packets s) ≡ Err e → Rightly b s e
rightly b s e laws h =
    let c = served_cycle s in
    let moved : planned_list b c ≡ Err e = sym (ap (λ (r : Result (List Window) SearchFault). and_then r (λ ws. Ok (drawn 0 ws s.cycle))) (planned_same b s)) ∙ h in
    go e (stop (planned_windows b c) refl moved)
  where
    stop : (r : Result (List Window) SearchFault) → planned_windows b (served_cycle s) ≡ r → and_then r (λ ws. Ok (drawn 0 ws s.cycle)) ≡ Err e → planned_windows b (served_cycle s) ≡ Err e
    stop (Ok ws) is k = let bad : ◌≡◌ {A = ℕ} 0 1 = cc in absurd (omega arith)
    stop (Err x) is k = let same : x ≡ e = cc in is ∙ ap Err same

    go : (e : SearchFault) → planned_windows b (served_cycle s) ≡ Err e → Rightly b s e
    go EmptySheet k = tt
    go LittleMemory k = tt
    go (Late flow number) k = λ ws law. late_rightly b (served_cycle s) (record { flow = flow; number = number; queue = 0; arrival = 0; deadline = 0; wire = 0; weight = 0 }) ws laws (given_of s) k law
    go (TooLong flow number) k = λ ws law. too_long_rightly b (served_cycle s) (record { flow = flow; number = number; queue = 0; arrival = 0; deadline = 0; wire = 0; weight = 0 }) ws laws (given_of s) k law

-- a found list is the planned one
found-list : (b : Job → Job → Bool) (s : Sheet) (entries windows : ℕ) (list : List Entry) → found b s entries windows ≡ Ok list → planned_list b (cycle_packets s) ≡ Ok list
found-list b s entries windows list e =
    ⊎_elim
    (λ (on : eqb (length (traffic_of s).flows) 0 ≡ true). let z : Err EmptySheet ≡ Ok list = rw on at e in let bad : ◌≡◌ {A = ℕ} 0 1 = cc in absurd (omega arith))
    (λ (off : eqb (length (traffic_of s).flows) 0 ≡ false).
    let rest = rw off at e in
    ⊎_elim
    (λ (on : (ltb entries most_entries || ltb windows most_entries) ≡ true). let z : Err LittleMemory ≡ Ok list = rw on at rest in let bad : ◌≡◌ {A = ℕ} 0 1 = cc in absurd (omega arith))
    (λ (no_less : (ltb entries most_entries || ltb windows most_entries) ≡ false). rw no_less at rest)
    (cases_Bool (ltb entries most_entries || ltb windows most_entries)))
    (cases_Bool (eqb (length (traffic_of s).flows) 0))

found_fault : (b : Job → Job → Bool) (s : Sheet) (entries windows : ℕ) (e : SearchFault) → Serving b → found b s entries windows ≡ Err e → Rightly b s e
found_fault b s entries windows e laws h =
    ⊎_elim
    (λ (on : eqb (length (traffic_of s).flows) 0 ≡ true). let z : ◌≡◌ {A = Result (List Entry) SearchFault} (Err EmptySheet) (Err e) = rw on at h in let same : EmptySheet ≡ e = cc in subst (Rightly b s) same tt)
    (λ (off : eqb (length (traffic_of s).flows) 0 ≡ false).
    let rest = rw off at h in
    ⊎_elim
    (λ (on : (ltb entries most_entries || ltb windows most_entries) ≡ true). let z : ◌≡◌ {A = Result (List Entry) SearchFault} (Err LittleMemory) (Err e) = rw on at rest in let same : LittleMemory ≡ e = cc in subst (Rightly b s) same tt)
    (λ (no_less : (ltb entries most_entries || ltb windows most_entries) ≡ false). rightly b s e laws (rw no_less at rest))
    (cases_Bool (ltb entries most_entries || ltb windows most_entries)))
    (cases_Bool (eqb (length (traffic_of s).flows) 0))

-- what a search answers and leaves is lawful
pub outcome_law : (b : Job → Job → Bool) (s : Sheet) (entries windows : ℕ) (old after : List Entry) (r : Result ℕ SearchFault) → Serving b →
    r ≡ answer_of (found b s entries windows) → after ≡ list_after (found b s entries windows) old → MatchResult r (λ n. Lawful b s (take n after)) (Rightly b s)
outcome_law b s entries windows old after r laws answer memory = go (found b s entries windows) refl answer memory
  where
    go : (f : Result (List Entry) SearchFault) → found b s entries windows ≡ f → r ≡ answer_of f → after ≡ list_after f old → MatchResult r (λ n. Lawful b s (take n after)) (Rightly b s)
    go (Ok list) is a m =
        let front : take (length list) after ≡ list = ap (take (length list)) m ∙ take_at list (replicate (length old - length list) no_entry) (length list) refl in
        subst (λ (o : Result ℕ SearchFault). MatchResult o (λ n. Lawful b s (take n after)) (Rightly b s)) (sym a)
        (subst (Lawful b s) (sym front) (lawful b s list laws (found-list b s entries windows list is)))
    go (Err e) is a m =
        subst (λ (o : Result ℕ SearchFault). MatchResult o (λ n. Lawful b s (take n after)) (Rightly b s)) (sym a) (found_fault b s entries windows e laws is)
