-- The trial of the optional packets. Assumes nothing.
use Rattle.std.proofs.Common.{◌≡◌, ℕ, ◌<◌, ◌≤◌, max, Bool, true, false, eqb, ltb, List, [], ◌∷◌, ◌++◌, length, Ok, filter, sym, refl, ap, ◌∙◌, subst, ⊎_elim, append_assoc, append-nil, arith}
use Rattle.std.proofs.lemmas.Bool.{cases_Bool, cond_both, both_ways, and_parts, eq-eqb, ne_eqb, leb-true, ltb-true, ltb-false}
use Rattle.std.proofs.ByRecursion.{All-weaker}
use Rattle.std.specs.List.{AllByRecursion}
use Rattle.traffic.specs.declared.packet.Job.{Job}
use Rattle.search.specs.declared.window.Window.{Window}
use Rattle.search.specs.Windows.{end, Apart}
use Rattle.search_laws.specs.Words.{packets, windows_of, OnTime}
use Rattle.gates.specs.declared.entry.Entry.{Entry}
use Rattle.search.specs.Drawn.{drawn}
use Rattle.search.specs.Search.{Cycle, most_entries, walked, count, admitted_end, trial, inserted, admissible, admitted, planned_windows, planned_list}
use Rattle.search_laws.specs.Laws.{WaitsIn, Given, Part, none, takes, skips, Clear, Windows, WindowsFit, Rules, RulesHold, NamesOneOf}
use Rattle.search_laws.proofs.Lists.{in_part, distinct_part, all_both, apart_after, packets-append}
use Rattle.search_laws.proofs.Steps.{went_on}
use Rattle.search_laws.proofs.Room.{least-room}
use Rattle.search_laws.proofs.Gate.{whole-drawn, sound_drawn, some_entry}
use Rattle.search_laws.proofs.Names.{names-drawn, once_drawn}
use Rattle.search_laws.proofs.Walk.{Fine, Walked, walk_from}

pub all_inserted : (P : Window → Type 0) (w : Window) (ws : List Window) → P w → AllByRecursion P ws → AllByRecursion P (inserted w ws)
all_inserted P w [] p a = (p, tt)
all_inserted P w (v ∷ vs) p a = cond_both (ltb w.start v.start) (w ∷ (v ∷ vs)) (v ∷ inserted w vs) (AllByRecursion P) (λ _. (p, a)) (λ _. (a.0, all_inserted P w vs p a.1))

-- a window that meets no other goes between them
apart_inserted : (w : Window) (a b : ℕ) (ws : List Window) → 0 < w.packet.wire → a ≤ w.start → end w ≤ b → Clear w.start w.packet.wire ws → AllByRecursion (λ v. 0 < v.packet.wire) ws → Apart a ws b → Apart a (inserted w ws) b
apart_inserted w a b [] wide h k c p s = (h, k)
apart_inserted w a b (v ∷ vs) wide h k c p s =
    cond_both (ltb w.start v.start) (w ∷ (v ∷ vs)) (v ∷ inserted w vs) (λ l. Apart a l b)
    (λ on.
    let o = ltb-true _ _ on in
    let z = p.0 in
    let y : end w ≤ v.start = ⊎_elim (λ (x : end w ≤ v.start). x) (λ (x : end v ≤ w.start). omega arith) c.0 in
    (h, (y, s.1)))
    (λ off.
    let o = ltb-false _ _ off in
    let y : end v ≤ w.start = ⊎_elim (λ (x : end w ≤ v.start). omega arith) (λ (x : end v ≤ w.start). x) c.0 in
    (s.0, apart_inserted w (end v) b vs wide y k c.1 p.1 s.1))

pub kept_inserted : (f : Window → Bool) (w : Window) (ws : List Window) → f w ≡ false → filter f (inserted w ws) ≡ filter f ws
kept_inserted f w [] e = rw e
kept_inserted f w (v ∷ vs) e =
    cond_both (ltb w.start v.start) (w ∷ (v ∷ vs)) (v ∷ inserted w vs) (λ l. filter f l ≡ filter f (v ∷ vs))
    (λ _. rw e)
    (λ _. rw (kept_inserted f w vs e))

kept_none : {X : Type 0} (f : X → Bool) (xs : List X) → AllByRecursion (λ x. f x ≡ false) xs → filter f xs ≡ []
kept_none f [] a = refl
kept_none f (x ∷ xs) a = let e = a.0 in rw e (kept_none f xs a.1)

-- behind all that pass the test
kept_last : (f : Window → Bool) (w : Window) (a b : ℕ) (ws : List Window) → f w ≡ true → Apart a ws b → AllByRecursion (λ v. f v ≡ true → v.start < w.start) ws → filter f (inserted w ws) ≡ filter f ws ++ (w ∷ [])
kept_last f w a b [] e s h = rw e
kept_last f w a b (v ∷ vs) e s h =
    cond_both (ltb w.start v.start) (w ∷ (v ∷ vs)) (v ∷ inserted w vs) (λ l. filter f l ≡ filter f (v ∷ vs) ++ (w ∷ []))
    (λ on.
    let o = ltb-true _ _ on in
    let empty : filter f (v ∷ vs) ≡ [] = kept_none f (v ∷ vs)
    (all_both (λ x. f x ≡ true → x.start < w.start) (λ x. w.start ≤ x.start) (λ x. f x ≡ false)
    (λ x g l. ⊎_elim (λ (t : f x ≡ true). let k = g t in absurd (omega arith)) (λ d. d) (cases_Bool (f x)))
    (v ∷ vs) h (apart_after w.start v.start b (v ∷ vs) (omega arith) (omega arith, s.1))) in
    rw (e, empty))
    (λ _.
    let ih = kept_last f w (end v) b vs e s.1 h.1 in
    ⊎_elim (λ (t : f v ≡ true). rw (t, ih)) (λ (t : f v ≡ false). rw (t, ih)) (cases_Bool (f v)))

-- every window of queue 0 has ended by then
all_ended : (ws : List Window) → AllByRecursion (λ v. eqb v.packet.queue 0 ≡ true → end v ≤ admitted_end ws) ws
all_ended [] = tt
all_ended (w ∷ ws) =
    let ih = all_ended ws in
    cond_both (eqb w.packet.queue 0) (max (end w) (admitted_end ws)) (admitted_end ws) (λ n. AllByRecursion (λ v. eqb v.packet.queue 0 ≡ true → end v ≤ n) (w ∷ ws))
    (λ on. ((λ _. omega arith), All-weaker (λ v. eqb v.packet.queue 0 ≡ true → end v ≤ admitted_end ws) (λ v. eqb v.packet.queue 0 ≡ true → end v ≤ max (end w) (admitted_end ws)) (λ v f t. let k = f t in omega arith) ws ih))
    (λ off. ((λ on. absurd (both_ways _ off on)), ih))

-- before each trial
pub record Trying (c : Cycle) (ws : List Window) : Type 0 where
  pub apart : Apart 0 ws c.long
  pub fine : AllByRecursion (Fine c.long) ws
  pub placed : (q : ℕ) → 0 < q → q ≤ 7 → packets (windows_of q ws) ≡ c.mandatory q
  pub short : length (drawn 0 ws c.long) ≤ most_entries

-- after the trials of ps
pub record Tried (c : Cycle) (ps : List Job) (ws vs : List Window) : Type 0 where
  pub apart : Apart 0 vs c.long
  pub fine : AllByRecursion (Fine c.long) vs
  pub placed : (q : ℕ) → 0 < q → q ≤ 7 → packets (windows_of q vs) ≡ c.mandatory q
  pub short : length (drawn 0 vs c.long) ≤ most_entries
  pub names : List Job
  pub named : packets (windows_of 0 vs) ≡ packets (windows_of 0 ws) ++ names
  pub part : Part names ps

pub admits : (c : Cycle) (p : Job) (ws : List Window) → WaitsIn c.long 0 p → Trying c ws → admissible c.long (trial p ws) ws ≡ true → Trying c (inserted (trial p ws) ws)
admits c p ws h g e =
    let w = trial p ws in
    let both = and_parts _ _ e in
    let due = leb-true (end w) p.deadline both.0 in
    let within = h.3 in
    let wide = h.1 in
    let zero-queue = h.0 in
    let least = least-room (max p.arrival (admitted_end ws)) p.wire 0 c.long ws g.apart in
    let from = least.from in
    record {
      apart = apart_inserted w 0 c.long ws wide (omega arith) (omega arith) least.clear (All-weaker (Fine c.long) (λ v. 0 < v.packet.wire) (λ v f. f.1) ws g.fine) g.apart;
      fine = all_inserted (Fine c.long) w ws ((omega arith, due), wide, within) g.fine;
      placed = λ q k l. ap packets (kept_inserted (λ v. eqb v.packet.queue q) w ws (ne_eqb _ _ (omega arith))) ∙ g.placed q k l;
      short = leb-true _ _ both.1;
    }

names_last : (c : Cycle) (p : Job) (ws : List Window) → WaitsIn c.long 0 p → Trying c ws → packets (windows_of 0 (inserted (trial p ws) ws)) ≡ packets (windows_of 0 ws) ++ (p ∷ [])
names_last c p ws h g =
    let w = trial p ws in
    let from = (least-room (max p.arrival (admitted_end ws)) p.wire 0 c.long ws g.apart).from in
    ap packets (kept_last (λ v. eqb v.packet.queue 0) w 0 c.long ws (eq-eqb _ _ h.0) g.apart
    (all_both (Fine c.long) (λ v. eqb v.packet.queue 0 ≡ true → end v ≤ admitted_end ws) (λ v. eqb v.packet.queue 0 ≡ true → v.start < w.start)
    (λ v f d t. let k = d t in let wide = f.1 in omega arith) ws g.fine (all_ended ws)))
    ∙ packets-append (windows_of 0 ws) (w ∷ [])

pub tried : (c : Cycle) (ps : List Job) (ws : List Window) → AllByRecursion (WaitsIn c.long 0) ps → Trying c ws → Tried c ps ws (admitted c.long ps ws)
tried c [] ws h g = record { apart = g.apart; fine = g.fine; placed = g.placed; short = g.short; names = []; named = sym (append-nil _); part = none }
tried c (p ∷ ps) ws h g =
    let w = trial p ws in
    cond_both (admissible c.long w ws) (inserted w ws) ws (λ (done : List Window). (Tried c (p ∷ ps) ws) (admitted c.long ps done))
    (λ on.
    let r = tried c ps (inserted w ws) h.1 (admits c p ws h.0 g on) in
    record {
      apart = r.apart;
      fine = r.fine;
      placed = r.placed;
      short = r.short;
      names = p ∷ r.names;
      named = r.named ∙ ap (λ (l : List Job). l ++ r.names) (names_last c p ws h.0 g) ∙ append_assoc (packets (windows_of 0 ws)) (p ∷ []) r.names;
      part = takes p r.names ps r.part;
    })
    (λ off.
    let r = tried c ps ws h.1 g in
    record { apart = r.apart; fine = r.fine; placed = r.placed; short = r.short; names = r.names; named = r.named; part = skips p r.names ps r.part })

-- the trials begin where the walk ends
pub trying_from : (c : Cycle) (ws : List Window) → Walked c ws → Trying c ws
trying_from c ws g = record { apart = g.apart; fine = g.fine; placed = g.placed; short = g.short }

-- the windows of a search, with what the rules need
pub searched : (before : Job → Job → Bool) (c : Cycle) (vs : List Window) → Given c → planned_windows before c ≡ Ok vs → Windows c vs × AllByRecursion (λ w. 0 < w.packet.wire) vs
searched before c vs given e =
    let on = went_on (walked before c.long (count c.mandatory 7) 0 c.mandatory []) (λ ws. Ok (admitted c.long c.optional ws)) vs e in
    let ws = on.0 in
    let g = walk_from before c given ws on.1 in
    let d = on.2 in
    let same : admitted c.long c.optional ws ≡ vs = cc in
    let r : Tried c c.optional ws vs = subst (Tried c c.optional ws) same (tried c c.optional ws given.optional_waits (trying_from c ws g)) in
    let names : packets (windows_of 0 vs) ≡ r.names = r.named ∙ ap (λ (l : List Window). packets l ++ r.names) g.unnamed in
    let P : List Job → Type 0 = λ l. Part l c.optional in (
      record { apart = r.apart; on_time = All-weaker (Fine c.long) OnTime (λ w x. x.0) vs r.fine; mandatory = r.placed; optional = subst P (sym names) r.part; short = r.short },
      All-weaker (Fine c.long) (λ w. 0 < w.packet.wire) (λ w x. x.1) vs r.fine,
    )

pub windows_fit : WindowsFit
windows_fit before c ws given e = (searched before c ws given e).0

-- a drawn list comes from its windows
pub from_windows : (before : Job → Job → Bool) (c : Cycle) (list : List Entry) (P : List Entry → Type 0) → ((ws : List Window) → planned_windows before c ≡ Ok ws → P (drawn 0 ws c.long)) → planned_list before c ≡ Ok list → P list
from_windows before c list P f e =
    let on = went_on (planned_windows before c) (λ ws. Ok (drawn 0 ws c.long)) list e in
    let d = on.2 in
    let same : drawn 0 on.0 c.long ≡ list = cc in
    subst P same (f on.0 on.1)

pub rules_hold : RulesHold
rules_hold before c list given e = from_windows before c list (Rules c.long c.optional)
    (λ ws f.
    let s = searched before c ws given f in
    let total = whole-drawn 0 c.long ws s.0.apart in
    let some = given.some_time in
    record {
      some_entries = some_entry (drawn 0 ws c.long) (omega arith);
      few_entries = s.0.short;
      sound = sound_drawn 0 c.long ws s.1;
      names = All-weaker (NamesOneOf (packets (windows_of 0 ws))) (NamesOneOf c.optional) (λ x k h. let r = k h in (r.0, (r.1.0, in_part r.1.0 _ c.optional s.0.optional r.1.1, r.1.2, r.1.3))) _ (names-drawn 0 c.long ws);
      once = once_drawn 0 c.long ws (distinct_part _ c.optional s.0.optional given.optional_distinct);
      fills = omega arith;
    })
    e
