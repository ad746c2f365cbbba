-- The packets that a drawn list names. Assumes nothing.
use Rattle.std.proofs.Common.{◌≡◌, ℕ, ◌-◌, ◌^◌, ◌<◌, true, false, eqb, ltb, List, [], ◌∷◌, filter, sym, refl, ap, ◌∙◌, subst, inl, inr, ⊎_elim, arith}
use Rattle.std.proofs.lemmas.Bool.{cases_Bool, cond_both, and_from, and_parts, or_from, or_left, eqb-true, eq-eqb, ne_eqb}
use Rattle.std.proofs.ByRecursion.{All-weaker}
use Rattle.std.specs.List.{AllByRecursion}
use Rattle.traffic.specs.declared.packet.Job.{Job}
use Rattle.search.specs.declared.window.Window.{Window}
use Rattle.search.specs.Windows.{end}
use Rattle.search_laws.specs.Words.{packets, windows_of, same_name, named_among, Names, named_in}
use Rattle.gates.specs.declared.entry.Entry.{Entry}
use Rattle.search.specs.Drawn.{closed, entry, drawn}
use Rattle.search_laws.specs.Laws.{Part, none, takes, skips, Unlike, Distinct, NamesOneOf, NamedOnce}
use Rattle.search_laws.proofs.Lists.{all_any, all_part, all_in, kept_like}

pub unlike_test : (x y : Job) → Unlike x y → same_name x y ≡ false
unlike_test x y u = ⊎_elim (λ (on : same_name x y ≡ true). let b = and_parts _ _ on in absurd (u (eqb-true _ _ b.0) (eqb-true _ _ b.1))) (λ off. off) (cases_Bool (same_name x y))

pub none_named : (p : Job) (xs : List Job) → AllByRecursion (Unlike p) xs → named_among xs p ≡ false
none_named p [] a = refl
none_named p (x ∷ xs) a = or_from _ _ (unlike_test x p (λ e d. a.0 (sym e) (sym d))) (none_named p xs a.1)

-- of distinct packets, those named by a part of them are that part
pub kept_part : (xs ys : List Job) → Part xs ys → Distinct ys → filter (named_among xs) ys ≡ xs
kept_part _ _ none d = refl
kept_part _ _ (takes x xs ys t) d =
    let on : named_among (x ∷ xs) x ≡ true = or_left (same_name x x) (named_among xs x) (and_from _ _ (eq-eqb x.flow x.flow refl) (eq-eqb x.number x.number refl)) in
    let like : filter (named_among (x ∷ xs)) ys ≡ filter (named_among xs) ys =
    kept_like (named_among (x ∷ xs)) (named_among xs) ys (All-weaker (Unlike x) (λ y. named_among (x ∷ xs) y ≡ named_among xs y) (λ y u. rw (unlike_test x y u)) ys d.0) in
    let ih = kept_part xs ys t d.1 in
    rw on (ap (λ (l : List Job). x ∷ l) (like ∙ ih))
kept_part _ _ (skips y xs ys t) d =
    let off : named_among xs y ≡ false = none_named y xs (all_part (Unlike y) xs ys t d.0) in
    rw off (kept_part xs ys t d.1)

named_closed : (a b : ℕ) (rest : List Entry) (p : Job) → 0 < p.flow → named_in (closed a b rest) p ≡ named_in rest p
named_closed a b rest p h =
    let off : eqb 0 p.flow ≡ false = ne_eqb _ _ (omega arith) in
    cond_both (ltb a b) _ rest (λ l. named_in l p ≡ named_in rest p) (λ _. rw off) (λ _. refl)

pub named_drawn : (a b : ℕ) (ws : List Window) (p : Job) → 0 < p.flow → named_in (drawn a ws b) p ≡ named_among (packets (windows_of 0 ws)) p
named_drawn a b [] p h = named_closed a b [] p h
named_drawn a b (w ∷ ws) p h =
    let ih = named_drawn (end w) b ws p h in
    let zero-off : eqb 0 p.flow ≡ false = ne_eqb _ _ (omega arith) in
    named_closed a w.start (entry w ∷ drawn (end w) ws b) p h ∙
    ⊎_elim
    (λ (on : eqb w.packet.queue 0 ≡ true). rw (on, ih))
    (λ (off : eqb w.packet.queue 0 ≡ false). rw (off, zero-off, ih))
    (cases_Bool (eqb w.packet.queue 0))

all_closed : (P : Entry → Type 0) (a b : ℕ) (rest : List Entry) → ((x : Entry) → x.flow ≡ 0 → x.number ≡ 0 → P x) → AllByRecursion P rest → AllByRecursion P (closed a b rest)
all_closed P a b rest f r = cond_both (ltb a b) _ rest (AllByRecursion P) (λ _. (f _ refl refl, r)) (λ _. r)

nameless : (x : Entry) → x.flow ≡ 0 → x.number ≡ 0 → Names x → ⊥
nameless x f n h = ⊎_elim (λ (k : x.flow ≡ 0 → ⊥). k f) (λ (k : x.number ≡ 0 → ⊥). k n) h

-- the entry of a window names its packet if that is optional, else none
entry_named : (w : Window) → eqb w.packet.queue 0 ≡ true → ((entry w).gates ≡ 1) × ((entry w).flow ≡ w.packet.flow) × ((entry w).number ≡ w.packet.number)
entry_named w on = let z : w.packet.queue ≡ 0 = eqb-true _ _ on in (ap (λ (n : ℕ). 2 ^ n) z, rw on, rw on)

entry_nameless : (w : Window) → eqb w.packet.queue 0 ≡ false → Names (entry w) → ⊥
entry_nameless w off h = nameless (entry w) (rw off) (rw off) h

pub names-drawn : (a b : ℕ) (ws : List Window) → AllByRecursion (NamesOneOf (packets (windows_of 0 ws))) (drawn a ws b)
names-drawn a b [] = all_closed (NamesOneOf []) a b [] (λ x f n h. absurd (nameless x f n h)) tt
names-drawn a b (w ∷ ws) =
    let ih = names-drawn (end w) b ws in
    let here : List Job = packets (windows_of 0 ws) in
    ⊎_elim
    (λ (on : eqb w.packet.queue 0 ≡ true).
    let e = entry_named w on in
    let more : packets (windows_of 0 (w ∷ ws)) ≡ w.packet ∷ here = rw on in
    let P : List Job → Type 0 = λ l. AllByRecursion (NamesOneOf l) (drawn a (w ∷ ws) b) in
    subst P (sym more) (all_closed (NamesOneOf (w.packet ∷ here)) a w.start _ (λ x f n h. absurd (nameless x f n h))
    ((λ _. (e.0, (w.packet, inl refl, e.1, e.2))), All-weaker (NamesOneOf here) (NamesOneOf (w.packet ∷ here)) (λ x k h. let r = k h in (r.0, (r.1.0, inr r.1.1, r.1.2, r.1.3))) _ ih)))
    (λ (off : eqb w.packet.queue 0 ≡ false).
    let more : packets (windows_of 0 (w ∷ ws)) ≡ here = rw off in
    let P : List Job → Type 0 = λ l. AllByRecursion (NamesOneOf l) (drawn a (w ∷ ws) b) in
    subst P (sym more) (all_closed (NamesOneOf here) a w.start _ (λ x f n h. absurd (nameless x f n h)) ((λ h. absurd (entry_nameless w off h)), ih)))
    (cases_Bool (eqb w.packet.queue 0))

once_closed : (a b : ℕ) (rest : List Entry) → NamedOnce rest → NamedOnce (closed a b rest)
once_closed a b rest r =
    let nothing = nameless (record { gates = 0; interval = b - a; flow = 0; number = 0 }) refl refl in
    cond_both (ltb a b) _ rest NamedOnce (λ _. (all_any _ (λ y h. absurd (nothing h)) rest, r)) (λ _. r)

pub once_drawn : (a b : ℕ) (ws : List Window) → Distinct (packets (windows_of 0 ws)) → NamedOnce (drawn a ws b)
once_drawn a b [] d = once_closed a b [] tt
once_drawn a b (w ∷ ws) d =
    let here : List Job = packets (windows_of 0 ws) in
    ⊎_elim
    (λ (on : eqb w.packet.queue 0 ≡ true).
    let e = entry_named w on in
    let more : packets (windows_of 0 (w ∷ ws)) ≡ w.packet ∷ here = rw on in
    let apart : Distinct (w.packet ∷ here) = subst Distinct more d in
    once_closed a w.start _ (
      All-weaker (NamesOneOf here) _ (λ y k h f n.
          let r = k (⊎_elim (λ (z : (entry w).flow ≡ 0 → ⊥). inl (λ c. z (f ∙ c))) (λ (z : (entry w).number ≡ 0 → ⊥). inr (λ c. z (n ∙ c))) h) in
          all_in (Unlike w.packet) r.1.0 here apart.0 r.1.1 (sym e.1 ∙ f ∙ r.1.2) (sym e.2 ∙ n ∙ r.1.3)) _ (names-drawn (end w) b ws),
      once_drawn (end w) b ws apart.1,
    ))
    (λ (off : eqb w.packet.queue 0 ≡ false).
    let more : packets (windows_of 0 (w ∷ ws)) ≡ here = rw off in
    once_closed a w.start _ (all_any _ (λ y h. absurd (entry_nameless w off h)) _, once_drawn (end w) b ws (subst Distinct more d)))
    (cases_Bool (eqb w.packet.queue 0))
