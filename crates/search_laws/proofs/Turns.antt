-- The walk turn by turn, and its law. Assumes nothing.
use Rattle.std.proofs.Common.{◌≡◌, ℕ, zero, suc, ◌<◌, ◌≤◌, Bool, true, false, eqb, List, [], ◌∷◌, ◌++◌, take, drop, Some, None, Ok, Option, sym, refl, ap, ◌∙◌, subst, inl, inr, ⊎_elim, append_assoc, append-nil, arith}
use Rattle.std.proofs.lemmas.Bool.{cases_Bool, cases_lt, cond_both, eqb-true, eqb-false}
use Rattle.std.proofs.ByRecursion.{All-weaker, All-append}
use Rattle.std.specs.List.{AllByRecursion}
use Rattle.traffic.specs.declared.packet.Job.{Job}
use Rattle.search.specs.declared.window.Window.{Window}
use Rattle.traffic.specs.Orders.{JobsDiffer}
use Rattle.search_laws.specs.Words.{Serving, packets, windows_of}
use Rattle.search.specs.Windows.{end, Apart}
use Rattle.search.specs.Search.{firsts, next, without, placed_next, and_then, turn, walked, count}
use Rattle.search_laws.specs.Laws.{In, Differing, Next}
use Rattle.search_laws.proofs.Lists.{all_in, apart_after}
use Rattle.search_laws.proofs.Steps.{went_on}
use Rattle.search.proofs.Inserts.{placed-is}
use Rattle.search_laws.proofs.Next.{next_none, never_idle, next_once}
use Rattle.search_laws.proofs.Walk.{first_from, count_none, count_less}

-- turn by turn: each window is the next one
abbrev pub Turns : (Job → Job → Bool) → ℕ → (ℕ → List Job) → List Window → Type 0
Turns before t left [] = firsts left 7 ≡ []
Turns before t left (w ∷ ws) = Next before t (firsts left 7) w × Turns before (end w) (without w.packet.queue left) ws

-- each flow's packets are in its own queue
abbrev pub AtHome : (ℕ → ℕ) → ℕ → Job → Type 0
AtHome home q p = (home p.flow ≡ q) × (p.queue ≡ q) × (0 < p.wire)

abbrev pub Homed : (ℕ → ℕ) → (ℕ → List Job) → Type 0
Homed home left = (q : ℕ) → AllByRecursion (AtHome home q) (left q)

all_rest : {X : Type 0} (P : X → Type 0) (xs : List X) → AllByRecursion P xs → AllByRecursion P (drop 1 xs)
all_rest P [] a = tt
all_rest P (x ∷ xs) a = a.1

all_one : {X : Type 0} (P : X → Type 0) (xs : List X) → AllByRecursion P xs → AllByRecursion P (take 1 xs)
all_one P [] a = tt
all_one P (x ∷ xs) a = (a.0, tt)

pub homed_without : (home : ℕ → ℕ) (left : ℕ → List Job) (q : ℕ) → Homed home left → Homed home (without q left)
homed_without home left q h r = cond_both (eqb r q) (drop 1 (left r)) (left r) (AllByRecursion (AtHome home r)) (λ _. all_rest _ (left r) (h r)) (λ _. h r)

firsts_home : (home : ℕ → ℕ) (left : ℕ → List Job) (n : ℕ) → Homed home left → AllByRecursion (λ p. home p.flow ≤ n) (firsts left n)
firsts_home home left zero h = tt
firsts_home home left (suc n) h =
    All-append (λ p. home p.flow ≤ suc n) (take 1 (left (suc n))) (firsts left n)
    (all_one _ (left (suc n)) (All-weaker (AtHome home (suc n)) (λ p. home p.flow ≤ suc n) (λ p e. let d = e.0 in omega arith) (left (suc n)) (h (suc n))))
    (All-weaker (λ p. home p.flow ≤ n) (λ p. home p.flow ≤ suc n) (λ p l. omega arith) (firsts left n) (firsts_home home left n h))

pub firsts_differ : (home : ℕ → ℕ) (left : ℕ → List Job) (n : ℕ) → Homed home left → Differing (firsts left n)
firsts_differ home left zero h = tt
firsts_differ home left (suc n) h = go (left (suc n)) (h (suc n)) (firsts_differ home left n h)
  where
    go : (ps : List Job) → AllByRecursion (AtHome home (suc n)) ps → Differing (firsts left n) → Differing (take 1 ps ++ firsts left n)
    go [] a d = d
    go (p ∷ ps) a d =
        let here = a.0.0 in
        (All-weaker (λ x. home x.flow ≤ n) (JobsDiffer p) (λ x l. inl (λ e. let k : home p.flow ≡ home x.flow = ap home e in omega arith)) (firsts left n) (firsts_home home left n h), d)

pub turns_once : (before : Job → Job → Bool) (home : ℕ → ℕ) → Serving before → (t : ℕ) (left : ℕ → List Job) → Homed home left → (ws vs : List Window) → Turns before t left ws → Turns before t left vs → ws ≡ vs
turns_once before home laws t left h [] [] x y = refl
turns_once before home laws t left h [] (v ∷ vs) x y = let P : List Job → Type 0 = λ l. In v.packet l in absurd (subst P x y.0.among)
turns_once before home laws t left h (w ∷ ws) [] x y = let P : List Job → Type 0 = λ l. In w.packet l in absurd (subst P y x.0.among)
turns_once before home laws t left h (w ∷ ws) (v ∷ vs) x y =
    let same : v ≡ w = next_once before t (firsts left 7) v w laws (firsts_differ home left 7 h) y.0 x.0 in
    let P : Window → Type 0 = λ u. Turns before (end u) (without u.packet.queue left) vs in
    let ih = turns_once before home laws (end w) (without w.packet.queue left) (homed_without home left w.packet.queue h) ws vs x.1 (subst P same y.1) in
    cc

pub no_count : (left : ℕ → List Job) (n : ℕ) → ((q : ℕ) → 0 < q → q ≤ n → left q ≡ []) → firsts left n ≡ []
no_count left zero f = refl
no_count left (suc n) f = let e = f (suc n) (omega arith) (omega arith) in rw e (no_count left n (λ q h k. f q h (omega arith)))

-- the queue of a window that comes next
pub next_home : (before : Job → Job → Bool) (home : ℕ → ℕ) (left : ℕ → List Job) (p : Job) → Homed home left → In p (firsts left 7) →
    (0 < p.queue) × (p.queue ≤ 7) × (0 < p.wire) × ((rest : List Job) × (left p.queue ≡ p ∷ rest))
next_home before home left p h i =
    let f = first_from left 7 p i in
    let a : AllByRecursion (AtHome home f.0) (p ∷ f.3.0) = subst (AllByRecursion (AtHome home f.0)) f.3.1 (h f.0) in
    let same : p.queue ≡ f.0 = a.0.1 in
    let low = f.1 in let high = f.2 in
    (omega arith, omega arith, a.0.2, (f.3.0, ap left same ∙ f.3.1))

-- the walk goes by turns
pub walk_turns : (before : Job → Job → Bool) (home : ℕ → ℕ) (long : ℕ) → Serving before → (n t : ℕ) (left : ℕ → List Job) (ws vs : List Window) → Homed home left → count left 7 ≡ n →
    walked before long n t left ws ≡ Ok vs → (xs : List Window) × (vs ≡ ws ++ xs) × Turns before t left xs
walk_turns before home long laws zero t left ws vs h k e =
    let same : ws ≡ vs = cc in
    ([], sym same ∙ sym (append-nil ws), no_count left 7 (λ q l m. count_none left 7 q k l m))
walk_turns before home long laws (suc n) t left ws vs h k e = go (next before t (firsts left 7)) refl e (walk_turns before home long laws n)
  where
    go : (o : Option Window) → next before t (firsts left 7) ≡ o → turn o ws (λ w. and_then (placed_next long ws w) (walked before long n (end w) (without w.packet.queue left))) ≡ Ok vs →
        ((t : ℕ) (left : ℕ → List Job) (ws vs : List Window) → Homed home left → count left 7 ≡ n → walked before long n t left ws ≡ Ok vs → (xs : List Window) × (vs ≡ ws ++ xs) × Turns before t left xs) →
        (xs : List Window) × (vs ≡ ws ++ xs) × Turns before t left xs
    go None f d ih = let same : ws ≡ vs = cc in ([], sym same ∙ sym (append-nil ws), next_none before t (firsts left 7) f)
    go (Some w) f d ih =
        let on = went_on (placed_next long ws w) (walked before long n (end w) (without w.packet.queue left)) vs d in
        let p = placed-is long ws on.0 w on.1 in
        let m = never_idle before t (firsts left 7) w laws (firsts_differ home left 7 h) f in
        let b = next_home before home left w.packet h m.among in
        let fewer = count_less left w.packet.queue 7 w.packet b.3.0 b.0 b.1 b.3.1 in
        let r = ih (end w) (without w.packet.queue left) on.0 vs (homed_without home left w.packet.queue h) (omega arith) on.2 in
        (w ∷ r.0, r.1 ∙ ap (λ (l : List Window). l ++ r.0) p.0 ∙ append_assoc ws (w ∷ []) r.0, (m, r.2))

pub in_firsts : (left : ℕ → List Job) (n q : ℕ) (p : Job) (rest : List Job) → 0 < q → q ≤ n → left q ≡ p ∷ rest → In p (firsts left n)
in_firsts left zero q p rest h k e = absurd (omega arith)
in_firsts left (suc n) q p rest h k e = go (left (suc n)) refl (in_firsts left n q p rest h)
  where
    go : (ps : List Job) → left (suc n) ≡ ps → (q ≤ n → left q ≡ p ∷ rest → In p (firsts left n)) → In p (take 1 ps ++ firsts left n)
    go [] d ih = ⊎_elim
        (λ (l : n < q). let same : suc n ≡ q = omega arith in let x : [] ≡ p ∷ rest = sym d ∙ ap left same ∙ e in let z : ◌≡◌ {A = ℕ} 0 1 = cc in absurd (omega arith))
        (λ (l : q ≤ n). ih l e) (cases_lt n q)
    go (x ∷ xs) d ih = ⊎_elim
        (λ (l : n < q). let same : suc n ≡ q = omega arith in let y : x ∷ xs ≡ p ∷ rest = sym d ∙ ap left same ∙ e in let z : p ≡ x = cc in inl z)
        (λ (l : q ≤ n). inr (ih l e)) (cases_lt n q)

-- the first window of a queue
pub first_window : (r a b : ℕ) (ws : List Window) (p : Job) (rest : List Job) → Apart a ws b → packets (windows_of r ws) ≡ p ∷ rest →
    (x : Window) × In x ws × (x.packet ≡ p) × (x.packet.queue ≡ r) × AllByRecursion (λ y. (y.packet.queue ≡ r) → x.start ≤ y.start) ws
first_window r a b [] p rest s e = let z : ◌≡◌ {A = ℕ} 0 1 = cc in absurd (omega arith)
first_window r a b (w ∷ ws) p rest s e =
    ⊎_elim
    (λ (on : eqb w.packet.queue r ≡ true).
    let d : w.packet ∷ packets (windows_of r ws) ≡ p ∷ rest = rw on at e in
    let same : w.packet ≡ p = cc in
    (w, inl refl, same, eqb-true _ _ on, (λ _. omega arith, All-weaker (λ y. w.start ≤ y.start) (λ y. (y.packet.queue ≡ r) → w.start ≤ y.start) (λ y l _. l) ws (apart_after w.start (end w) b ws (omega arith) s.1))))
    (λ (off : eqb w.packet.queue r ≡ false).
    let d : packets (windows_of r ws) ≡ p ∷ rest = rw off at e in
    let f = first_window r (end w) b ws p rest s.1 d in
    (f.0, inr f.1, f.2, f.3, (λ q. absurd (eqb-false _ _ off q), f.4)))
    (cases_Bool (eqb w.packet.queue r))

pub same_start : (a b : ℕ) (ws : List Window) (x y : Window) → Apart a ws b → AllByRecursion (λ w. 0 < w.packet.wire) ws → In x ws → In y ws → x.start ≡ y.start → x ≡ y
same_start a b [] x y s p i j e = absurd i
same_start a b (w ∷ ws) x y s p i j e =
    let after = apart_after (end w) (end w) b ws (omega arith) s.1 in
    let wide = p.0 in
    ⊎_elim
    (λ (d : x ≡ w). let at : x.start ≡ w.start = ap (λ (v : Window). v.start) d in
    ⊎_elim (λ (c : y ≡ w). d ∙ sym c) (λ (k : In y ws). let l = all_in (λ v. end w ≤ v.start) y ws after k in absurd (omega arith)) j)
    (λ (k : In x ws). let l = all_in (λ v. end w ≤ v.start) x ws after k in
    ⊎_elim (λ (c : y ≡ w). let at : y.start ≡ w.start = ap (λ (v : Window). v.start) c in absurd (omega arith)) (λ (m : In y ws). same_start (end w) b ws x y s.1 p.1 k m e) j)
    i
