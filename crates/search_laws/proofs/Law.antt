-- The law of the walk and the turns of the walk are the same. Assumes nothing.
use Rattle.std.proofs.Common.{◌≡◌, ℕ, ◌<◌, ◌≤◌, max, Bool, true, false, eqb, ◌⊎◌, List, [], ◌∷◌, drop, sym, refl, ap, ◌∙◌, subst, inl, inr, ⊎_elim, arith}
use Rattle.std.proofs.lemmas.Bool.{cases_Bool, cases_lt, cond_both, eqb-true, eqb-false, eq-eqb, ne_eqb}
use Rattle.std.proofs.ByRecursion.{All-weaker}
use Rattle.std.specs.List.{AllByRecursion}
use Rattle.traffic.specs.declared.packet.Job.{Job}
use Rattle.search.specs.declared.window.Window.{Window}
use Rattle.search_laws.specs.Words.{Serving, packets, windows_of, OnTime}
use Rattle.search.specs.Windows.{end, Apart}
use Rattle.search.specs.Search.{Cycle, firsts, without}
use Rattle.search_laws.specs.Laws.{In, Next, Rising, Given, WaitsIn, Idle, Candidate, WalkLaw, WalkOnce}
use Rattle.search_laws.proofs.Lists.{all_in, all_from, all_both, apart_after, rising_later}
use Rattle.search_laws.proofs.Walk.{first_from, count_none, no_firsts}
use Rattle.search_laws.proofs.Turns.{Turns, AtHome, Homed, homed_without, no_count, next_home, in_firsts, first_window, same_start, turns_once}

pub in_windows : (w : Window) (ws : List Window) → In w ws → In w.packet (packets (windows_of w.packet.queue ws))
in_windows w [] i = i
in_windows w (v ∷ vs) i =
    let q = w.packet.queue in
    ⊎_elim
    (λ (e : w ≡ v).
    let on : eqb v.packet.queue q ≡ true = eq-eqb _ _ (ap (λ (x : Window). x.packet.queue) (sym e)) in
    let more : packets (windows_of q (v ∷ vs)) ≡ v.packet ∷ packets (windows_of q vs) = rw on in
    subst (In w.packet) (sym more) (inl (ap (λ (x : Window). x.packet) e)))
    (λ (k : In w vs).
    let ih = in_windows w vs k in
    ⊎_elim
    (λ (on : eqb v.packet.queue q ≡ true). let more : packets (windows_of q (v ∷ vs)) ≡ v.packet ∷ packets (windows_of q vs) = rw on in subst (In w.packet) (sym more) (inr ih))
    (λ (off : eqb v.packet.queue q ≡ false). let more : packets (windows_of q (v ∷ vs)) ≡ packets (windows_of q vs) = rw off in subst (In w.packet) (sym more) ih)
    (cases_Bool (eqb v.packet.queue q)))
    i

rising_least : (a : ℕ) (p x : Job) (ps : List Job) → Rising a (p ∷ ps) → In x (p ∷ ps) → p.arrival ≤ x.arrival
rising_least a p x [] r i = ⊎_elim (λ (e : x ≡ p). let d : x.arrival ≡ p.arrival = ap (λ (y : Job). y.arrival) e in omega arith) (λ (k : ⊥). absurd k) i
rising_least a p x (y ∷ ys) r i =
    let step = r.1.0 in
    ⊎_elim (λ (e : x ≡ p). let d : x.arrival ≡ p.arrival = ap (λ (z : Job). z.arrival) e in omega arith)
    (λ (k : In x (y ∷ ys)). let ih = rising_least p.arrival y x ys r.1 k in omega arith) i

abbrev pub Right : Window → Type 0
Right w = (w.packet.arrival ≤ w.start) × (0 < w.packet.wire) × (0 < w.packet.queue) × (w.packet.queue ≤ 7)

-- the law from the instant t on, for what is left
pub record Law (before : Job → Job → Bool) (t b : ℕ) (left : ℕ → List Job) (ws : List Window) : Type 0 where
  pub apart : Apart t ws b
  pub fine : AllByRecursion Right ws
  pub placed : (q : ℕ) → 0 < q → q ≤ 7 → packets (windows_of q ws) ≡ left q
  pub never_idle : (u : ℕ) → t ≤ u → Idle u ws → AllByRecursion (λ w. w.packet.arrival ≤ u → end w ≤ u) ws
  pub in_order : (v w : Window) → In v ws → In w ws → v.start < w.start → Candidate ws v.start w → before w.packet v.packet ≡ false

module _ (before : Job → Job → Bool) (laws : Serving before) (b : ℕ) where
  law_next : (t : ℕ) (left : ℕ → List Job) (w : Window) (ws : List Window) → Law before t b left (w ∷ ws) → Next before t (firsts left 7) w
  law_next t left w ws g =
      let q = w.packet.queue in
      let here : eqb q q ≡ true = eq-eqb q q refl in
      let f = g.fine.0 in
      let low = f.2 in let high = f.3 in let wide = f.1 in
      let mine : w.packet ∷ packets (windows_of q ws) ≡ left q = rw here at (g.placed q low high) in
      let onward = g.apart.0 in
      let all_after = apart_after w.start w.start b (w ∷ ws) (omega arith) (omega arith, g.apart.1) in
      let window : (p : Job) → In p (firsts left 7) → (r : ℕ) × (x : Window) × In x (w ∷ ws) × (x.packet ≡ p) × (x.packet.queue ≡ r) × AllByRecursion (λ y. (y.packet.queue ≡ r) → x.start ≤ y.start) (w ∷ ws) =
      λ p i. let k = first_from left 7 p i in let x = first_window k.0 t b (w ∷ ws) p k.3.0 g.apart (g.placed k.0 k.1 k.2 ∙ k.3.1) in (k.0, x.0, x.1, x.2, x.3, x.4) in
      record {
        among = in_firsts left 7 q w.packet (packets (windows_of q ws)) low high (sym mine);
        arrived = f.0;
        onward = onward;
        busy = all_from (λ p. w.start ≤ max t p.arrival) (firsts left 7) (λ p i.
            let x = window p i in
            let u = max t p.arrival in
            let same : x.1.packet.arrival ≡ p.arrival = ap (λ (y : Job). y.arrival) x.3 in
            let from = all_in (λ v. w.start ≤ v.start) x.1 (w ∷ ws) all_after x.2 in
            ⊎_elim
            (λ (l : u < w.start).
            let idle : Idle u (w ∷ ws) = All-weaker (λ v. w.start ≤ v.start) (λ v. (u < v.start) ⊎ (end v ≤ u)) (λ v k. inl (omega arith)) (w ∷ ws) all_after in
            let ended = all_in (λ v. v.packet.arrival ≤ u → end v ≤ u) x.1 (w ∷ ws) (g.never_idle u (omega arith) idle) x.2 (omega arith) in
            absurd (omega arith))
            (λ (l : w.start ≤ u). l)
            (cases_lt u w.start));
        first = all_from (λ p. p.arrival ≤ w.start → before p w.packet ≡ false) (firsts left 7) (λ p i l.
            let x = window p i in
            let same : x.1.packet.arrival ≡ p.arrival = ap (λ (y : Job). y.arrival) x.3 in
            let from = all_in (λ v. w.start ≤ v.start) x.1 (w ∷ ws) all_after x.2 in
            ⊎_elim
            (λ (k : w.start < x.1.start).
            let c : Candidate (w ∷ ws) w.start x.1 = (omega arith, All-weaker (λ y. (y.packet.queue ≡ x.0) → x.1.start ≤ y.start) (λ y. (y.packet.queue ≡ x.1.packet.queue) → w.start ≤ y.start → x.1.start ≤ y.start) (λ y m e _. m (e ∙ x.4)) (w ∷ ws) x.5) in
            let r = g.in_order w x.1 (inl refl) x.2 k c in
            rw x.3 at r)
            (λ (k : x.1.start ≤ w.start).
            let wires = All-weaker Right (λ v. 0 < v.packet.wire) (λ v m. m.1) (w ∷ ws) g.fine in
            let e = same_start t b (w ∷ ws) x.1 w g.apart wires x.2 (inl refl) (omega arith) in
            let d : p ≡ w.packet = sym x.3 ∙ ap (λ (v : Window). v.packet) e in
            rw d (laws.never w.packet))
            (cases_lt w.start x.1.start));
      }

  law_rest : (t : ℕ) (left : ℕ → List Job) (w : Window) (ws : List Window) → Law before t b left (w ∷ ws) → Law before (end w) b (without w.packet.queue left) ws
  law_rest t left w ws g =
      let after = apart_after (end w) (end w) b ws (omega arith) g.apart.1 in
      let wide = g.fine.0.1 in
      record {
        apart = g.apart.1;
        fine = g.fine.1;
        placed = λ r l h.
            let was = g.placed r l h in
            ⊎_elim
            (λ (on : eqb w.packet.queue r ≡ true).
            let no : eqb r w.packet.queue ≡ true = eq-eqb _ _ (sym (eqb-true _ _ on)) in
            let mine : w.packet ∷ packets (windows_of r ws) ≡ left r = rw on at was in
            let tail : packets (windows_of r ws) ≡ drop 1 (left r) = ap (drop 1) mine in
            rw no tail)
            (λ (off : eqb w.packet.queue r ≡ false).
            let no : eqb r w.packet.queue ≡ false = ne_eqb _ _ (λ d. eqb-false _ _ off (sym d)) in
            let mine : packets (windows_of r ws) ≡ left r = rw off at was in
            rw no mine)
            (cases_Bool (eqb w.packet.queue r));
        never_idle = λ u l idle. (g.never_idle u (let k = g.apart.0 in omega arith) (inr l, idle)).1;
        in_order = λ v y i j l c. g.in_order v y (inr i) (inr j) l (c.0, ((λ _ k. let m = all_in (λ x. end w ≤ x.start) v ws after i in absurd (omega arith)), c.1));
      }

  pub law_turns : (t : ℕ) (left : ℕ → List Job) (ws : List Window) → Law before t b left ws → Turns before t left ws
  law_turns t left [] g = no_count left 7 (λ q l h. sym (g.placed q l h))
  law_turns t left (w ∷ ws) g = (law_next t left w ws g, law_turns (end w) (without w.packet.queue left) ws (law_rest t left w ws g))

-- what a walk still holds, each queue in its order
abbrev Rises : (ℕ → List Job) → Type 0
Rises left = (q : ℕ) → Rising 0 (left q)

rises-rest : (ps : List Job) → Rising 0 ps → Rising 0 (drop 1 ps)
rises-rest [] r = tt
rises-rest (p ∷ ps) r = rising_later 0 p.arrival ps (omega arith) r.1

rises-without : (left : ℕ → List Job) (q : ℕ) → Rises left → Rises (without q left)
rises-without left q h r = cond_both (eqb r q) (drop 1 (left r)) (left r) (Rising 0) (λ _. rises-rest (left r) (h r)) (λ _. h r)

-- before the next window begins nobody has arrived
not_yet : {before : Job → Job → Bool} (t : ℕ) (left : ℕ → List Job) (w : Window) → Next before t (firsts left 7) w → (u : ℕ) → t ≤ u → u < w.start → (p : Job) → 0 < p.queue → p.queue ≤ 7 → Rising 0 (left p.queue) → In p (left p.queue) → p.arrival ≤ u → ⊥
not_yet t left w n u l k p q1 q7 r i come = go (left p.queue) refl r i
  where
    go : (ps : List Job) → left p.queue ≡ ps → Rising 0 ps → In p ps → ⊥
    go [] e r2 j = j
    go (x ∷ xs) e r2 j =
        let least = rising_least 0 x p xs r2 j in
        let busy = all_in (λ y. w.start ≤ max t y.arrival) x (firsts left 7) n.busy (in_firsts left 7 p.queue x xs q1 q7 e) in
        omega arith

-- a candidate is the first of its queue
candidate_first : (b t : ℕ) (left : ℕ → List Job) (w : Window) (ws : List Window) → Apart t (w ∷ ws) b → AllByRecursion (λ v. 0 < v.packet.wire) (w ∷ ws) → ((q : ℕ) → 0 < q → q ≤ 7 → packets (windows_of q (w ∷ ws)) ≡ left q) →
    (y : Window) → In y (w ∷ ws) → 0 < y.packet.queue → y.packet.queue ≤ 7 → Candidate (w ∷ ws) w.start y → In y.packet (firsts left 7)
candidate_first b t left w ws a wires placed y j q1 q7 c = go (left y.packet.queue) refl
  where
    go : (ps : List Job) → left y.packet.queue ≡ ps → In y.packet (firsts left 7)
    go [] e = absurd (subst (In y.packet) (placed y.packet.queue q1 q7 ∙ e) (in_windows y (w ∷ ws) j))
    go (p ∷ ps) e =
        let f = first_window y.packet.queue t b (w ∷ ws) p ps a (placed y.packet.queue q1 q7 ∙ e) in
        let from = all_in (λ v. w.start ≤ v.start) f.0 (w ∷ ws) (apart_after w.start w.start b (w ∷ ws) (omega arith) (omega arith, a.1)) f.1 in
        let up = all_in (λ x. (x.packet.queue ≡ y.packet.queue) → w.start ≤ x.start → y.start ≤ x.start) f.0 (w ∷ ws) c.1 f.1 f.3 from in
        let down = all_in (λ x. (x.packet.queue ≡ y.packet.queue) → f.0.start ≤ x.start) y (w ∷ ws) f.4 j refl in
        let same = same_start t b (w ∷ ws) f.0 y a wires f.1 j (omega arith) in
        let d : p ≡ y.packet = sym f.2 ∙ ap (λ (z : Window). z.packet) same in
        let P : Job → Type 0 = λ z. In z (firsts left 7) in
        subst P d (in_firsts left 7 y.packet.queue p ps q1 q7 e)

module _ (before : Job → Job → Bool) (home : ℕ → ℕ) (b : ℕ) where
  pub turns_law : (t : ℕ) (left : ℕ → List Job) (ws : List Window) → Homed home left → Rises left → Apart t ws b → Turns before t left ws → Law before t b left ws
  turns_law t left [] h r a x = record { apart = a; fine = tt; placed = λ q l k. sym (none_left q l k); never_idle = λ u _ _. tt; in_order = λ v w i. absurd i }
    where
      none_left : (q : ℕ) → 0 < q → q ≤ 7 → left q ≡ []
      none_left q l k = count_none left 7 q (no_firsts left 7 x) l k
  turns_law t left (w ∷ ws) h r a x =
      let n = x.0 in
      let g = turns_law (end w) (without w.packet.queue left) ws (homed_without home left w.packet.queue h) (rises-without left w.packet.queue r) a.1 x.1 in
      let b4 = next_home before home left w.packet h n.among in
      let wide = b4.2 in
      let after = apart_after (end w) (end w) b ws (omega arith) a.1 in
      let fine : AllByRecursion Right (w ∷ ws) = ((n.arrived, wide, b4.0, b4.1), g.fine) in
      let placed : (q : ℕ) → 0 < q → q ≤ 7 → packets (windows_of q (w ∷ ws)) ≡ left q = λ q l k.
      let was = g.placed q l k in
      ⊎_elim
      (λ (on : eqb w.packet.queue q ≡ true).
      let same = eqb-true _ _ on in
      let no : eqb q w.packet.queue ≡ true = eq-eqb _ _ (sym same) in
      let here : left q ≡ w.packet ∷ b4.3.0 = ap left (sym same) ∙ b4.3.1 in
      let tail : packets (windows_of q ws) ≡ drop 1 (left q) = rw no at was in
      let rest : packets (windows_of q ws) ≡ b4.3.0 = tail ∙ ap (drop 1) here in
      rw (on, rest) (sym here))
      (λ (off : eqb w.packet.queue q ≡ false).
      let no : eqb q w.packet.queue ≡ false = ne_eqb _ _ (λ d. eqb-false _ _ off (sym d)) in
      let tail : packets (windows_of q ws) ≡ left q = rw no at was in
      rw off tail)
      (cases_Bool (eqb w.packet.queue q)) in
      let wires = All-weaker Right (λ v. 0 < v.packet.wire) (λ v m. m.1) (w ∷ ws) fine in
      record {
        apart = a;
        fine = fine;
        placed = placed;
        never_idle = λ u l idle. ⊎_elim
            (λ (k : u < w.start). all_from (λ v. v.packet.arrival ≤ u → end v ≤ u) (w ∷ ws) (λ v i come.
            let q = all_in Right v (w ∷ ws) fine i in
            let held : In v.packet (left v.packet.queue) = subst (In v.packet) (placed v.packet.queue q.2 q.3) (in_windows v (w ∷ ws) i) in
            absurd (not_yet t left w n u l k v.packet q.2 q.3 (r v.packet.queue) held come)))
            (λ (k : end w ≤ u). (λ _. k, g.never_idle u k idle.1)) idle.0;
        in_order = λ v y i j l c. ⊎_elim
            (λ (e : v ≡ w).
            let at : v.start ≡ w.start = ap (λ (z : Window). z.start) e in
            let q = all_in Right y (w ∷ ws) fine j in
            let heads = candidate_first b t left w ws a wires placed y j q.2 q.3 (subst (λ s. Candidate (w ∷ ws) s y) at c) in
            let come = c.0 in
            let f = all_in (λ p. p.arrival ≤ w.start → before p w.packet ≡ false) y.packet (firsts left 7) n.first heads (omega arith) in
            let vp : v.packet ≡ w.packet = ap (λ (z : Window). z.packet) e in
            rw vp f)
            (λ (k : In v ws).
            let m = all_in (λ z. end w ≤ z.start) v ws after k in
            ⊎_elim
            (λ (d : y ≡ w). let at : y.start ≡ w.start = ap (λ (z : Window). z.start) d in absurd (omega arith))
            (λ (o : In y ws). g.in_order v y k o l (c.0, c.1.1))
            j)
            i;
      }

pub all_home : (c : Cycle) (given : Given c) → Homed given.home c.mandatory
all_home c given q = all_both (λ p. given.home p.flow ≡ q) (WaitsIn c.long q) (AtHome given.home q) (λ p h w. (h, w.0, w.1)) (c.mandatory q) (given.mandatory_home q) (given.mandatory_waits q)

-- what the law says from the start on
pub from_law : (before : Job → Job → Bool) (c : Cycle) (ws : List Window) → Given c → WalkLaw before c ws → Law before 0 c.long c.mandatory ws
from_law before c ws given g = record {
  apart = g.apart;
  fine = all_from Right ws (λ w i.
      let on = all_in OnTime w ws g.on_time i in
      let q = all_in (λ v. (0 < v.packet.queue) × (v.packet.queue ≤ 7)) w ws g.queues i in
      let waits = all_in (WaitsIn c.long w.packet.queue) w.packet (c.mandatory w.packet.queue) (given.mandatory_waits w.packet.queue)
      (subst (In w.packet) (g.mandatory w.packet.queue q.0 q.1) (in_windows w ws i)) in
      (on.0, waits.1, q.0, q.1));
  placed = g.mandatory;
  never_idle = λ u _ idle. g.never_idle u idle;
  in_order = λ v w i j. all_in _ w ws (all_in _ v ws g.in_order i) j;
}

pub walk_once : WalkOnce
walk_once before c ws vs laws given x y =
    turns_once before given.home laws 0 c.mandatory (all_home c given) ws vs
    (law_turns before laws c.long 0 c.mandatory ws (from_law before c ws given x))
    (law_turns before laws c.long 0 c.mandatory vs (from_law before c vs given y))
