-- What is known of the walk's next window. Assumes nothing.
use Rattle.std.proofs.Common.{◌≡◌, ℕ, zero, suc, ◌<◌, ◌≤◌, max, Bool, true, eqb, leb, List, [], ◌∷◌, length, take, drop, Some, None, Option, sym, refl, ap, subst, arith}
use Rattle.std.specs.List.{AllByRecursion}
use Rattle.std.proofs.ByRecursion.{All-append, All-take, All-drop, all_kept_by, All-weaker}
use Rattle.std.proofs.lemmas.Bool.{cond_both}
use Rattle.traffic.specs.declared.packet.Job.{Job}
use Rattle.traffic.specs.Packets.{Traffic}
use Rattle.sheet.specs.Ranges.{all_kept}
use Rattle.coming.specs.Coming.{Due}
use Rattle.coming.proofs.Dues.{due_bounds}
use Rattle.coming.proofs.Arrivals.{packets_due}
use Rattle.search.specs.declared.window.Window.{Window}
use Rattle.search.specs.Search.{firsts, first_of, sooner, arrived, least_arrival, window_at, next, without}
use Rattle.search.specs.Queues.{left_in, AllLeft}
use Rattle.search.specs.Schedules.{FitsJob}

-- what holds of two packets holds of the sooner one
sooner_all : (P : Job → Type 0) (b : Job → Job → Bool) (x : Job) (o : Option Job) → P x → ((y : Job) → o ≡ Some y → P y) → P (sooner b x o)
sooner_all P b x None p q = p
sooner_all P b x (Some y) p q = cond_both (b y x) y x P (λ _. q y refl) (λ _. p)

-- what holds of all holds of the first one in serving order
pub first_of_all : (P : Job → Type 0) (b : Job → Job → Bool) (xs : List Job) (p : Job) → first_of b xs ≡ Some p → AllByRecursion P xs → P p
first_of_all P b [] p e ps = let z : ◌≡◌ {A = ℕ} 0 1 = cc in absurd (omega arith)
first_of_all P b (x ∷ xs) p e ps =
    let is : sooner b x (first_of b xs) ≡ p = cc in
    subst P is (sooner_all P b x (first_of b xs) ps.0 (λ y h. first_of_all P b xs y h ps.1))

-- a window is for its packet
window_parts : (t : ℕ) (o : Option Job) (w : Window) → window_at t o ≡ Some w → (o ≡ Some w.packet) × (w.start ≡ t)
window_parts t None w e = let z : ◌≡◌ {A = ℕ} 0 1 = cc in absurd (omega arith)
window_parts t (Some p) w e =
    let is : record { start = t; packet = p } ≡ w = cc in
    (ap (λ (v : Window). Some v.packet) is, sym (ap (λ (v : Window). v.start) is))

least-below : (m : ℕ) (x : Job) (xs : List Job) → AllByRecursion (λ p. p.arrival ≤ m) (x ∷ xs) → least_arrival x xs ≤ m
least-below m x [] ps = ps.0
least-below m x (y ∷ ys) ps = let rest = least-below m y ys ps.1 in let here = ps.0 in omega arith

-- the next window is for one of the packets, and not before t
pub next_all : (P : Job → Type 0) (b : Job → Job → Bool) (t : ℕ) (xs : List Job) (w : Window) → next b t xs ≡ Some w → AllByRecursion P xs → P w.packet
next_all P b t [] w e ps = let z : ◌≡◌ {A = ℕ} 0 1 = cc in absurd (omega arith)
next_all P b t (x ∷ xs) w e ps =
    let u : ℕ = max t (least_arrival x xs) in
    let parts = window_parts u (first_of b (arrived u (x ∷ xs))) w e in
    first_of_all P b (arrived u (x ∷ xs)) w.packet parts.0 (all_kept_by (λ (p : Job). leb p.arrival u) P (x ∷ xs) ps)

pub next_start : (b : Job → Job → Bool) (t m : ℕ) (xs : List Job) (w : Window) → next b t xs ≡ Some w → AllByRecursion (λ p. p.arrival ≤ m) xs → (t ≤ w.start) × (w.start ≤ max t m)
next_start b t m [] w e ps = let z : ◌≡◌ {A = ℕ} 0 1 = cc in absurd (omega arith)
next_start b t m (x ∷ xs) w e ps =
    let u : ℕ = max t (least_arrival x xs) in
    let parts = window_parts u (first_of b (arrived u (x ∷ xs))) w e in
    let low = least-below m x xs ps in
    let at = parts.1 in
    (omega arith, omega arith)

pub firsts_all : (P : Job → Type 0) (f : ℕ → List Job) (n : ℕ) → ((q : ℕ) → 0 < q → q ≤ n → AllByRecursion P (f q)) → AllByRecursion P (firsts f n)
firsts_all P f zero h = tt
firsts_all P f (suc q) h = All-append P (take 1 (f (suc q))) (firsts f q) (All-take P 1 (f (suc q)) (h (suc q) (omega arith) (omega arith))) (firsts_all P f q (λ r a b. h r a (omega arith)))

-- a mandatory packet to come
pub record Mandatory (s : Traffic) (long : ℕ) (x : Job) : Type 0 where
  pub due : Due s long x.queue x
  pub some : 0 < x.queue
  pub most : x.queue ≤ 7

-- in the queues 1 to 7 packets of the cycle are left
abbrev pub AllDue : Traffic → ℕ → (ℕ → List Job) → Type 0
AllDue s long f = (q : ℕ) → 0 < q → q ≤ 7 → AllByRecursion (Due s long q) (f q)

pub built_due : (s : Traffic) (long : ℕ) (qs : List (List Job)) → AllLeft s long qs → AllDue s long (left_in qs)
built_due s long qs left q some most = subst (AllByRecursion (Due s long q)) (sym (left.all q some most)) (packets_due s q long)

pub due_without : (s : Traffic) (long r : ℕ) (f : ℕ → List Job) → AllDue s long f → AllDue s long (without r f)
due_without s long r f due q some most = cond_both (eqb q r) (drop 1 (f q)) (f q) (AllByRecursion (Due s long q)) (λ _. All-drop (Due s long q) 1 (f q) (due q some most)) (λ _. due q some most)

firsts-mandatory : (s : Traffic) (long : ℕ) (f : ℕ → List Job) → AllDue s long f → AllByRecursion (Mandatory s long) (firsts f 7)
firsts-mandatory s long f due =
    firsts_all (Mandatory s long) f 7 (λ q a b.
    All-weaker (Due s long q) (Mandatory s long) (λ x d. let is = d.waits in record { due = subst (λ (r : ℕ). Due s long r x) (sym is) d; some = omega arith; most = omega arith }) (f q) (due q a b))

-- the same facts of all of a list where it has one
all_some : {X : Type 0} (P : X → Type 0) (xs : List X) → (0 < length xs → AllByRecursion P xs) → AllByRecursion P xs
all_some P [] h = tt
all_some P (x ∷ xs) h = h (omega arith)

-- the next window of the walk
pub record NextFacts (s : Traffic) (long t : ℕ) (f : ℕ → List Job) (w : Window) : Type 0 where
  pub mandatory : Mandatory s long w.packet
  pub onward : t ≤ w.start
  pub early : w.start ≤ max t long
  pub left : 0 < length (f w.packet.queue)

pub next_facts : (s : Traffic) (long : ℕ) (f : ℕ → List Job) (b : Job → Job → Bool) (t : ℕ) (w : Window) → AllDue s long f → next b t (firsts f 7) ≡ Some w → NextFacts s long t f w
next_facts s long f b t w due e =
    let xs = firsts f 7 in
    let all = firsts-mandatory s long f due in
    let low : AllByRecursion (λ (p : Job). p.arrival ≤ long) xs = All-weaker (Mandatory s long) (λ (p : Job). p.arrival ≤ long) (λ p m. let d = m.due.early in omega arith) xs all in
    let start = next_start b t long xs w e low in
    let has : Job → Type 0 = λ p. 0 < length (f p.queue) in
    record {
      mandatory = next_all (Mandatory s long) b t xs w e all;
      onward = start.0;
      early = start.1;
      left = next_all has b t xs w e (firsts_all has f 7 (λ q a c. all_some has (f q) (λ some. All-weaker (Due s long q) has (λ p d. subst (λ (k : ℕ). 0 < length (f k)) (sym d.waits) some) (f q) (due q a c))));
    }

-- the numbers of a packet to come fit a window
pub due_fits : (s : Traffic) (long q : ℕ) (x : Job) → all_kept s.rate s.flows ≡ true → long ≤ 1000000000 → Due s long q x → FitsJob x
due_fits s long q x kept short d =
    let b = due_bounds s long q x kept d in
    let deadline = b.deadline_most in
    let early = d.early in
    let number = b.number_most in
    let queue = b.queue_most in
    record { early = omega arith; queued = omega arith; numbered = omega arith; some_wire = b.wire_some }
