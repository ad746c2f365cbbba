-- What is taken from two lists as one, and how they rise.
use Rattle.std.proofs.Common.{◌≡◌, ◌+◌, false, not, List, [], ◌∷◌, sym, refl, ap, ◌∙◌, ⊎_elim, arith}
use Rattle.std.specs.List.{AllByRecursion}
use Rattle.std.proofs.lemmas.Bool.{true≢false, cases_Bool, and_from}
use Rattle.std.proofs.ByRecursion.{All-weaker}
use Rattle.traffic.specs.declared.packet.Packet.{Packet}
use Rattle.traffic.specs.Orders.{delivered_before, PacketsDiffer}
use Rattle.traffic.proofs.Total.{delivery_order}
use Rattle.table.specs.Order.{none_before, in_order}
use Rattle.arrivals.specs.Sources.{first, rest, Rises, NeverFalls, times}
use Rattle.arrivals.specs.Merges.{merged, second_first, Apart, MergeLaws}
use Rattle.arrivals.proofs.Rising.{Before, before_chained, before_once, all_none, rises_parts, rises_from}

-- what is left where the first list's head is taken
pub record FirstTaken (xs ys : List Packet) : Type 0 where
  pub head : first (merged xs ys) ≡ first xs
  pub left : rest (merged xs ys) ≡ merged (rest xs) ys

pub first_taken : (xs ys : List Packet) → second_first (first xs) (first ys) ≡ false → FirstTaken xs ys
first_taken [] [] h = record { head = refl; left = refl }
first_taken [] (y ∷ ys) h = absurd (true≢false h)
first_taken (x ∷ []) [] h = record { head = refl; left = refl }
first_taken (x ∷ (z ∷ xs)) [] h = record { head = refl; left = refl }
first_taken (x ∷ xs) (y ∷ ys) h = record { head = rw h; left = rw h }

-- what holds of all in both lists holds of all in the merged one
pub all_merged : (P : Packet → Type 0) (xs ys : List Packet) → AllByRecursion P xs → AllByRecursion P ys → AllByRecursion P (merged xs ys)
all_merged P [] ys a b = b
all_merged P (x ∷ xs) [] a b = a
all_merged P (x ∷ xs) (y ∷ ys) a b =
    ⊎_elim
    (λ e. rw e (b.0, all_merged P (x ∷ xs) ys a b.1))
    (λ e. rw e (a.0, all_merged P xs (y ∷ ys) a.1 b))
    (cases_Bool (delivered_before y x))

-- no packet is lost or added
times-merged : (p : Packet) (xs ys : List Packet) → times p (merged xs ys) ≡ times p xs + times p ys
times-merged p [] ys = omega arith
times-merged p (x ∷ xs) [] = omega arith
times-merged p (x ∷ xs) (y ∷ ys) =
    ⊎_elim
    (λ e. rw e (omega (arith, times-merged p (x ∷ xs) ys)))
    (λ e. rw e (omega (arith, times-merged p xs (y ∷ ys))))
    (cases_Bool (delivered_before y x))

never_falls_from : (x : Packet) (xs : List Packet) → AllByRecursion (λ y. delivered_before y x ≡ false) xs → NeverFalls xs → NeverFalls (x ∷ xs)
never_falls_from x xs a h = and_from (none_before delivered_before x xs) (in_order delivered_before xs) (all_none x xs a) h

rising_never_falls : (xs : List Packet) → Rises xs → NeverFalls xs
rising_never_falls [] h = refl
rising_never_falls (x ∷ xs) h =
    let p = rises_parts x xs h in
    never_falls_from x xs (All-weaker (Before x) (λ y. delivered_before y x ≡ false) (λ y b. before_once x y b) xs p.0) (rising_never_falls xs p.1)

steady : (xs ys : List Packet) → Rises xs → Rises ys → NeverFalls (merged xs ys)
steady [] ys hx hy = rising_never_falls ys hy
steady (x ∷ xs) [] hx hy = rising_never_falls (x ∷ xs) hx
steady (x ∷ xs) (y ∷ ys) hx hy =
    let p = rises_parts x xs hx in
    let q = rises_parts y ys hy in
    ⊎_elim
    (λ e.
    let after : AllByRecursion (λ z. delivered_before z y ≡ false) (x ∷ xs) = (before_once y x e, All-weaker (Before x) (λ z. delivered_before z y ≡ false) (λ z b. before_once y z (before_chained y x z e b)) xs p.0) in
    let others : AllByRecursion (λ z. delivered_before z y ≡ false) ys = All-weaker (Before y) (λ z. delivered_before z y ≡ false) (λ z b. before_once y z b) ys q.0 in
    rw e (never_falls_from y (merged (x ∷ xs) ys) (all_merged (λ z. delivered_before z y ≡ false) (x ∷ xs) ys after others) (steady (x ∷ xs) ys hx q.1)))
    (λ e.
    let own : AllByRecursion (λ z. delivered_before z x ≡ false) xs = All-weaker (Before x) (λ z. delivered_before z x ≡ false) (λ z b. before_once x z b) xs p.0 in
    let others : AllByRecursion (λ z. delivered_before z x ≡ false) (y ∷ ys) = (e, All-weaker (Before y) (λ z. delivered_before z x ≡ false) (λ z b. behind y x z e b) ys q.0) in
    rw e (never_falls_from x (merged xs (y ∷ ys)) (all_merged (λ z. delivered_before z x ≡ false) xs (y ∷ ys) own others) (steady xs (y ∷ ys) p.1 hy)))
    (cases_Bool (delivered_before y x))
  where
    behind : (y x z : Packet) → delivered_before y x ≡ false → Before y z → delivered_before z x ≡ false
    behind y x z e b = ⊎_elim (λ k. absurd (true≢false (sym (before_chained y z x b k) ∙ e))) (λ k. k) (cases_Bool (delivered_before z x))

strict : (xs ys : List Packet) → Rises xs → Rises ys → Apart xs ys → Rises (merged xs ys)
strict [] ys hx hy a = hy
strict (x ∷ xs) [] hx hy a = hx
strict (x ∷ xs) (y ∷ ys) hx hy a =
    let p = rises_parts x xs hx in
    let q = rises_parts y ys hy in
    ⊎_elim
    (λ e.
    let after : AllByRecursion (Before y) (x ∷ xs) = (e, All-weaker (Before x) (Before y) (λ z b. before_chained y x z e b) xs p.0) in
    rw e (rises_from y (merged (x ∷ xs) ys) (all_merged (Before y) (x ∷ xs) ys after q.0) (strict (x ∷ xs) ys hx q.1 (All-weaker (λ z. AllByRecursion (λ w. PacketsDiffer z w) (y ∷ ys)) (λ z. AllByRecursion (λ w. PacketsDiffer z w) ys) (λ z h. h.1) (x ∷ xs) a))))
    (λ e.
    let here : Before x y = delivery_order.decides x y a.0.0 ∙ ap not e in
    let others : AllByRecursion (Before x) (y ∷ ys) = (here, All-weaker (Before y) (Before x) (λ z b. before_chained x y z here b) ys q.0) in
    rw e (rises_from x (merged xs (y ∷ ys)) (all_merged (Before x) xs (y ∷ ys) p.0 others) (strict xs (y ∷ ys) p.1 hy a.1)))
    (cases_Bool (delivered_before y x))

pub merge_laws : (xs ys : List Packet) → MergeLaws xs ys
merge_laws xs ys = record { holds = λ p. times-merged p xs ys; steady = steady xs ys; strict = strict xs ys }
