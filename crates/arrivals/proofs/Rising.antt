-- Lists that rise strictly in delivery order.
use Rattle.std.proofs.Common.{◌≡◌, true, false, not, List, [], ◌∷◌, ◌++◌, refl, ⊎_elim}
use Rattle.std.specs.List.{AllByRecursion}
use Rattle.std.proofs.lemmas.Bool.{cases_Bool, and_parts, and_from, and_right, not_from_false, both_ways}
use Rattle.std.proofs.ByRecursion.{All-append}
use Rattle.traffic.specs.declared.packet.Packet.{Packet}
use Rattle.traffic.specs.Orders.{delivered_before}
use Rattle.traffic.proofs.Total.{delivery_order}
use Rattle.table.specs.Order.{before_each, none_before}
use Rattle.arrivals.specs.Sources.{rises, Rises}

-- x is delivered before y
abbrev pub Before : Packet → Packet → Type 0
Before x y = delivered_before x y ≡ true

pub before_chained : (x y z : Packet) → Before x y → Before y z → Before x z
before_chained = delivery_order.chained

-- of two packets at most one is delivered before the other
pub before_once : (x y : Packet) → Before x y → delivered_before y x ≡ false
before_once x y h = ⊎_elim (λ e. absurd (both_ways (delivered_before x x) (delivery_order.never x) (before_chained x y x h e))) (λ e. e) (cases_Bool (delivered_before y x))

pub each_all : (x : Packet) (ys : List Packet) → before_each delivered_before x ys ≡ true → AllByRecursion (Before x) ys
each_all x [] h = tt
each_all x (y ∷ ys) h = let p = and_parts (delivered_before x y) (before_each delivered_before x ys) h in (p.0, each_all x ys p.1)

pub all_each : (x : Packet) (ys : List Packet) → AllByRecursion (Before x) ys → before_each delivered_before x ys ≡ true
all_each x [] h = refl
all_each x (y ∷ ys) h = and_from (delivered_before x y) (before_each delivered_before x ys) h.0 (all_each x ys h.1)

pub all_none : (x : Packet) (ys : List Packet) → AllByRecursion (λ y. delivered_before y x ≡ false) ys → none_before delivered_before x ys ≡ true
all_none x [] h = refl
all_none x (y ∷ ys) h = and_from (not (delivered_before y x)) (none_before delivered_before x ys) (not_from_false (delivered_before y x) h.0) (all_none x ys h.1)

-- the first rises above none behind it, and these rise
pub rises_parts : (x : Packet) (xs : List Packet) → Rises (x ∷ xs) → AllByRecursion (Before x) xs × Rises xs
rises_parts x xs h = let p = and_parts (before_each delivered_before x xs) (rises xs) h in (each_all x xs p.0, p.1)

pub rises_from : (x : Packet) (xs : List Packet) → AllByRecursion (Before x) xs → Rises xs → Rises (x ∷ xs)
rises_from x xs a h = and_from (before_each delivered_before x xs) (rises xs) (all_each x xs a) h

-- a list that rises, where all before are before all behind
pub rises-append : (xs ys : List Packet) → Rises xs → Rises ys → AllByRecursion (λ x. AllByRecursion (Before x) ys) xs → Rises (xs ++ ys)
rises-append [] ys hx hy a = hy
rises-append (x ∷ xs) ys hx hy a =
    let p = rises_parts x xs hx in
    rises_from x (xs ++ ys) (All-append (Before x) xs ys p.0 a.0) (rises-append xs ys p.1 hy a.1)

-- one packet more at the end rises if it comes behind the last
pub rises_push : (xs : List Packet) (x y : Packet) → Rises (xs ++ (x ∷ [])) → Before x y → Rises ((xs ++ (x ∷ [])) ++ (y ∷ []))
rises_push [] x y h b = rises_from x (y ∷ []) (b, tt) refl
rises_push (z ∷ zs) x y h b =
    let p = rises_parts z (zs ++ (x ∷ [])) h in
    let last : Before z x = all_last zs x p.0 in
    rises_from z ((zs ++ (x ∷ [])) ++ (y ∷ [])) (All-append (Before z) (zs ++ (x ∷ [])) (y ∷ []) p.0 (before_chained z x y last b, tt)) (rises_push zs x y p.1 b)
  where
    all_last : (ws : List Packet) (w : Packet) → AllByRecursion (Before z) (ws ++ (w ∷ [])) → Before z w
    all_last [] w a = a.0
    all_last (v ∷ vs) w a = all_last vs w a.1

pub falls_push : (xs : List Packet) (x y : Packet) → delivered_before x y ≡ false → rises ((xs ++ (x ∷ [])) ++ (y ∷ [])) ≡ false
falls_push [] x y b = rw b
falls_push (z ∷ zs) x y b = and_right (before_each delivered_before z ((zs ++ (x ∷ [])) ++ (y ∷ []))) (rises ((zs ++ (x ∷ [])) ++ (y ∷ []))) (falls_push zs x y b)
