-- Where a record goes, and that the records stay in order.
use Rattle.std.proofs.Common.{◌≡◌, ℕ, zero, suc, ◌+◌, ◌<◌, ◌≤◌, Bool, true, false, not, ◌&&◌, List, [], ◌∷◌, ◌++◌, length, get_or, take, drop, set, sym, refl, ap, ◌∙◌, ⊎_elim, append_assoc, arith}
use Rattle.std.specs.List.{AllByRecursion, HoldsAt, copy_within}
use Rattle.std.proofs.lemmas.Bool.{cases_Bool, and_parts, and_from, and_right, not-true, not_from_false}
use Rattle.std.proofs.lemmas.List.{length-take, take_more, take_at, drop_at, get_or-take, at_drop_more}
use Rattle.table.specs.Order.{none_before, in_order, before_each, placed, placed_last, Joined}
use Rattle.table.specs.Calls.{PlaceFor, Put}
use Rattle.table.proofs.Moves.{put_at}

and_true : (t : Bool) → (t && true) ≡ t
and_true true = refl
and_true false = refl

module _ {X : Type 0} (b : X → X → Bool) (x : X) where
  pub length-placed_last : (xs : List X) → length (placed_last b x xs) ≡ length xs + 1
  length-placed_last [] = refl
  length-placed_last (y ∷ ys) =
      let h = length-placed_last ys in
      ⊎_elim (λ e. rw e (omega arith)) (λ e. rw e (omega arith)) (cases_Bool (b x y && before_each b x ys))

  before_each-all : (xs : List X) → ((k : ℕ) → k < length xs → HoldsAt (λ y. b x y ≡ true) xs k) → before_each b x xs ≡ true
  before_each-all [] h = refl
  before_each-all (y ∷ ys) h = and_from (b x y) (before_each b x ys) (h 0 (omega arith) y) (before_each-all ys (λ k w. h (suc k) (omega arith)))

  before_each-not : (xs : List X) (k : ℕ) → k < length xs → HoldsAt (λ y. b x y ≡ false) xs k → before_each b x xs ≡ false
  before_each-not [] k w h = absurd (omega arith)
  before_each-not (y ∷ ys) zero w h = let no : b x y ≡ false = h y in rw no
  before_each-not (y ∷ ys) (suc k) w h = and_right (b x y) (before_each b x ys) (before_each-not ys k (omega arith) h)

  -- x stands at the place n where it goes
  placed_last-at : (xs : List X) (n : ℕ) → PlaceFor b x xs n → placed_last b x xs ≡ take n xs ++ (x ∷ drop n xs)
  placed_last-at [] zero p = refl
  placed_last-at [] (suc n) p = absurd (omega arith)
  placed_last-at (y ∷ ys) zero p = let all : before_each b x (y ∷ ys) ≡ true = before_each-all (y ∷ ys) (λ k v. p.leads k (omega arith) v) in rw all
  placed_last-at (y ∷ ys) (suc n) p =
      let no : before_each b x (y ∷ ys) ≡ false = before_each-not (y ∷ ys) n (omega arith) (p.follows n (omega arith)) in
      let rest : PlaceFor b x ys n = record { within = omega arith; follows = λ k e. p.follows (suc k) (omega arith); leads = λ k v u. p.leads (suc k) (omega arith) (omega arith) } in
      rw no (ap (λ l. y ∷ l) (placed_last-at ys n rest))

  before_each_push : (ys : List X) (y : X) → before_each b x (ys ++ (y ∷ [])) ≡ (before_each b x ys && b x y)
  before_each_push [] y = ⊎_elim (λ e. rw e) (λ e. rw e) (cases_Bool (b x y))
  before_each_push (z ∷ zs) y = ⊎_elim (λ e. rw e (before_each_push zs y)) (λ e. rw e) (cases_Bool (b x z))

  -- x passes the last record that it is before
  pub placed_last-past : (ys : List X) (y : X) → b x y ≡ true → placed_last b x (ys ++ (y ∷ [])) ≡ placed_last b x ys ++ (y ∷ [])
  placed_last-past [] y h = rw h
  placed_last-past (z ∷ zs) y h =
      let step = placed_last-past zs y h in
      let same : before_each b x (zs ++ (y ∷ [])) ≡ before_each b x zs = before_each_push zs y ∙ ap (λ t. before_each b x zs && t) h ∙ and_true (before_each b x zs) in
      rw same (⊎_elim (λ e. rw e) (λ e. rw e (ap (λ l. z ∷ l) step)) (cases_Bool (b x z && before_each b x zs)))

  -- and stops behind the last record that it is not before
  pub placed_last_stop : (ys : List X) (y : X) → b x y ≡ false → placed_last b x (ys ++ (y ∷ [])) ≡ (ys ++ (y ∷ [])) ++ (x ∷ [])
  placed_last_stop [] y h = rw h
  placed_last_stop (z ∷ zs) y h =
      let none : before_each b x (z ∷ (zs ++ (y ∷ []))) ≡ false = and_right (b x z) (before_each b x (zs ++ (y ∷ []))) (before_each_push zs y ∙ and_right (before_each b x zs) (b x y) h) in
      rw none (ap (λ l. z ∷ l) (placed_last_stop zs y h))

  -- the same over memory e, of which i records are left to compare, the last of them y
  module _ (e : List X) (len i j : ℕ) (y : X) (is : i ≡ j + 1) (within : i ≤ len) (room : len < length e) (read : y ≡ get_or e j y) where
    more : take i e ≡ take j e ++ (y ∷ [])
    more = ap (λ k. take k e) is ∙ take_more e j y (omega arith) ∙ ap (λ v. take j e ++ (v ∷ [])) (sym read)

    pub placed-take-past : b x y ≡ true → placed_last b x (take i e) ++ drop i (take len e) ≡ placed_last b x (take j e) ++ drop j (take len e)
    placed-take-past h =
        let here : get_or (take len e) j y ≡ y = get_or-take len e j y (omega arith) ∙ sym read in
        let cut : drop j (take len e) ≡ y ∷ drop i (take len e) = at_drop_more (λ l. l) (take len e) j y (simp length-take (omega arith)) ∙ rw (here, is) in
        rw (more, placed_last-past (take j e) y h, cut) (append_assoc (placed_last b x (take j e)) (y ∷ []) (drop i (take len e)))

    pub placed-take_stop : b x y ≡ false → placed_last b x (take i e) ≡ take i e ++ (x ∷ [])
    placed-take_stop h = rw more (placed_last_stop (take j e) y h)

module _ {X : Type 0} {b : X → X → Bool} (asym : (x y : X) → b x y ≡ true → b y x ≡ false) (behind : (x y z : X) → b y x ≡ false → b z y ≡ false → b z x ≡ false) (x : X) where
  -- x is before each record that does not come before one that x is before
  leads : (y : X) (zs : List X) → b x y ≡ true → none_before b y zs ≡ true → AllByRecursion (λ z. b x z ≡ true) zs
  leads y [] h k = tt
  leads y (z ∷ zs) h k =
      let p = and_parts (not (b z y)) (none_before b y zs) k in
      let here : b x z ≡ true = ⊎_elim (λ e. e) (λ e. let no : b x y ≡ false = behind y z x (not-true (b z y) p.0) e in cc) (cases_Bool (b x z)) in
      (here, leads y zs h p.1)

  each_from_all : (zs : List X) → AllByRecursion (λ z. b x z ≡ true) zs → before_each b x zs ≡ true
  each_from_all [] a = refl
  each_from_all (z ∷ zs) a = and_from (b x z) (before_each b x zs) a.0 (each_from_all zs a.1)

  none_before_less : (y : X) (zs : List X) → b y x ≡ false → none_before b y zs ≡ true → none_before b x zs ≡ true
  none_before_less y [] h k = refl
  none_before_less y (z ∷ zs) h k =
      let p = and_parts (not (b z y)) (none_before b y zs) k in
      and_from (not (b z x)) (none_before b x zs) (not_from_false (b z x) (behind x y z h (not-true (b z y) p.0))) (none_before_less y zs h p.1)

  none_before-placed : (y : X) (zs : List X) → b x y ≡ false → none_before b y zs ≡ true → none_before b y (placed b x zs) ≡ true
  none_before-placed y [] h k = rw h
  none_before-placed y (z ∷ zs) h k =
      let p = and_parts (not (b z y)) (none_before b y zs) k in
      ⊎_elim
      (λ e. rw e (and_from (not (b x y)) (none_before b y (z ∷ zs)) (not_from_false (b x y) h) k))
      (λ e. rw e (and_from (not (b z y)) _ p.0 (none_before-placed y zs h p.1)))
      (cases_Bool (b x z))

  -- where the records stand in order, both searches end at one place
  pub placed_last-is : (xs : List X) → in_order b xs ≡ true → placed_last b x xs ≡ placed b x xs
  placed_last-is [] h = refl
  placed_last-is (y ∷ ys) h =
      let p = and_parts (none_before b y ys) (in_order b ys) h in
      ⊎_elim
      (λ e. let all : before_each b x ys ≡ true = each_from_all ys (leads y ys e p.0) in rw (e, all))
      (λ e. rw e (ap (λ l. y ∷ l) (placed_last-is ys p.1)))
      (cases_Bool (b x y))

  pub in_order-placed : (xs : List X) → in_order b xs ≡ true → in_order b (placed b x xs) ≡ true
  in_order-placed [] h = refl
  in_order-placed (y ∷ ys) h =
      let p = and_parts (none_before b y ys) (in_order b ys) h in
      ⊎_elim
      (λ e.
      let less : b y x ≡ false = asym x y e in
      let low : none_before b x (y ∷ ys) ≡ true = and_from (not (b y x)) (none_before b x ys) (not_from_false (b y x) less) (none_before_less y ys less p.0) in
      rw e (and_from (none_before b x (y ∷ ys)) (in_order b (y ∷ ys)) low h))
      (λ e. rw e (and_from (none_before b y (placed b x ys)) (in_order b (placed b x ys)) (none_before-placed y ys e p.0) (in_order-placed ys p.1)))
      (cases_Bool (b x y))

  pub joined_placed : (xs : List X) → in_order b xs ≡ true → Joined b x xs (placed b x xs)
  joined_placed [] h = record { front = []; back = []; was = refl; is = refl; follows = tt; leads = tt }
  joined_placed (y ∷ ys) h =
      let p = and_parts (none_before b y ys) (in_order b ys) h in
      let j = joined_placed ys p.1 in
      ⊎_elim
      (λ e. rw e (record { front = []; back = y ∷ ys; was = refl; is = refl; follows = tt; leads = (e, leads y ys e p.0) }))
      (λ e. rw e (record { front = y ∷ j.front; back = j.back; was = ap (λ l. y ∷ l) j.was; is = ap (λ l. y ∷ l) j.is; follows = (e, j.follows); leads = j.leads }))
      (cases_Bool (b x y))

  -- what `put` ensures, from the place of x and the memory where the records behind it have moved
  pub put_from : (len at : ℕ) (entry moved : List X) → len < length entry → PlaceFor b x (take len entry) at → moved ≡ copy_within entry at len (at + 1) → Put b x len entry (set moved at x) (len + 1)
  put_from len at entry moved room p is =
      let held = take len entry in
      let exit = set moved at x in
      let place : placed_last b x held ≡ take at held ++ (x ∷ drop at held) = placed_last-at b x held at p in
      let left : exit ≡ placed_last b x held ++ drop (len + 1) entry = ap (λ l. set l at x) is ∙ put_at entry len at x room (omega (arith, p.within, length-take len entry)) ∙ rw place in
      let long : length (placed_last b x held) ≡ len + 1 = omega (arith, length-placed_last b x held, length-take len entry) in
      let holds : take (len + 1) exit ≡ placed_last b x held = ap (take (len + 1)) left ∙ take_at _ _ _ long in
      let sorted : in_order b held ≡ true → take (len + 1) exit ≡ placed b x held = λ h. holds ∙ placed_last-is held h in
      record {
        room = room;
        count = refl;
        holds = holds;
        beyond = ap (drop (len + 1)) left ∙ drop_at _ _ _ long;
        sorted = sorted;
        joined = λ h. rw (sorted h) (joined_placed held h);
        ordered = λ h. ap (in_order b) (sorted h) ∙ in_order-placed held h;
      }
