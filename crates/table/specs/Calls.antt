-- What each call of a table leaves, by its memory at the entry and at the exit.
use Rattle.std.specs.Prelude.{◌≡◌, ℕ, ◌+◌, ◌<◌, ◌≤◌, min, Bool, true, false, List, [], ◌∷◌, length, take, drop}
use Rattle.std.specs.List.{HoldsAt}
use Rattle.table.specs.Order.{in_order, placed, placed_last, Joined}

-- x goes to the place n: it is before each record from there on, and not before the one in front of it
pub record PlaceFor {X : Type 0} (b : X → X → Bool) (x : X) (xs : List X) (n : ℕ) : Type 0 where
  pub within : n ≤ length xs
  pub follows : (k : ℕ) → k + 1 ≡ n → HoldsAt (λ y. b x y ≡ false) xs k
  pub leads : (k : ℕ) → n ≤ k → k < length xs → HoldsAt (λ y. b x y ≡ true) xs k

-- x is put, and n is the length after: x has its place among the records held, and the memory behind them is as it was;
-- where they stood in order, they do so after, with x behind its equals
pub record Put {X : Type 0} (b : X → X → Bool) (x : X) (len : ℕ) (entry exit : List X) (n : ℕ) : Type 0 where
  pub room : len < length entry
  pub count : n ≡ len + 1
  pub holds : take (len + 1) exit ≡ placed_last b x (take len entry)
  pub beyond : drop (len + 1) exit ≡ drop (len + 1) entry
  pub sorted : in_order b (take len entry) ≡ true → take (len + 1) exit ≡ placed b x (take len entry)
  pub joined : in_order b (take len entry) ≡ true → Joined b x (take len entry) (take (len + 1) exit)
  pub ordered : in_order b (take len entry) ≡ true → in_order b (take (len + 1) exit) ≡ true

-- every place is taken, and nothing has changed
pub record Kept {X : Type 0} (len : ℕ) (entry exit : List X) : Type 0 where
  pub full : length entry ≤ len
  pub same : exit ≡ entry

-- x is taken, and n is the length after: x was the first of the records held, the others have moved up, and the memory behind them is as it was
pub record Taken {X : Type 0} (b : X → X → Bool) (x : X) (len : ℕ) (entry exit : List X) (n : ℕ) : Type 0 where
  pub count : n + 1 ≡ min len (length entry)
  pub held : take len entry ≡ x ∷ take n exit
  pub beyond : drop n exit ≡ drop n entry
  pub ordered : in_order b (take len entry) ≡ true → in_order b (take n exit) ≡ true

-- no record is held, and nothing has changed
pub record Nothing {X : Type 0} (len : ℕ) (entry exit : List X) : Type 0 where
  pub none : take len entry ≡ []
  pub same : exit ≡ entry
