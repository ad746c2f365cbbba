-- A result that is no fault, through the checks before it. Assumes nothing.
use Rattle.std.proofs.Common.{◌≡◌, Bool, true, false, cond, ◌⊎◌, Ok, Err, Result, refl, inl, inr, arith}
use Rattle.sheet.specs.Reading.{and_then}

-- a fault is no value
pub no_fault : {X E : Type 0} (e : E) (x : X) → ◌≡◌ {A = Result X E} (Err e) (Ok x) → ⊥
no_fault e x h = grind arith

-- both steps gave a value
pub and_then_ok : {X Y E : Type 0} (r : Result X E) (f : X → Result Y E) (y : Y) → and_then r f ≡ Ok y → (x : X) × (r ≡ Ok x) × (f x ≡ Ok y)
and_then_ok (Ok x) f y h = (x, refl, h)
and_then_ok (Err e) f y h = absurd (no_fault e y h)

-- a check for a fault found none
pub not_faulty : {X E : Type 0} (b : Bool) (e : E) (r : Result X E) (x : X) → cond b (Err e) r ≡ Ok x → (b ≡ false) × (r ≡ Ok x)
not_faulty true e r x h = absurd (no_fault e x h)
not_faulty false e r x h = (refl, h)

-- what is asked for was there
pub met : {X E : Type 0} (b : Bool) (e : E) (r : Result X E) (x : X) → cond b r (Err e) ≡ Ok x → (b ≡ true) × (r ≡ Ok x)
met true e r x h = (refl, h)
met false e r x h = absurd (no_fault e x h)

-- one of two answers
pub either : {X E : Type 0} (b : Bool) (x : X) (r : Result X E) (y : X) → cond b (Ok x) r ≡ Ok y → ((b ≡ true) × (x ≡ y)) ⊎ (r ≡ Ok y)
either true x r y h = inl (refl, cc)
either false x r y h = inr h
