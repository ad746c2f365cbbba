-- Where a search goes on and where it stops. Assumes nothing.
use Rattle.std.proofs.Common.{◌≡◌, ℕ, ◌⊎◌, Ok, Err, Result, refl, ap, inl, inr, arith}
use Rattle.search.specs.declared.fault.SearchFault.{SearchFault}
use Rattle.search.specs.Search.{and_then}

pub went_on : {X Y : Type 0} (r : Result X SearchFault) (f : X → Result Y SearchFault) (y : Y) → and_then r f ≡ Ok y → (x : X) × (r ≡ Ok x) × (f x ≡ Ok y)
went_on (Ok x) f y e = (x, refl, e)
went_on (Err d) f y e = let z : ◌≡◌ {A = ℕ} 0 1 = cc in absurd (omega arith)

pub stopped : {X Y : Type 0} (r : Result X SearchFault) (f : X → Result Y SearchFault) (d : SearchFault) → and_then r f ≡ Err d → (r ≡ Err d) ⊎ ((x : X) × (r ≡ Ok x) × (f x ≡ Err d))
stopped (Ok x) f d e = inr (x, refl, e)
stopped {X} (Err c) f d e = let same : c ≡ d = cc in inl (ap {B = Result X SearchFault} Err same)
