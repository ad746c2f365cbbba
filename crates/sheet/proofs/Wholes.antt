-- A whole sheet: its text, its lines and its cycle. Assumes nothing.
use Rattle.std.proofs.Common.{◌≡◌, ℕ, ◌<◌, ◌≤◌, ◌⊎◌, List, [], length, Some, None, Ok, Err, refl, inl, inr, arith}
use Rattle.std.proofs.lemmas.Bool.{le-ltb, le-leb, lt-leb}
use Rattle.std.proofs.lemmas.Bool.Decides.{nat_tests}
use Rattle.traffic.specs.Packets.{Traffic}
use Rattle.cycle.specs.Multiple.{from_one_to}
use Rattle.cycle.specs.Cycle.{cycle_of}
use Rattle.sheet.specs.declared.faults.SheetFault.{SheetFault}
use Rattle.sheet.specs.declared.faults.SheetFault.TheVariants.{Memory, Cycle}
use Rattle.sheet.specs.Reading.{lines_of, in_sheet, sheet_of}

-- a sheet without flows has the cycle 1
pub no_cycle : 1 ≡ cycle_of []
unfolding cycle_of
no_cycle = refl

-- what is given from 1 to the limit is the number
some_given : (limit n v : ℕ) → Some v ≡ from_one_to limit n → (v ≡ n) × (n ≤ limit)
some_given limit n v h = (grind (arith, nat_tests), grind (arith, nat_tests))

-- where none is given, a number from 1 on passes the limit
none_given : (limit n : ℕ) → None ≡ from_one_to limit n → 0 < n → limit < n
none_given limit n h some = grind (arith, nat_tests)

module _ (text : List ℕ) (fits : length text ≤ 61440) where
  -- a line is at fault, or memory is short
  pub no_lines : (e : SheetFault) → (e ≡ Memory) ⊎ (in_sheet (lines_of text) ≡ Err e) → (e ≡ Memory) ⊎ (sheet_of text ≡ Err e)
  no_lines e (inl m) = inl m
  no_lines e (inr h) = let short = le-ltb 61440 (length text) fits in inr (rw (short, h))

  -- the cycle is within its limit
  pub whole : (t : Traffic) (v : ℕ) → lines_of text ≡ Ok t → Some v ≡ from_one_to 1000000000 (cycle_of t.flows) → (sheet_of text ≡ Ok t) × (v ≡ cycle_of t.flows)
  whole t v h given =
      let short = le-ltb 61440 (length text) fits in
      let got = some_given 1000000000 (cycle_of t.flows) v given in
      let yes = le-leb (cycle_of t.flows) 1000000000 got.1 in
      (rw (short, h, yes), got.0)

  -- the cycle passes it
  pub long_cycle : (t : Traffic) → lines_of text ≡ Ok t → None ≡ from_one_to 1000000000 (cycle_of t.flows) → 0 < cycle_of t.flows → sheet_of text ≡ Err Cycle
  long_cycle t h given some =
      let short = le-ltb 61440 (length text) fits in
      let no = lt-leb (cycle_of t.flows) 1000000000 (none_given 1000000000 (cycle_of t.flows) given some) in
      rw (short, h, no)
