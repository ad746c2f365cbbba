-- One text after another in the memory.
use Rattle.std.proofs.Common.{◌≡◌, ℕ, ◌+◌, ◌-◌, ◌<◌, ◌≤◌, List, [], ◌∷◌, ◌++◌, length, take, drop, set, sym, refl, ap, ◌∙◌, arith}
use borrow.Rule.Slice.PartMut.{put_mid}
use lib.Seq.{take-set-lt}
use Rattle.std.proofs.lemmas.Slice.{take-put_mid, drop-put_mid}
use Rattle.std.proofs.lemmas.List.{append_assoc, length-append, length-take, length-take-le, length-drop, drop-drop, drop-set-lt, take_more_set, set-append_left}
use Rattle.gates.specs.Writes.{WrittenAt}

-- what stands past a is the same where it is the same past a smaller place
drop_past : {X : Type 0} (a b : ℕ) (xs ys : List X) → a ≤ b → drop a xs ≡ drop a ys → drop b xs ≡ drop b ys
drop_past a b xs ys h e =
    let at : a + (b - a) ≡ b = omega arith in
    let l : drop (b - a) (drop a xs) ≡ drop b xs = rw at at (drop-drop (b - a) a xs) in
    let r : drop (b - a) (drop a ys) ≡ drop b ys = rw at at (drop-drop (b - a) a ys) in
    sym l ∙ ap (drop (b - a)) e ∙ r

-- one text behind another
pub written_more : (bs cs : List ℕ) (a b c : ℕ) (m m' m'' : List ℕ) → WrittenAt bs a b m m' → WrittenAt cs b c m' m'' → WrittenAt (bs ++ cs) a c m m''
written_more bs cs a b c m m' m'' v w =
    let e = w.ends in
    record {
      ends = simp length-append (omega (arith, v.ends, w.ends));
      front = w.front ∙ ap (λ l. l ++ cs) v.front ∙ append_assoc (take a m) bs cs;
      behind = w.behind ∙ drop_past b c m' m (omega arith) v.behind;
    }

-- one byte more behind what is written
pub written_byte : (x at : ℕ) (m : List ℕ) → at < length m → WrittenAt (x ∷ []) at (at + 1) m (set m at x)
written_byte x at m h = record { ends = refl; front = take_more_set m at x h; behind = drop-set-lt (at + 1) m at x (omega arith) }

-- one byte more in front of what is written
pub written_before : (x : ℕ) (ds : List ℕ) (at end : ℕ) (m m' : List ℕ) → 0 < at → end ≤ length m → WrittenAt ds at end m m' → WrittenAt (x ∷ ds) (at - 1) end m (set m' (at - 1) x)
written_before x ds at end m m' some room w =
    let e = w.ends in
    let i = at - 1 in
    let at-is : i + 1 ≡ at = omega arith in
    let long : length (take at m) ≡ at = length-take-le at m (omega arith) in
    let one : take at (set m i x) ≡ take i m ++ x ∷ [] = rw at-is at (take_more_set m i x (omega arith)) in
    record {
      ends = omega arith;
      front =
          take-set-lt end m' i x (omega arith) ∙ ap (λ l. set l i x) w.front ∙ set-append_left (take at m) ds i x (omega arith)
          ∙ ap (λ l. l ++ ds) (sym (take-set-lt at m i x (omega arith)) ∙ one) ∙ append_assoc (take i m) (x ∷ []) ds;
      behind = drop-set-lt end m' i x (omega arith) ∙ w.behind;
    }

-- the bytes that a part of the memory has now
pub written_part : (bs ys : List ℕ) (at k end : ℕ) (m : List ℕ) → ys ≡ bs → length bs ≡ k → at + k ≤ length m → end ≡ at + k → WrittenAt bs at end m (put_mid at k m ys)
written_part bs ys at k end m same long room e =
    let as_long = ap length same in
    record {
      ends = omega arith;
      front = take-put_mid at k m ys end (omega arith) (omega arith) ∙ ap (λ l. take at m ++ l) same;
      behind = drop-put_mid at k m ys end (omega arith) (omega arith) (omega arith);
    }

-- what room there was behind a text is there when it is written
pub written_room : (bs : List ℕ) (at end more : ℕ) (m m' : List ℕ) → WrittenAt bs at end m m' → at + length bs + more ≤ length m → end + more ≤ length m'
written_room bs at end more m m' w room =
    let e = w.ends in
    let front = ap length w.front ∙ length-append (take at m) bs in
    let behind = ap length w.behind in
    omega (arith, length-take end m', length-take-le at m (omega arith), length-drop end m', length-drop end m)

-- a text that is written had room
pub written_within : (bs : List ℕ) (at end : ℕ) (m m' : List ℕ) → WrittenAt bs at end m m' → length m' ≡ length m → at ≤ length m → end ≤ length m
written_within bs at end m m' w long room =
    let e = w.ends in
    let front = ap length w.front ∙ length-append (take at m) bs in
    omega (arith, length-take end m', length-take-le at m room)
