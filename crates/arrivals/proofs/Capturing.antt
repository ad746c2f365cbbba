-- A table captured record by record.
use Rattle.std.proofs.Common.{◌≡◌, ℕ, ◌+◌, ◌-◌, ◌<◌, ◌≤◌, true, false, leb, List, [], ◌∷◌, ◌++◌, length, get_or, take, drop, sym, refl, ap, ◌∙◌, arith}
use Rattle.std.proofs.lemmas.List.{take_all, take_more, take-take, length-take, length-take-le, length-drop, get_or-take, get_or-drop}
use Rattle.std.proofs.lemmas.Bool.{and_parts, and_from, and_left, and_right, le-leb, lt-leb}
use Rattle.traffic.specs.declared.packet.Packet.{Packet}
use Rattle.traffic.specs.Orders.{delivered_before}
use Rattle.arrivals.specs.Sources.{rises, Rises}
use Rattle.arrivals.specs.Captures.{capturable, FirstFault}
use Rattle.arrivals.proofs.Rising.{Before, rises_push, falls_push}

pub one_record : (ps : List Packet) → capturable (take 1 ps) ≡ true
one_record [] = refl
one_record (p ∷ ps) = refl

-- the table up to the record at the place; from the one in front of it on the rest is left
module _ (ps : List Packet) (place : ℕ) (low : 2 ≤ place) (rest : List Packet) (left : rest ≡ drop (place - 2) ps) (two : 2 ≤ length rest) where
  pub within : place ≤ length ps
  within = omega (arith, ap length left, length-drop (place - 2) ps)

  long : length (take place ps) ≡ place
  long = length-take-le place ps within

  -- the window shows both
  module _ (window : List Packet) (shows : window ≡ take 2 rest) (d : Packet) where
    reads : (k : ℕ) → k < 2 → get_or ps (place - 2 + k) d ≡ get_or window k d
    reads k less = sym (ap (λ l. get_or l k d) (shows ∙ ap (take 2) left) ∙ get_or-take 2 (drop (place - 2) ps) k d less ∙ get_or-drop (place - 2) ps k d)

    front_taken : take (place - 1) ps ≡ take (place - 2) ps ++ (get_or window 0 d ∷ [])
    front_taken =
        let at : place - 1 ≡ place - 2 + 1 = omega arith in
        let zero : place - 2 ≡ place - 2 + 0 = omega arith in
        ap (λ k. take k ps) at ∙ take_more ps (place - 2) d (omega (arith, within)) ∙ ap (λ x. take (place - 2) ps ++ (x ∷ [])) (ap (λ k. get_or ps k d) zero ∙ reads 0 (omega arith))

    both_taken : take place ps ≡ (take (place - 2) ps ++ (get_or window 0 d ∷ [])) ++ (get_or window 1 d ∷ [])
    both_taken =
        let at : place ≡ (place - 2 + 1) + 1 = omega arith in
        let front : place - 2 + 1 ≡ place - 1 = omega arith in
        ap (λ k. take k ps) at ∙ take_more ps (place - 2 + 1) d (omega (arith, within))
        ∙ ap (λ x. take (place - 2 + 1) ps ++ (x ∷ [])) (reads 1 (omega arith)) ∙ ap (λ l. l ++ (get_or window 1 d ∷ [])) (ap (λ k. take k ps) front ∙ front_taken)

    pub one_more : place ≤ 4096 → capturable (take (place - 1) ps) ≡ true → Before (get_or window 0 d) (get_or window 1 d) → capturable (take place ps) ≡ true
    one_more few h b =
        let p = and_parts (leb (length (take (place - 1) ps)) 4096) (rises (take (place - 1) ps)) h in
        let front : Rises (take (place - 2) ps ++ (get_or window 0 d ∷ [])) = sym (ap rises front_taken) ∙ p.1 in
        and_from (leb (length (take place ps)) 4096) (rises (take place ps)) (le-leb _ _ (omega (arith, long)))
        (ap rises both_taken ∙ rises_push (take (place - 2) ps) (get_or window 0 d) (get_or window 1 d) front b)

    pub no_rise : delivered_before (get_or window 0 d) (get_or window 1 d) ≡ false → capturable (take place ps) ≡ false
    no_rise b =
        and_right (leb (length (take place ps)) 4096) (rises (take place ps))
        (ap rises both_taken ∙ falls_push (take (place - 2) ps) (get_or window 0 d) (get_or window 1 d) b)

-- where fewer than two records are left from there on, the table ends in front of the place
pub ends : (ps rest : List Packet) (place : ℕ) → 2 ≤ place → rest ≡ drop (place - 2) ps → length rest < 2 → length ps ≤ place - 1
ends ps rest place low left few = omega (arith, ap length left, length-drop (place - 2) ps)

-- a fault among the first 4,096 records is one of the table
pub front_fault : (ps : List Packet) (place : ℕ) → FirstFault (take 4096 ps) place → FirstFault ps place
front_fault ps place f =
    let most = f.within in
    let size = length-take 4096 ps in
    let before : take (place - 1) (take 4096 ps) ≡ take (place - 1) ps = take-take (place - 1) 4096 ps (omega arith) in
    let after : take place (take 4096 ps) ≡ take place ps = take-take place 4096 ps (omega arith) in
    record {
      counts = f.counts;
      within = omega arith;
      before = sym (ap capturable before) ∙ f.before;
      after = sym (ap capturable after) ∙ f.after;
    }

-- one record too many behind those that can be captured
pub too_many : (ps : List Packet) → 4096 < length ps → capturable (take 4096 ps) ≡ true → FirstFault ps 4097
too_many ps more h =
    let long = length-take-le 4097 ps (omega arith) in
    record {
      counts = omega arith;
      within = omega arith;
      before = h;
      after = and_left (leb (length (take 4097 ps)) 4096) (rises (take 4097 ps)) (lt-leb _ _ (omega (arith, long)));
    }

-- where fewer than two of the first records are left from the place on, all of them can be captured
pub front_whole : (ps rest : List Packet) (place : ℕ) → 2 ≤ place → rest ≡ drop (place - 2) (take 4096 ps) → length rest < 2 → capturable (take (place - 1) (take 4096 ps)) ≡ true → capturable (take 4096 ps) ≡ true
front_whole ps rest place low left few h = sym (ap capturable (take_all (place - 1) (take 4096 ps) (ends (take 4096 ps) rest place low left few))) ∙ h
