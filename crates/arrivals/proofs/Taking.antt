-- The packet that comes next is taken.
use Rattle.std.proofs.Common.{◌≡◌, ℕ, zero, suc, ◌+◌, ◌<◌, ◌≤◌, Bool, true, false, not, ◌&&◌, ◌||◌, leb, ◌⊎◌, List, [], ◌∷◌, length, Some, filter, sym, refl, ap, ◌∙◌, subst, inl, inr, ⊎_elim, arith}
use Rattle.std.specs.List.{HoldsAt, ContainsAt, AllByRecursion, list_any, slice_get}
use Rattle.std.proofs.lemmas.Bool.{and_parts, and_from, and_right, or_cases, or_from, or_left, or_right, not_from_false, le-leb, lt-leb, eq-eqb, cases_Bool, cases_lt, both_ways}
use Rattle.std.proofs.ByRecursion.{All-weaker, all-has}
use Rattle.traffic.specs.declared.flow.Flow.{Flow}
use Rattle.traffic.specs.declared.packet.Packet.{Packet}
use Rattle.traffic.specs.Packets.{arrival, flow_at}
use Rattle.traffic.specs.Orders.{delivered_before}
use Rattle.traffic.proofs.Total.{delivery_order}
use Rattle.table.specs.Order.{none_before, in_order, placed}
use Rattle.traffic.specs.declared.sort.Sort.{Sort}
use Rattle.arrivals.specs.Sources.{first, rest, Rises}
use Rattle.traffic.specs.Sorts.{of_sort}
use Rattle.arrivals.specs.Sorts.{calendar, belongs}
use Rattle.arrivals.specs.Upcoming.{NoPacket, NextPacket}
use Rattle.arrivals.specs.Cursors.{at_flow, standing, leads_to, from_cursors}
use Rattle.arrivals.proofs.Rising.{Before, rises_parts}
use Rattle.arrivals.proofs.Belonging.{OnSheet, on_sheet, on_sheet_belongs, Periodic, not_delivered_before}
use Rattle.arrivals.proofs.Instants.{calendar-rises, calendar_only, calendar_all}
use Rattle.arrivals.proofs.Leading.{some_placed, some_fewer, leads_parts, Stands, standing_parts, standing-placed, led_not_before}

has_cases : (x : Packet) (xs : List Packet) (q : Packet) → ContainsAt (x ∷ xs) q → (x ≡ q) ⊎ ContainsAt xs q
has_cases x xs q h = at h.0 h.1 h.2
  where
    at : (k : ℕ) → k < length (x ∷ xs) → HoldsAt (λ y. y ≡ q) (x ∷ xs) k → (x ≡ q) ⊎ ContainsAt xs q
    at zero l e = inl (e q)
    at (suc k) l e = inr (k, omega arith, e)

-- a test keeps what another keeps, where they agree
kept_same : (test other : Packet → Bool) (xs : List Packet) → AllByRecursion (λ p. other p ≡ test p) xs → filter test xs ≡ filter other xs
kept_same test other [] a = refl
kept_same test other (x ∷ xs) a =
    let more = kept_same test other xs a.1 in
    ⊎_elim
    (λ (e : test x ≡ true). let o : other x ≡ true = a.0 ∙ e in rw (e, o) (ap (λ (l : List Packet). x ∷ l) more))
    (λ (e : test x ≡ false). let o : other x ≡ false = a.0 ∙ e in rw (e, o) more)
    (cases_Bool (test x))

pub kept_all : (test : Packet → Bool) (xs : List Packet) → AllByRecursion (λ p. test p ≡ true) xs → filter test xs ≡ xs
kept_all test [] a = refl
kept_all test (x ∷ xs) a = rw a.0 (ap (λ (l : List Packet). x ∷ l) (kept_all test xs a.1))

pub kept_none : (xs : List Packet) → filter (λ (p : Packet). false) xs ≡ []
kept_none [] = refl
kept_none (x ∷ xs) = kept_none xs

-- the tests before and after q is taken, at a packet in front of q and at one behind it
record Steps (test after : Packet → Bool) (q p : Packet) : Type 0 where
  front : Before p q → (test p ≡ false) × (after p ≡ false)
  back : Before q p → after p ≡ test p

-- in a list that rises, the first that passes is q, and the others pass after
kept_first : (test after : Packet → Bool) (q : Packet) → test q ≡ true → after q ≡ false → (xs : List Packet) → Rises xs → ContainsAt xs q → AllByRecursion (Steps test after q) xs → filter test xs ≡ q ∷ filter after xs
kept_first test after q passes gone [] r h a = absurd (omega (arith, h.1))
kept_first test after q passes gone (x ∷ xs) r h a =
    let p = rises_parts x xs r in
    ⊎_elim
    (λ (e : x ≡ q).
    let now-yes : test x ≡ true = ap test e ∙ passes in
    let then-no : after x ≡ false = ap after e ∙ gone in
    let behind : AllByRecursion (λ y. after y ≡ test y) xs = agree x e xs p.0 a.1 in
    rw (now-yes, then-no) (ap (λ (y : Packet). y ∷ filter test xs) e ∙ ap (λ (l : List Packet). q ∷ l) (kept_same test after xs behind)))
    (λ (m : ContainsAt xs q).
    let lead : Before x q = all-has (Before x) xs q p.0 m in
    let fails = a.0.front lead in
    rw (fails.0, fails.1) (kept_first test after q passes gone xs p.1 m a.1))
    (has_cases x xs q h)
  where
    agree : (x : Packet) → x ≡ q → (ys : List Packet) → AllByRecursion (Before x) ys → AllByRecursion (Steps test after q) ys → AllByRecursion (λ y. after y ≡ test y) ys
    agree x e [] b s = tt
    agree x e (y ∷ ys) b s = (s.0.back (subst (λ (z : Packet). Before z y) e b.0), agree x e ys b.1 s.1)

-- the cursors lead to p
abbrev led : List Packet → Packet → Bool
led cs p = list_any (leads_to p) cs

leads : (p : Packet) (c : Packet) → c.flow ≡ p.flow → c.number ≤ p.number → leads_to p c ≡ true
leads p c e l = and_from (at_flow p.flow c) (leb c.number p.number) (eq-eqb c.flow p.flow e) (le-leb c.number p.number l)

module _ (s : Sort) (fs : List Flow) (end : ℕ) (q : Packet) (qs : List Packet) (stands : standing s fs end (q ∷ qs) ≡ true) (ordered : in_order delivered_before (q ∷ qs) ≡ true) where
  own : Stands s fs end q qs
  own = standing_parts s fs end q qs stands

  -- no packet to come is before that of the first cursor
  none_earlier : (p : Packet) → belongs s fs end p ≡ true → led (q ∷ qs) p ≡ true → delivered_before p q ≡ false
  none_earlier p b h =
      let others = and_parts (none_before delivered_before q qs) (in_order delivered_before qs) ordered in
      let none : none_before delivered_before q (q ∷ qs) ≡ true = and_from (not (delivered_before q q)) (none_before delivered_before q qs) (not_from_false (delivered_before q q) (delivery_order.never q)) others.0 in
      led_not_before s fs end p b q (q ∷ qs) stands none h

  -- a packet of its flow behind it has a greater number
  greater_number : (p : Packet) → belongs s fs end p ≡ true → Before q p → q.flow ≡ p.flow → q.number < p.number
  greater_number p b later same =
      ⊎_elim (λ l. l)
      (λ l. absurd (both_ways (delivered_before q p) (not_delivered_before s fs end q p (on_sheet s fs end q own.here) (on_sheet s fs end p b) (sym same) l) later))
      (cases_lt q.number p.number)

  -- the others do not lead to it
  others_pass : led qs q ≡ false
  others_pass = some_fewer (leads_to q) (at_flow q.flow) (λ c h. (and_parts (at_flow q.flow c) (leb c.number q.number) h).0) qs own.alone

  module _ (after : Packet → Bool) (fewer : (p : Packet) → after p ≡ true → led (q ∷ qs) p ≡ true) (behind : (p : Packet) → belongs s fs end p ≡ true → Before q p → led (q ∷ qs) p ≡ true → after p ≡ true) where
    not_after : (p : Packet) → led (q ∷ qs) p ≡ false → after p ≡ false
    not_after p fails = ⊎_elim (λ e. absurd (both_ways (led (q ∷ qs) p) fails (fewer p e))) (λ e. e) (cases_Bool (after p))

    steps : (p : Packet) → belongs s fs end p ≡ true → Steps (led (q ∷ qs)) after q p
    steps p b = record {
      front = λ earlier.
          let fails : led (q ∷ qs) p ≡ false = ⊎_elim (λ e. absurd (both_ways (delivered_before p q) (none_earlier p b e) earlier)) (λ e. e) (cases_Bool (led (q ∷ qs) p)) in
          (fails, not_after p fails);
      back = λ later. ⊎_elim (λ e. behind p b later e ∙ sym e) (λ e. not_after p e ∙ sym e) (cases_Bool (led (q ∷ qs) p));
    }

    taken_by : Periodic fs → after q ≡ false → from_cursors s fs end (q ∷ qs) ≡ q ∷ filter after (calendar s fs end)
    taken_by periodic gone =
        let here : led (q ∷ qs) q ≡ true = or_left (leads_to q q) (led qs q) (leads q q refl (omega arith)) in
        kept_first (led (q ∷ qs)) after q here gone (calendar s fs end) (calendar-rises s fs end) (calendar_all s fs periodic end q own.here)
        (All-weaker (λ (p : Packet). belongs s fs end p ≡ true) (Steps (led (q ∷ qs)) after q) steps (calendar s fs end) (calendar_only s fs end))

  -- the packet of the first cursor comes next
  pub shows_next : Periodic fs → first (from_cursors s fs end (q ∷ qs)) ≡ Some q
  shows_next periodic =
      let after : Packet → Bool = λ p. led (q ∷ qs) p && delivered_before q p in
      ap first (taken_by after
      (λ p h. (and_parts (led (q ∷ qs) p) (delivered_before q p) h).0)
      (λ p b later h. and_from (led (q ∷ qs) p) (delivered_before q p) h later)
      periodic
      (and_right (led (q ∷ qs) q) (delivered_before q q) (delivery_order.never q)))

  -- its flow has no more packets: the others go on
  takes_last : Periodic fs → NoPacket s (flow_at fs q.flow) (q.number + 1) end → from_cursors s fs end (q ∷ qs) ≡ q ∷ from_cursors s fs end qs
  takes_last periodic none = taken_by (led qs) (λ p h. or_right (leads_to p q) (led qs p) h) behind periodic others_pass
    where
      behind : (p : Packet) → belongs s fs end p ≡ true → Before q p → led (q ∷ qs) p ≡ true → led qs p ≡ true
      behind p b later h = ⊎_elim
          (λ e.
          let l = leads_parts p q e in
          let o = on_sheet s fs end p b in
          let more : q.number < p.number = greater_number p b later l.0 in
          let same : flow_at fs p.flow ≡ flow_at fs q.flow = ap (flow_at fs) (sym l.0) in
          let sort : of_sort s (flow_at fs q.flow) p.number ≡ true = ap (λ (f : Flow). of_sort s f p.number) (sym same) ∙ o.sort in
          let late : end ≤ arrival (flow_at fs q.flow) p.number = none p.number (omega arith) sort in
          let time : p.arrival ≡ arrival (flow_at fs q.flow) p.number = o.time ∙ ap (λ (f : Flow). arrival f p.number) same in
          absurd (omega (arith, o.early)))
          (λ e. e)
          (or_cases (leads_to p q) (led qs p) h)

  module _ (n : Packet) (next : NextPacket s (flow_at fs q.flow) q.flow (q.number + 1) end n) where
    pub moved-stands : Stands s fs end n qs
    moved-stands =
        let o = on_sheet s fs end q own.here in
        let same : flow_at fs n.flow ≡ flow_at fs q.flow = ap (flow_at fs) next.flow in
        record {
          here = on_sheet_belongs s fs end n (record {
            low = omega (arith, o.low, next.flow);
            high = omega (arith, o.high, next.flow);
            counts = omega (arith, next.first.from);
            time = next.time ∙ ap (λ (f : Flow). arrival f n.number) (sym same);
            sort = ap (λ (f : Flow). of_sort s f n.number) same ∙ next.first.passes;
            early = next.early;
          });
          alone = ap (λ (i : ℕ). list_any (at_flow i) qs) next.flow ∙ own.alone;
          others = own.others;
        }

    pub takes-next : Periodic fs → from_cursors s fs end (q ∷ qs) ≡ q ∷ from_cursors s fs end (placed delivered_before n qs)
    takes-next periodic = taken_by (led (placed delivered_before n qs)) fewer behind periodic gone
      where
        by : (p : Packet) → led (placed delivered_before n qs) p ≡ (leads_to p n || led qs p)
        by p = some_placed delivered_before (leads_to p) n qs

        fewer : (p : Packet) → led (placed delivered_before n qs) p ≡ true → led (q ∷ qs) p ≡ true
        fewer p h = ⊎_elim
            (λ e.
            let l = leads_parts p n e in
            let same : q.flow ≡ p.flow = sym next.flow ∙ l.0 in
            or_left (leads_to p q) (led qs p) (leads p q same (omega (arith, next.first.from))))
            (λ e. or_right (leads_to p q) (led qs p) e)
            (or_cases (leads_to p n) (led qs p) (sym (by p) ∙ h))

        behind : (p : Packet) → belongs s fs end p ≡ true → Before q p → led (q ∷ qs) p ≡ true → led (placed delivered_before n qs) p ≡ true
        behind p b later h = by p ∙ ⊎_elim
            (λ e.
            let l = leads_parts p q e in
            let o = on_sheet s fs end p b in
            let more : q.number + 1 ≤ p.number = omega (arith, greater_number p b later l.0) in
            let sort : of_sort s (flow_at fs q.flow) p.number ≡ true = ap (λ (i : ℕ). of_sort s (flow_at fs i) p.number) l.0 ∙ o.sort in
            let reached : n.number ≤ p.number = ⊎_elim (λ less. absurd (both_ways (of_sort s (flow_at fs q.flow) p.number) (next.first.first p.number more less) sort)) (λ ge. ge) (cases_lt p.number n.number) in
            or_left (leads_to p n) (led qs p) (leads p n (next.flow ∙ l.0) reached))
            (λ e. or_right (leads_to p n) (led qs p) e)
            (or_cases (leads_to p q) (led qs p) h)

        gone : led (placed delivered_before n qs) q ≡ false
        gone =
            let past : q.number < n.number = omega (arith, next.first.from) in
            by q ∙ or_from (leads_to q n) (led qs q) (and_right (at_flow q.flow n) (leb n.number q.number) (lt-leb n.number q.number past)) others_pass

module _ (s : Sort) (fs : List Flow) (end : ℕ) where
  -- the first cursor is at the packet that comes next; without cursors none comes
  pub next_shown : Periodic fs → (cs : List Packet) → standing s fs end cs ≡ true → in_order delivered_before cs ≡ true → slice_get cs 0 ≡ first (from_cursors s fs end cs)
  next_shown periodic [] st io = sym (ap first (kept_none (calendar s fs end)))
  next_shown periodic (q ∷ qs) st io = sym (shows_next s fs end q qs st io periodic)

  pub nothing_left : (cs : List Packet) → cs ≡ [] → from_cursors s fs end cs ≡ []
  nothing_left cs is = ap (from_cursors s fs end) is ∙ kept_none (calendar s fs end)

  -- p comes next, and the other cursors lead to what follows it
  pub record Moves (cs : List Packet) (p : Packet) (others : List Packet) : Type 0 where
    pub value : Some p ≡ first (from_cursors s fs end cs)
    pub after : from_cursors s fs end others ≡ rest (from_cursors s fs end cs)
    pub stands : standing s fs end others ≡ true

  module _ (periodic : Periodic fs) (cs : List Packet) (q : Packet) (qs : List Packet) (is : cs ≡ q ∷ qs) (stands : standing s fs end cs ≡ true) (ordered : in_order delivered_before cs ≡ true) where
    st : standing s fs end (q ∷ qs) ≡ true
    st = subst (λ (l : List Packet). standing s fs end l ≡ true) is stands

    io : in_order delivered_before (q ∷ qs) ≡ true
    io = subst (λ (l : List Packet). in_order delivered_before l ≡ true) is ordered

    pub known : OnSheet s fs end q
    known = on_sheet s fs end q (standing_parts s fs end q qs st).here

    moves_by : (others : List Packet) → from_cursors s fs end (q ∷ qs) ≡ q ∷ from_cursors s fs end others → standing s fs end others ≡ true → Moves cs q others
    moves_by others takes left = let all = ap (from_cursors s fs end) is ∙ takes in record { value = sym (ap first all); after = sym (ap rest all); stands = left }

    pub moves_last : NoPacket s (flow_at fs q.flow) (q.number + 1) end → Moves cs q qs
    moves_last none = moves_by qs (takes_last s fs end q qs st io periodic none) (standing_parts s fs end q qs st).others

    pub moves_on : (n : Packet) → NextPacket s (flow_at fs q.flow) q.flow (q.number + 1) end n → Moves cs q (placed delivered_before n qs)
    moves_on n next = moves_by (placed delivered_before n qs) (takes-next s fs end q qs st io n next periodic) (standing-placed s fs end delivered_before n qs (moved-stands s fs end q qs st io n next))
