-- The packets that a list names are gathered in queue order.
use Rattle.std.proofs.Common.{◌≡◌, ℕ, ◌+◌, ◌-◌, ◌*◌, ◌/◌, ◌<◌, ◌≤◌, Bool, true, false, cond, not, ◌&&◌, ◌||◌, eqb, leb, List, [], ◌∷◌, ◌++◌, length, get_or, take, drop, sym, refl, ap, ◌∙◌, subst, inl, inr, ⊎_elim, mul-le-mul_right, div-mul-le_self, arith}
use native.Mathlib.Nat.{eq_of_mul-eq-mul_right}
use Rattle.std.specs.List.{AllByRecursion}
use Rattle.std.proofs.ByRecursion.{All-weaker}
use Rattle.std.proofs.lemmas.List.{drop_more, take-append-drop}
use Rattle.std.proofs.lemmas.List.Folds.{list_any-append}
use Rattle.std.proofs.lemmas.Bool.{and_parts, and_from, cases_Bool, cases_eq, both_ways, and_left, ne_eqb, or_cases, or_left, or_right, not-true, not-false, eqb-true, eq-eqb, le-leb, leb-true, false≢true}
use Rattle.traffic.specs.declared.packet.Packet.{Packet}
use Rattle.traffic.specs.declared.packet.Job.{Job}
use Rattle.traffic.specs.Packets.{Traffic, listed, arrival, job}
use Rattle.traffic.specs.Pattern.{mandatory_at}
use Rattle.traffic.specs.Orders.{queue_before}
use Rattle.traffic.proofs.Total.{queue_order}
use Rattle.cycle.specs.Cycle.{packets_in, number_in_cycle}
use Rattle.gates.specs.declared.entry.Entry.{Entry}
use Rattle.table.specs.Order.{placed}
use Rattle.sending.specs.Sheet.{Fits, cycle, flow, job_of, mandatory, packet, queue}
use Rattle.sending.specs.Rules.{Rules, names_packet, optional_there, well_named}
use Rattle.gates.specs.Entries.{names}
use Rattle.sending.specs.InTime.{InFirstCycle}
use Rattle.sending.proofs.Packets.{some_period}
use Rattle.coming.specs.Rising.{In, Rises}
use Rattle.coming.proofs.Steps.{length-placed}
use Rattle.coming.proofs.Rising.{all_placed, rises-placed, in_placed, in_placed-new}
use Rattle.list_check.specs.Queued.{Of, Queued, NamedJoins}
use Rattle.list_check.proofs.Starting.{number_there}

-- what one more entry names
names_more : (front : List Entry) (e : Entry) (i n : ℕ) → names (front ++ (e ∷ [])) i n ≡ (names front i n || (eqb e.flow i && eqb e.number n))
names_more front e i n = list_any-append (λ x. eqb x.flow i && eqb x.number n) front (e ∷ []) ∙ ap (λ (b : Bool). names front i n || b) (or_none (eqb e.flow i && eqb e.number n))
  where
    or_none : (b : Bool) → (b || false) ≡ b
    or_none true = refl
    or_none false = refl

names-there : (front : List Entry) (e : Entry) (back : List Entry) → names (front ++ (e ∷ back)) e.flow e.number ≡ true
names-there [] e back = or_left _ _ (and_from _ _ (eq-eqb e.flow e.flow refl) (eq-eqb e.number e.number refl))
names-there (x ∷ front) e back = or_right _ _ (names-there front e back)

-- the packets that the entries in front name
pub record Gathered (s : Traffic) (es front : List Entry) (ns : List Job) : Type 0 where
  pub rises : Rises queue_before ns
  pub all_of : AllByRecursion (λ n. Of s es 0 n) ns
  pub fresh : AllByRecursion (λ n. names front n.flow n.number ≡ true) ns
  pub complete : (i n : ℕ) → 1 ≤ n → names front i n ≡ true → In (job s.rate i (flow s i) n) ns

pub gathered_none : (s : Traffic) (es : List Entry) → Gathered s es [] []
gathered_none s es = record { rises = tt; all_of = tt; fresh = tt; complete = λ i n some e. absurd (false≢true e) }

still_named : (front : List Entry) (e : Entry) (i n : ℕ) → names front i n ≡ true → names (front ++ (e ∷ [])) i n ≡ true
still_named front e i n h = names_more front e i n ∙ or_left _ _ h

-- an entry that names no packet
pub gathered_same : (s : Traffic) (es front : List Entry) (e : Entry) (ns : List Job) → e.number ≡ 0 → Gathered s es front ns → Gathered s es (front ++ (e ∷ [])) ns
gathered_same s es front e ns none g = record {
  rises = g.rises;
  all_of = g.all_of;
  fresh = All-weaker (λ (n : Job). names front n.flow n.number ≡ true) (λ (n : Job). names (front ++ (e ∷ [])) n.flow n.number ≡ true) (λ n h. still_named front e _ _ h) ns g.fresh;
  complete = λ i n some h. ⊎_elim (λ (k : names front i n ≡ true). g.complete i n some k)
      (λ (k : (eqb e.flow i && eqb e.number n) ≡ true). let same : e.number ≡ n = eqb-true e.number n (and_parts (eqb e.flow i) (eqb e.number n) k).1 in absurd (omega arith))
      (or_cases (names front i n) _ (sym (names_more front e i n) ∙ h));
}

-- what the rules say of an entry that names a packet
pub record NamesOptional (s : Traffic) (front : List Entry) (e : Entry) : Type 0 where
  pub from_one : 1 ≤ e.flow
  pub to_last : e.flow ≤ length s.flows
  pub some : 1 ≤ e.number
  pub there : e.number ≤ packets_in (cycle s) (flow s e.flow)
  pub optional : mandatory_at (flow s e.flow) e.number ≡ false
  pub new : names front e.flow e.number ≡ false

pub names_optional : (s : Traffic) (front : List Entry) (e : Entry) → well_named s front e ≡ true → names_packet e ≡ true → NamesOptional s front e
names_optional s front e h some =
    let k = or_rest (names_packet e) _ some h in
    let a = and_parts (eqb e.gates 1) _ k in
    let b = and_parts (optional_there s e.flow e.number) (not (names front e.flow e.number)) a.1 in
    let c = and_parts (listed s.flows e.flow) _ b.0 in
    let d = and_parts (leb 1 e.flow) (leb e.flow (length s.flows)) c.0 in
    let f = and_parts (leb 1 e.number && leb e.number (packets_in (cycle s) (flow s e.flow))) _ c.1 in
    let g = and_parts (leb 1 e.number) (leb e.number (packets_in (cycle s) (flow s e.flow))) f.0 in
    record {
      from_one = leb-true 1 e.flow d.0;
      to_last = leb-true e.flow (length s.flows) d.1;
      some = leb-true 1 e.number g.0;
      there = leb-true e.number (packets_in (cycle s) (flow s e.flow)) g.1;
      optional = not-true _ f.1;
      new = not-true _ b.1;
    }
  where
    or_rest : (a b : Bool) → a ≡ true → (not a || b) ≡ true → b ≡ true
    or_rest true b e k = k
    or_rest false b e k = absurd (false≢true e)

module _ (s : Traffic) (fs : Fits s) (es front back : List Entry) (e : Entry) (is : es ≡ front ++ (e ∷ back)) (o : NamesOptional s front e) where
  abbrev i : ℕ
  i = e.flow

  abbrev n : ℕ
  n = e.number

  -- it is a packet of the cycle
  named_of : Of s es 0 (job s.rate i (flow s i) n)
  named_of =
      let p = packet s i n in
      let ff = fs.each i o.from_one o.to_last in
      let pos = some_period s (flow s i) ff in
      let T = (flow s i).period in
      let some = o.some in
      let whole = div-mul-le_self (cycle s) T in
      let most : n * T ≤ cycle s / T * T = mul-le-mul_right T o.there in
      let one : n * T ≡ (n - 1) * T + T = let k : n ≡ n - 1 + 1 = omega arith in ap (λ (m : ℕ). m * T) k ∙ omega arith in
      let early : p.arrival < cycle s = omega arith in
      let there = number_there s (flow s i) n ff some early in
      let named : names es i n ≡ true = ap (λ (l : List Entry). names l i n) is ∙ names-there front e back in
      record {
        packet = p;
        is = refl;
        early = record { ours = record { from_one = o.from_one; to_last = o.to_last; numbered = some; on_time = refl }; early = early; let_in = or_right _ _ (ap (names es i) there ∙ named) };
        own = ap (λ (b : Bool). cond b (flow s i).queue 0) o.optional;
      }

  -- it differs from those gathered
  differs : (m : Job) → Of s es 0 m → names front m.flow m.number ≡ true → queue_before (job s.rate i (flow s i) n) m ≡ not (queue_before m (job s.rate i (flow s i) n))
  differs m of named =
      let x = job s.rate i (flow s i) n in
      let at : m.arrival ≡ arrival (flow s m.flow) m.number = sym (ap (λ (y : Job). y.arrival) of.is) ∙ (λ k. arrival (flow s (ap (λ (y : Job). y.flow) of.is k)) (ap (λ (y : Job). y.number) of.is k)) in
      ⊎_elim
      (λ (f : i ≡ m.flow).
      let some : 1 ≤ m.number = subst (λ (j : ℕ). 1 ≤ j) (ap (λ (y : Job). y.number) of.is) of.early.ours.numbered in
      let apart : (x.arrival ≡ m.arrival → ⊥) = λ same.
      let T = (flow s i).period in
      let pos = some_period s (flow s i) (fs.each i o.from_one o.to_last) in
      let own : m.arrival ≡ (m.number - 1) * T = at ∙ ap (λ (j : ℕ). arrival (flow s j) m.number) (sym f) in
      let one = o.some in
      let equal : n - 1 ≡ m.number - 1 = same_factor (n - 1) (m.number - 1) T pos (same ∙ own) in
      let number : n ≡ m.number = omega arith in
      both_ways (names front i n) o.new ((λ k. names front (f k) (number k)) ∙ named) in
      queue_order.decides x m (inr apart))
      (λ ne. queue_order.decides x m (inl ne))
      (cases_eq i m.flow)
    where
      same_factor : (a b T : ℕ) → 0 < T → a * T ≡ b * T → a ≡ b
      same_factor a b T pos h = eq_of_mul-eq-mul_right T pos a b h

  -- it is gathered
  pub gathered_more : (ns : List Job) → Gathered s es front ns →
      Gathered s es (front ++ (e ∷ [])) (placed queue_before (job s.rate i (flow s i) n) ns)
  gathered_more ns g =
      let x = job s.rate i (flow s i) n in
      let now-named : names (front ++ (e ∷ [])) i n ≡ true = names_more front e i n ∙ or_right _ _ (and_from _ _ (eq-eqb i i refl) (eq-eqb n n refl)) in
      record {
        rises = rises-placed queue_before queue_order.never queue_order.chained x ns (decided ns g.all_of g.fresh) g.rises;
        all_of = all_placed (λ (m : Job). Of s es 0 m) queue_before x ns named_of g.all_of;
        fresh = all_placed (λ (m : Job). names (front ++ (e ∷ [])) m.flow m.number ≡ true) queue_before x ns now-named
            (All-weaker (λ (m : Job). names front m.flow m.number ≡ true) (λ (m : Job). names (front ++ (e ∷ [])) m.flow m.number ≡ true) (λ m h. still_named front e _ _ h) ns g.fresh);
        complete = λ j k some h. ⊎_elim
            (λ (l : names front j k ≡ true). in_placed queue_before x (job s.rate j (flow s j) k) ns (g.complete j k some l))
            (λ (l : (eqb i j && eqb n k) ≡ true).
            let both = and_parts (eqb i j) (eqb n k) l in
            let f = eqb-true i j both.0 in
            let m = eqb-true n k both.1 in
            subst (λ (y : Job). In y (placed queue_before x ns)) (λ t. job s.rate (f t) (flow s (f t)) (m t)) (in_placed-new queue_before x ns))
            (or_cases (names front j k) _ (sym (names_more front e j k) ∙ h));
      }
    where
      decided : (ms : List Job) → AllByRecursion (λ m. Of s es 0 m) ms → AllByRecursion (λ m. names front m.flow m.number ≡ true) ms → AllByRecursion (λ m. queue_before (job s.rate i (flow s i) n) m ≡ not (queue_before m (job s.rate i (flow s i) n))) ms
      decided [] a b = tt
      decided (m ∷ ms) a b = (differs m a.0 b.0, decided ms a.1 b.1)

-- all entries gathered are the packets of queue 0
pub gathered_all : (s : Traffic) → Fits s → (es : List Entry) (ns : List Job) → Gathered s es es ns → Queued s es 0 ns
gathered_all s fs es ns g = record { all_of = g.all_of; rises = g.rises; complete = complete }
  where
    complete : (p : Packet) → InFirstCycle s es p → queue s p ≡ 0 → In (job_of s p) ns
    complete p i own =
        let f = flow s p.flow in
        let ff = fs.each p.flow i.ours.from_one i.ours.to_last in
        let on = i.ours.on_time in
        let first = i.early in
        let there = number_there s f p.number ff i.ours.numbered (omega arith) in
        let optional : mandatory s p ≡ false = ⊎_elim
        (λ (m : mandatory s p ≡ true). let q : f.queue ≡ 0 = sym (ap (λ (b : Bool). cond b f.queue 0) m) ∙ own in let one = ff.own_queue in absurd (omega arith))
        (λ m. m) (cases_Bool (mandatory s p)) in
        let named : names es p.flow (number_in_cycle (cycle s) f p.number) ≡ true = sym (ap (λ (b : Bool). b || names es p.flow (number_in_cycle (cycle s) f p.number)) optional) ∙ i.let_in in
        g.complete p.flow p.number i.ours.numbered (ap (names es p.flow) (sym there) ∙ named)

-- one more entry
pub gathered_joins : (s : Traffic) → Fits s → (es front back : List Entry) (e : Entry) → es ≡ front ++ (e ∷ back) → well_named s front e ≡ true → (ns ms : List Job) → NamedJoins s e ns ms → Gathered s es front ns → Gathered s es (front ++ (e ∷ [])) ms
gathered_joins s fs es front back e is well ns ms (inl (absent, same)) g =
    let none : e.number ≡ 0 = ⊎_elim
    (λ (k : names_packet e ≡ true). let o = names_optional s front e well k in absurd (both_ways (listed s.flows e.flow) absent (and_from (leb 1 e.flow) (leb e.flow (length s.flows)) (le-leb _ _ o.from_one) (le-leb _ _ o.to_last))))
    (λ (k : names_packet e ≡ false). eqb-true e.number 0 (and_parts (eqb e.flow 0) (eqb e.number 0) (not-false _ k)).1)
    (cases_Bool (names_packet e)) in
    subst (Gathered s es (front ++ (e ∷ []))) (sym same) (gathered_same s es front e ns none g)
gathered_joins s fs es front back e is well ns ms (inr (there, put)) g =
    let some : 1 ≤ e.flow = leb-true 1 e.flow (and_parts (leb 1 e.flow) (leb e.flow (length s.flows)) there).0 in
    let named : names_packet e ≡ true = ap not (and_left (eqb e.flow 0) (eqb e.number 0) (ne_eqb e.flow 0 (λ z. omega arith))) in
    subst (Gathered s es (front ++ (e ∷ []))) (sym put) (gathered_more s fs es front back e is (names_optional s front e well named) ns g)

-- an entry of the list
pub entry_at : (s : Traffic) (es : List Entry) → Rules s es → (i : ℕ) (d : Entry) → i < length es → (es ≡ take i es ++ (get_or es i d ∷ drop (i + 1) es)) × (well_named s (take i es) (get_or es i d) ≡ true)
entry_at s es rules i d within =
    let is : es ≡ take i es ++ (get_or es i d ∷ drop (i + 1) es) = sym (take-append-drop i es) ∙ ap (λ (l : List Entry). take i es ++ l) (drop_more es i d within) in
    (is, rules.naming (take i es) (get_or es i d) (drop (i + 1) es) is)

-- at most one joins
pub joins_few : (s : Traffic) (e : Entry) (ns ms : List Job) → NamedJoins s e ns ms → length ms ≤ length ns + 1
joins_few s e ns ms (inl (none, same)) = rw same (omega arith)
joins_few s e ns ms (inr (there, put)) = rw put (omega (arith, length-placed (job s.rate e.flow (flow s e.flow) e.number) ns))
