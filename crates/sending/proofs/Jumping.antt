-- Over quiet instants only the clock goes on, and an advance goes in parts.
use Rattle.std.proofs.Common.{◌≡◌, ℕ, zero, suc, ◌+◌, ◌%◌, ◌≤◌, Bool, true, false, cond, ◌&&◌, eqb, leb, List, [], ◌∷◌, Some, None, Option, sym, refl, ap, ◌∙◌, subst, arith}
use Rattle.std.proofs.lemmas.Bool.{eqb-true, leb-true, le-leb, lt-leb}
use Rattle.traffic.specs.declared.packet.Packet.{Packet}
use Rattle.traffic.specs.Packets.{Traffic}
use Rattle.gates.specs.declared.entry.Entry.{Entry}
use Rattle.gates.specs.Open.{open_at, stays_open}
use Rattle.sending.specs.Sheet.{cycle, wire}
use Rattle.sending.specs.Port.{State, Turn, idle, send, serve}
use Rattle.sending.specs.Calls.{Advanced, Counts, Decided, Port, Taken, advance_by, decide, still_pending, switch, take_in, taken, takes, tallied, turn, with_start}
use Rattle.sending.specs.Jumps.{AdvanceSplits, Quiet, QuietInstants, none_before}

-- where nothing starts the state stays
serve-idle : {P : Type 0} (wire : P → ℕ) (fits : ℕ → Bool) (t q : ℕ) (st : State P) (ws : List P) → (serve wire fits t q st ws).start ≡ None → serve wire fits t q st ws ≡ idle st
serve-idle wire fits t q st [] e = refl
serve-idle {P} wire fits t q st (w ∷ ws) e = go (leb st.free t && fits (wire w)) e
  where
    go : (b : Bool) → (cond {A = Turn P} b (record { after = record { waiting = λ v. cond (eqb v q) ws (st.waiting v); free = t + wire w }; start = Some w }) (idle st)).start ≡ None →
        cond {A = Turn P} b (record { after = record { waiting = λ v. cond (eqb v q) ws (st.waiting v); free = t + wire w }; start = Some w }) (idle st) ≡ idle st
    go true h = let z : ◌≡◌ {A = ℕ} 0 1 = cc in absurd (omega arith)
    go false h = refl

send-idle : {P : Type 0} (wire : P → ℕ) (fits : ℕ → ℕ → Bool) (t : ℕ) (g : Option ℕ) (st : State P) → (send wire fits t g st).start ≡ None → send wire fits t g st ≡ idle st
send-idle wire fits t None st e = refl
send-idle wire fits t (Some q) st e = serve-idle wire (fits q) t q st (st.waiting q) e

-- a source that has nothing to take stays
takes_none : (s : Traffic) (es : List Entry) (t : ℕ) (c : Counts) (last : Option Packet) (st : State Packet) (xs : List Packet) → none_before (suc t) xs ≡ true →
    takes s es t c last st xs ≡ record { state = st; last = last; counts = c; left = xs }
takes_none s es t c last st [] e = refl
takes_none s es t c last st (x ∷ xs) e =
    let l : suc t ≤ x.arrival = leb-true (suc t) x.arrival e in
    ap (λ (b : Bool). cond {A = Taken} b (takes s es t (tallied s es t last st x c) (Some x) (take_in s es t last st x) xs) (record { state = st; last = last; counts = c; left = x ∷ xs })) (lt-leb x.arrival t l)

switch-same : (b : Bool) (es : List Entry) (o : Option (List Entry)) → (b ≡ true → o ≡ None) → (switch b es o ≡ es) × (still_pending b o ≡ o)
switch-same false es o h = (refl, refl)
switch-same true es o h = let e = h refl in (ap (switch true es) e, sym e)

-- one quiet instant
decide_quiet : (s : Traffic) (p : Port) (source : List Packet) → (p.clock % cycle s ≡ 0 → p.pending ≡ None) → none_before (suc p.clock) source ≡ true →
    (send (wire s) (λ q e. stays_open p.list q (p.clock % cycle s) e) p.clock (open_at p.list (p.clock % cycle s)) p.state).start ≡ None →
    decide s p source ≡ record { port = record { state = p.state; clock = suc p.clock; list = p.list; pending = p.pending; last = p.last; counts = p.counts }; left = source; start = None }
decide_quiet s p source same none_taken none_starts =
    let lists = switch-same (eqb (p.clock % cycle s) 0) p.list p.pending (λ e. same (eqb-true (p.clock % cycle s) 0 e)) in
    let got : taken s p source ≡ record { state = p.state; last = p.last; counts = p.counts; left = source } =
    ap (λ (es : List Entry). takes s es p.clock p.counts p.last p.state source) lists.0 ∙ takes_none s p.list p.clock p.counts p.last p.state source none_taken in
    let sends : turn s p source ≡ idle p.state =
    (λ i. send (wire s) (λ q e. stays_open (lists.0 i) q (p.clock % cycle s) e) p.clock (open_at (lists.0 i) (p.clock % cycle s)) (got i).state) ∙ send-idle (wire s) (λ q e. stays_open p.list q (p.clock % cycle s) e) p.clock (open_at p.list (p.clock % cycle s)) p.state none_starts in
    λ i. record {
      port = record { state = (sends i).after; clock = suc p.clock; list = lists.0 i; pending = lists.1 i; last = (got i).last; counts = with_start s (sends i).start (got i).counts };
      left = (got i).left;
      start = (sends i).start;
    }

none_sooner : (t u : ℕ) (xs : List Packet) → t ≤ u → none_before u xs ≡ true → none_before t xs ≡ true
none_sooner t u [] l e = refl
none_sooner t u (x ∷ xs) l e = let k = leb-true u x.arrival e in le-leb t x.arrival (omega arith)

-- an advance behind an instant that was decided, by its start
abbrev then : Traffic → ℕ → Port → Decided → Option Packet → Advanced
then s n p d None = advance_by s n d.port d.left
then s n p d (Some x) = record { port = d.port; left = d.left; start = Some (record { at = p.clock; packet = x }) }

pub quiet_instants : QuietInstants
quiet_instants s zero p source q = let z : p.clock + 0 ≡ p.clock = omega arith in λ i. record { port = record { state = p.state; clock = sym z i; list = p.list; pending = p.pending; last = p.last; counts = p.counts }; left = source; start = None }
quiet_instants s (suc n) p source q =
    let z : p.clock + 0 ≡ p.clock = omega arith in
    let d = decide_quiet s p source
    (λ e. q.same_list 0 (omega arith) (ap (λ (t : ℕ). t % cycle s) z ∙ e))
    (none_sooner (suc p.clock) (p.clock + suc n) source (omega arith) q.none_taken)
    (subst (λ (t : ℕ). (send (wire s) (λ r e. stays_open p.list r (t % cycle s) e) t (open_at p.list (t % cycle s)) p.state).start ≡ None) z (q.none_starts 0 (omega arith))) in
    let p' : Port = record { state = p.state; clock = suc p.clock; list = p.list; pending = p.pending; last = p.last; counts = p.counts } in
    let at : (i : ℕ) → p.clock + suc i ≡ suc p.clock + i = λ i. omega arith in
    let rest : Quiet s p' source n = record {
      same_list = λ i l e. q.same_list (suc i) (omega arith) (ap (λ (t : ℕ). t % cycle s) (at i) ∙ e);
      none_taken = subst (λ (t : ℕ). none_before t source ≡ true) (at n) q.none_taken;
      none_starts = λ i l. subst (λ (t : ℕ). (send (wire s) (λ r e. stays_open p.list r (t % cycle s) e) t (open_at p.list (t % cycle s)) p.state).start ≡ None) (at i) (q.none_starts (suc i) (omega arith));
    } in
    ap (λ (k : Decided). then s n p k k.start) d ∙ quiet_instants s n p' source rest ∙ (λ i. record { port = record { state = p.state; clock = sym (at n) i; list = p.list; pending = p.pending; last = p.last; counts = p.counts }; left = source; start = None })

pub advance_splits : AdvanceSplits
advance_splits s zero n p source e = let z : 0 + n ≡ n = omega arith in ap (λ (k : ℕ). advance_by s k p source) z
advance_splits s (suc m) n p source e =
    let z : suc m + n ≡ suc (m + n) = omega arith in
    ap (λ (k : ℕ). advance_by s k p source) z ∙ go (decide s p source) (advance_splits s m n (decide s p source).port (decide s p source).left) e
  where
    go : (d : Decided) → ((advance_by s m d.port d.left).start ≡ None → advance_by s (m + n) d.port d.left ≡ advance_by s n (advance_by s m d.port d.left).port (advance_by s m d.port d.left).left) →
        (then s m p d d.start).start ≡ None → then s (m + n) p d d.start ≡ advance_by s n (then s m p d d.start).port (then s m p d d.start).left
    go d ih h = by_start d.start h
      where
        by_start : (o : Option Packet) → (then s m p d o).start ≡ None → then s (m + n) p d o ≡ advance_by s n (then s m p d o).port (then s m p d o).left
        by_start None h = ih h
        by_start (Some x) h = let z : ◌≡◌ {A = ℕ} 0 1 = cc in absurd (omega arith)
