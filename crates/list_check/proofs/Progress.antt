-- A queue is looked through, packet by packet.
use Rattle.std.proofs.Common.{◌≡◌, ℕ, ◌+◌, ◌<◌, ◌≤◌, max, Bool, true, false, cond, ltb, ◌⊎◌, List, [], ◌∷◌, Some, None, Option, sym, refl, ap, ◌∙◌, subst, inl, inr, ⊎_elim, arith}
use Rattle.std.specs.List.{AllByRecursion}
use Rattle.std.proofs.lemmas.Bool.{both_ways, leb-true, false≢true}
use Rattle.std.proofs.lemmas.Bool.Decides.{nat_tests}
use Rattle.traffic.specs.declared.packet.Packet.{Packet}
use Rattle.traffic.specs.declared.packet.Job.{Job}
use Rattle.traffic.specs.Packets.{Traffic}
use Rattle.traffic.specs.Orders.{then_by, queue_before}
use Rattle.traffic.proofs.Total.{queue_order}
use Rattle.gates.specs.declared.entry.Entry.{Entry}
use Rattle.sending.specs.Sheet.{OfSheet, deadline, job_of, queue, waits_before, wire}
use Rattle.sending.specs.InTime.{InFirstCycle, first_cycle}
use Rattle.sending.proofs.Packets.{fits_of}
use Rattle.sending.proofs.Cycles.{by_ends}
use Rattle.sending.proofs.Laws.{none_early}
use Rattle.coming.specs.Rising.{In, Rises}
use Rattle.coming.proofs.Rising.{all_in}
use Rattle.list_check.specs.Serving.{sent_at, FirstFit, SentBy, InFront, Cleared, Gated, Late}
use Rattle.list_check.specs.Service.{Sends, Misses, due_before, least_due, past}
use Rattle.list_check.specs.Queued.{Of}
use Rattle.list_check.specs.Lateness.{InTimeAt, NoLater, Covered, KnownLate}
use Rattle.list_check.proofs.Serving.{sent_at-first_fit, late_fit, late_without_fit, late_behind}

-- all that are left stand behind r
abbrev pub Leads : Traffic → Packet → List Job → Type 0
Leads s r rest = AllByRecursion (λ x. queue_before (job_of s r) x ≡ true) rest

-- the last packet of the queue that was sent
pub record Last (s : Traffic) (es : List Entry) (q free : ℕ) (rest : List Job) : Type 0 where
  pub packet : Packet
  pub start : ℕ
  pub early : InFirstCycle s es packet
  pub own : queue s packet ≡ q
  pub there : sent_at s es start ≡ Some packet
  pub ends : start + wire s packet ≡ free
  pub leads : Leads s packet rest

-- a late packet of the queue
pub record Stuck (s : Traffic) (es : List Entry) (q : ℕ) (rest : List Job) (worst : Option Job) : Type 0 where
  pub packet : Packet
  pub early : InFirstCycle s es packet
  pub own : queue s packet ≡ q
  pub late : Late s es packet
  pub no_later : NoLater worst (job_of s packet)
  pub leads : Leads s packet rest

-- the packet is sent by this instant, if none was late
abbrev pub SentUntil : Traffic → List Entry → Packet → Option ℕ → Type 0
SentUntil s es p None = Unit {0}
SentUntil s es p (Some free) = SentBy s es p free

-- nothing was sent, or a last packet, or one was late
abbrev pub Tail : Traffic → List Entry → ℕ → List Job → Option Job → Option ℕ → Type 0
Tail s es q rest worst None = Stuck s es q rest worst
Tail s es q rest worst (Some free) = (free ≡ 0) ⊎ Last s es q free rest

-- these are left of queue q, which is served until an instant, or no more
pub record Progress (s : Traffic) (es : List Entry) (q : ℕ) (rest : List Job) (until : Option ℕ) (worst : Option Job) : Type 0 where
  pub all_of : AllByRecursion (Of s es q) rest
  pub rises : Rises queue_before rest
  pub known : KnownLate s es worst
  pub split : (p : Packet) → InFirstCycle s es p → queue s p ≡ q → In (job_of s p) rest ⊎ (Covered s es worst p × SentUntil s es p until)
  pub tail : Tail s es q rest worst until

-- a packet is its job
same_job : (s : Traffic) (p r : Packet) → OfSheet s p → OfSheet s r → job_of s r ≡ job_of s p → r ≡ p
same_job s p r op or e =
    let f : r.flow ≡ p.flow = ap (λ (x : Job). x.flow) e in
    let n : r.number ≡ p.number = ap (λ (x : Job). x.number) e in
    let a : r.arrival ≡ p.arrival = or.on_time ∙ ap (λ (x : Job). x.arrival) e ∙ sym op.on_time in
    λ i. record { flow = f i; number = n i; arrival = a i }

due_self : (x : Job) → due_before x x ≡ false
due_self x = grind (arith, nat_tests)

due_behind : (x y z : Job) → due_before x y ≡ false → due_before z y ≡ true → due_before x z ≡ false
due_behind x y z h k = grind (arith, nat_tests)

due_deadline : (x y : Job) → due_before x y ≡ true → x.deadline ≤ y.deadline
due_deadline x y h = grind (arith, nat_tests)

not_due_deadline : (x y : Job) → due_before x y ≡ false → y.deadline ≤ x.deadline
not_due_deadline x y h = grind (arith, nat_tests)

-- the packet that is due first from then on is due no later
pub least_no_later : (worst : Option Job) (x : Job) → NoLater (Some (least_due worst x)) x
least_no_later None x = due_self x
least_no_later (Some w) x = go (due_before x w) refl
  where
    go : (b : Bool) → due_before x w ≡ b → due_before x (cond b x w) ≡ false
    go true e = due_self x
    go false e = e

pub still_no_later : (worst : Option Job) (x y : Job) → NoLater worst y → NoLater (Some (least_due worst x)) y
still_no_later None x y h = absurd h
still_no_later (Some w) x y h = go (due_before x w) refl
  where
    go : (b : Bool) → due_before x w ≡ b → due_before y (cond b x w) ≡ false
    go true e = due_behind y w x h e
    go false e = h

pub still_covered : (s : Traffic) (es : List Entry) (worst : Option Job) (x : Job) (p : Packet) → Covered s es worst p → Covered s es (Some (least_due worst x)) p
still_covered s es worst x p (inl a) = inl a
still_covered s es worst x p (inr a) = inr (still_no_later worst x (job_of s p) a)

-- the one that is due first is late if the other is, where it is due before the known one
least_known : (s : Traffic) (es : List Entry) (worst : Option Job) (p : Packet) → InFirstCycle s es p → KnownLate s es worst → ((w : Job) → worst ≡ Some w → due_before (job_of s p) w ≡ true → Late s es p) → (worst ≡ None → Late s es p) → KnownLate s es (Some (least_due worst (job_of s p)))
least_known s es None p i known late only = (p, (refl, (i, only refl)))
least_known s es (Some w) p i known late only = go (due_before (job_of s p) w) refl
  where
    go : (b : Bool) → due_before (job_of s p) w ≡ b → KnownLate s es (Some (cond b (job_of s p) w))
    go true e = (p, (refl, (i, late w refl e)))
    go false e = known

module _ (s : Traffic) (es : List Entry) (g : Gated s es) (q : ℕ) where
  -- those in front of the next packet have been sent
  cleared : (p : Packet) (rest : List Job) (free : ℕ) (worst : Option Job) → InFirstCycle s es p → queue s p ≡ q → Progress s es q (job_of s p ∷ rest) (Some free) worst → Cleared s es p free
  cleared p rest free worst i own m = record {
    all_sent = λ r f. ⊎_elim
        (λ here. absurd (in_front r f here))
        (λ gone. gone.1)
        (m.split r f.early (f.same_queue ∙ own));
    last_ends = ⊎_elim (λ z. inl z)
        (λ l. inr (l.packet, l.start, record { early = l.early; same_queue = l.own ∙ sym own; before = l.leads.0 }, l.there, l.ends))
        m.tail;
  }
    where
      in_front : (r : Packet) → InFront s es p r → In (job_of s r) (job_of s p ∷ rest) → ⊥
      in_front r f (inl e) = both_ways (waits_before s r p) (ap (λ (x : Job). queue_before x (job_of s p)) e ∙ queue_order.never (job_of s p)) f.before
      in_front r f (inr k) =
          let behind : queue_before (job_of s p) (job_of s r) ≡ true = all_in (λ x. queue_before (job_of s p) x ≡ true) (job_of s r) rest m.rises.0 k in
          both_ways (queue_before (job_of s p) (job_of s p)) (queue_order.never (job_of s p)) (queue_order.chained (job_of s p) (job_of s r) (job_of s p) behind f.before)

  -- one packet less is left
  split_rest : (p : Packet) (rest : List Job) (v w : Option ℕ) (worst after : Option Job) → InFirstCycle s es p →
      ((r : Packet) → InFirstCycle s es r → queue s r ≡ q → In (job_of s r) (job_of s p ∷ rest) ⊎ (Covered s es worst r × SentUntil s es r v)) →
      (Covered s es after p × SentUntil s es p w) →
      ((r : Packet) → Covered s es worst r × SentUntil s es r v → Covered s es after r × SentUntil s es r w) →
      (r : Packet) → InFirstCycle s es r → queue s r ≡ q → In (job_of s r) rest ⊎ (Covered s es after r × SentUntil s es r w)
  split_rest p rest v w worst after i split here more r ri own = ⊎_elim
      (λ (k : In (job_of s r) (job_of s p ∷ rest)). elim k as (λ _. In (job_of s r) rest ⊎ (Covered s es after r × SentUntil s es r w)) [
        | inl e ↦ inr (subst (λ (x : Packet). Covered s es after x × SentUntil s es x w) (sym (same_job s p r i.ours ri.ours e)) here)
        | inr l ↦ inl l
      ])
      (λ gone. inr (more r gone))
      (split r ri own)

  step_sends : (p : Packet) (rest : List Job) (a b : ℕ) (worst : Option Job) → InFirstCycle s es p → queue s p ≡ q → (t : ℕ) → Sends es (job_of s p) a b t →
      Progress s es q (job_of s p ∷ rest) (Some a) worst → Progress s es q rest (Some b) worst
  step_sends p rest a b worst i own t sends m =
      let c = cleared p rest a worst i own m in
      let at : (job_of s p).arrival ≡ p.arrival = sym i.ours.on_time in
      let fit : FirstFit es (queue s p) (max p.arrival a) (wire s p) t = subst (λ (n : ℕ). FirstFit es (queue s p) (max n a) (wire s p) t) at sends.fit in
      let there = sent_at-first_fit s es g p i a t c fit in
      let on = fit.onward in
      let ends = sends.free in
      let in_time : InTimeAt s es p = (t, record { there = there; arrived = none_early s (λ _. es) (first_cycle s) t p there; ends = by_ends s p t sends.ends }) in
      record {
        all_of = m.all_of.1;
        rises = m.rises.1;
        known = m.known;
        split = split_rest p rest (Some a) (Some b) worst worst i m.split (inl in_time, record { start = t; there = there; ends = omega arith })
            (λ r gone. (gone.0, let by = gone.1 in let be = by.ends in record { start = by.start; there = by.there; ends = omega arith }));
        tail = inr (record { packet = p; start = t; early = i; own = own; there = there; ends = sym ends; leads = m.rises.0 });
      }

  step_misses : (p : Packet) (rest : List Job) (a : ℕ) (worst : Option Job) → InFirstCycle s es p → queue s p ≡ q → Misses es (job_of s p) a →
      Progress s es q (job_of s p ∷ rest) (Some a) worst → Progress s es q rest None (Some (least_due worst (job_of s p)))
  step_misses p rest a worst i own misses m =
      let c = cleared p rest a worst i own m in
      let at : (job_of s p).arrival ≡ p.arrival = sym i.ours.on_time in
      let here : Misses es (record { flow = (job_of s p).flow; number = (job_of s p).number; queue = queue s p; arrival = p.arrival; deadline = deadline s p; wire = wire s p; weight = (job_of s p).weight }) a =
      subst (λ (n : ℕ). Misses es (record { flow = (job_of s p).flow; number = (job_of s p).number; queue = queue s p; arrival = n; deadline = deadline s p; wire = wire s p; weight = (job_of s p).weight }) a) at misses in
      let late : Late s es p = ⊎_elim (λ none. late_without_fit s es g p i a c none) (λ f. late_fit s es g p i a f.0 c f.1.0 f.1.1) here in
      record {
        all_of = m.all_of.1;
        rises = m.rises.1;
        known = least_known s es worst p i m.known (λ _ _ _. late) (λ _. late);
        split = split_rest p rest (Some a) None worst (Some (least_due worst (job_of s p))) i m.split (inr (least_no_later worst (job_of s p)), tt)
            (λ r gone. (still_covered s es worst (job_of s p) r gone.0, tt));
        tail = record { packet = p; early = i; own = own; late = late; no_later = least_no_later worst (job_of s p); leads = m.rises.0 };
      }

  step_skips : (p : Packet) (rest : List Job) (worst : Option Job) → InFirstCycle s es p → queue s p ≡ q →
      Progress s es q (job_of s p ∷ rest) None worst → Progress s es q rest None (Some (least_due worst (job_of s p)))
  step_skips p rest worst i own m =
      let stuck = m.tail in
      let late : (x : Job) → worst ≡ Some x → due_before (job_of s p) x ≡ true → Late s es p = λ x is before.
      let less = due_deadline (job_of s p) x before in
      let no_later : due_before (job_of s stuck.packet) x ≡ false = subst (λ (o : Option Job). NoLater o (job_of s stuck.packet)) is stuck.no_later in
      let low = not_due_deadline (job_of s stuck.packet) x no_later in
      late_behind s es g p stuck.packet (record { early = stuck.early; same_queue = stuck.own ∙ sym own; before = stuck.leads.0 }) stuck.late (omega arith) in
      record {
        all_of = m.all_of.1;
        rises = m.rises.1;
        known = least_known s es worst p i m.known late (λ is. absurd (subst (λ (o : Option Job). NoLater o (job_of s stuck.packet)) is stuck.no_later));
        split = split_rest p rest None None worst (Some (least_due worst (job_of s p))) i m.split (inr (least_no_later worst (job_of s p)), tt)
            (λ r gone. (still_covered s es worst (job_of s p) r gone.0, tt));
        tail = record { packet = stuck.packet; early = stuck.early; own = stuck.own; late = stuck.late; no_later = still_no_later worst (job_of s p) (job_of s stuck.packet) stuck.no_later; leads = stuck.leads.1 };
      }

  -- the next packet is served
  module _ (x : Job) (rest : List Job) (worst : Option Job) where
    pub next_sends : (a b t : ℕ) → Sends es x a b t → Progress s es q (x ∷ rest) (Some a) worst → Progress s es q rest (Some b) worst
    next_sends a b t sends m =
        let o = m.all_of.0 in
        subst (λ (y : Job). Sends es y a b t → Progress s es q (y ∷ rest) (Some a) worst → Progress s es q rest (Some b) worst) o.is (step_sends o.packet rest a b worst o.early o.own t) sends m

    pub next_misses : (a : ℕ) → Misses es x a → Progress s es q (x ∷ rest) (Some a) worst → Progress s es q rest None (Some (least_due worst x))
    next_misses a misses m =
        let o = m.all_of.0 in
        subst (λ (y : Job). Misses es y a → Progress s es q (y ∷ rest) (Some a) worst → Progress s es q rest None (Some (least_due worst y))) o.is (step_misses o.packet rest a worst o.early o.own) misses m

    pub next_skips : Progress s es q (x ∷ rest) None worst → Progress s es q rest None (Some (least_due worst x))
    next_skips m =
        let o = m.all_of.0 in
        subst (λ (y : Job). Progress s es q (y ∷ rest) None worst → Progress s es q rest None (Some (least_due worst y))) o.is (step_skips o.packet rest worst o.early o.own) m

  -- where none is left, all are covered
  pub all_covered : (v : Option ℕ) (worst : Option Job) → Progress s es q [] v worst → (p : Packet) → InFirstCycle s es p → queue s p ≡ q → Covered s es worst p
  all_covered v worst m p i own = ⊎_elim (λ (k : ⊥). absurd k) (λ gone. gone.0) (m.split p i own)

  -- those that arrive when the late packet is due, or later, are due later
  later_due : (w : Job) (p : Packet) → InFirstCycle s es p → w.deadline ≤ (job_of s p).arrival → due_before (job_of s p) w ≡ false
  later_due w p i h =
      let ff = fits_of s g.fits p i.ours in
      let some = ff.some_wire in
      let can = ff.can_end in
      let after : w.deadline < deadline s p = omega arith in
      not_before (deadline s p) w.deadline after
    where
      not_before : (a b : ℕ) → b < a → then_by a b (ltb p.flow w.flow) ≡ false
      not_before a b l = grind (arith, nat_tests)

  pub past_covered : (x : Job) (rest : List Job) (v : Option ℕ) (worst : Option Job) → past worst x ≡ true → Progress s es q (x ∷ rest) v worst → (p : Packet) → InFirstCycle s es p → queue s p ≡ q → Covered s es worst p
  past_covered x rest v None over m p i own = absurd (false≢true over)
  past_covered x rest v (Some w) over m p i own = ⊎_elim
      (λ (k : In (job_of s p) (x ∷ rest)). inr (later_due w p i (reach k)))
      (λ gone. gone.0)
      (m.split p i own)
    where
      from : w.deadline ≤ x.arrival
      from = leb-true w.deadline x.arrival over

      behind : (a b : ℕ) (r : Bool) → then_by a b r ≡ true → a ≤ b
      behind a b r h = grind (arith, nat_tests)

      reach : In (job_of s p) (x ∷ rest) → w.deadline ≤ (job_of s p).arrival
      reach (inl e) = let f = from in let a = ap (λ (y : Job). y.arrival) e in omega arith
      reach (inr k) = let f = from in let a = behind x.arrival (job_of s p).arrival _ (all_in (λ y. queue_before x y ≡ true) (job_of s p) rest m.rises.0 k) in omega arith
