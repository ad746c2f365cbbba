-- The laws leave one list of windows. Assumes nothing.
use Rattle.std.proofs.Common.{◌≡◌, ℕ, ◌<◌, ◌≤◌, max, Bool, true, false, not, ◌||◌, eqb, ltb, ◌⊎◌, List, [], ◌∷◌, ◌++◌, filter, sym, refl, ap, ◌∙◌, subst, inl, inr, ⊎_elim, append_assoc, append-nil, arith}
use mathlib.Core.Bool.{or-false, or_assoc}
use Rattle.std.proofs.lemmas.Bool.{cases_Bool, cond_both, both_ways, and_from, or_from, or_left, or_right, or_parts, not_from_true, not_from_false, eq-eqb, eqb-true, lt-ltb, le-ltb}
use Rattle.std.proofs.ByRecursion.{all_kept_by, All-weaker}
use Rattle.std.specs.List.{AllByRecursion}
use Rattle.traffic.specs.declared.packet.Job.{Job}
use Rattle.search.specs.declared.window.Window.{Window}
use Rattle.search_laws.specs.Words.{packets, windows_of, same_name, named_among}
use Rattle.search.specs.Windows.{end, Apart}
use Rattle.search.specs.Search.{Cycle, room, admitted_end, inserted, admissible}
use Rattle.search_laws.specs.Laws.{In, Part, Unlike, Distinct, Given, WaitsIn, LeastStart, walk_windows, stood, Decided, PlanLaw, PlanLawful, PlanOnce}
use Rattle.search_laws.proofs.Lists.{all_in, all_from, all_both, kept_like, apart_after, apart_kept, distinct_part, in_part, all_right}
use Rattle.search_laws.proofs.Room.{least-room}
use Rattle.search_laws.proofs.Names.{unlike_test}
use Rattle.search_laws.proofs.Admit.{windows_fit}
use Rattle.search_laws.proofs.Lawful.{kept_all, walk_lawful}
use Rattle.search_laws.proofs.Law.{in_windows, walk_once}
use Rattle.search_laws.proofs.Trials.{named_self, names_apart, trials_lawful}

pub plan_lawful : PlanLawful
plan_lawful before c ws laws given e =
    let g = windows_fit before c ws given e in
    record { apart = g.apart; walked = walk_lawful before c ws laws given e; optional = g.optional; trials = trials_lawful before c ws given e }

inserted-first : (w : Window) (ws : List Window) → AllByRecursion (λ v. w.start < v.start) ws → inserted w ws ≡ w ∷ ws
inserted-first w [] a = refl
inserted-first w (v ∷ vs) a = let on : ltb w.start v.start ≡ true = lt-ltb _ _ a.0 in rw on

-- a test that passes one window more keeps that one among the others
kept_one_more : (f g : Window → Bool) (w : Window) (a b : ℕ) (ws : List Window) → Apart a ws b → AllByRecursion (λ v. 0 < v.packet.wire) ws → In w ws → f w ≡ false → g w ≡ true → AllByRecursion (λ v. (v ≡ w) ⊎ (g v ≡ f v)) ws → filter g ws ≡ inserted w (filter f ws)
kept_one_more f g w a b [] s p i off on like = absurd i
kept_one_more f g w a b (v ∷ vs) s p i off on like =
    let after = apart_after (end v) (end v) b vs (omega arith) s.1 in
    let wide = p.0 in
    ⊎_elim
    (λ (e : w ≡ v).
    let at : w.start ≡ v.start = ap (λ (x : Window). x.start) e in
    let fv : f v ≡ false = ap f (sym e) ∙ off in
    let gv : g v ≡ true = ap g (sym e) ∙ on in
    let rest : filter g vs ≡ filter f vs = kept_like g f vs (all_both (λ x. (x ≡ w) ⊎ (g x ≡ f x)) (λ x. end v ≤ x.start) (λ x. g x ≡ f x)
    (λ x c l. ⊎_elim (λ (d : x ≡ w). let y : x.start ≡ w.start = ap (λ (z : Window). z.start) d in absurd (omega arith)) (λ (d : g x ≡ f x). d) c) vs like.1 after) in
    let front = inserted-first w (filter f vs) (all_kept_by f (λ x. w.start < x.start) vs (All-weaker (λ x. end v ≤ x.start) (λ x. w.start < x.start) (λ x l. omega arith) vs after)) in
    rw (fv, gv, rest, front) (ap (λ (x : Window). x ∷ filter f vs) (sym e)))
    (λ (k : In w vs).
    let l = all_in (λ x. end v ≤ x.start) w vs after k in
    let ih = kept_one_more f g w (end v) b vs s.1 p.1 k off on like.1 in
    let no : ltb w.start v.start ≡ false = le-ltb _ _ (omega arith) in
    let same : g v ≡ f v = ⊎_elim (λ (d : v ≡ w). let y : v.start ≡ w.start = ap (λ (z : Window). z.start) d in absurd (omega arith)) (λ (d : g v ≡ f v). d) like.0 in
    ⊎_elim
    (λ (fv : f v ≡ true). let gv : g v ≡ true = same ∙ fv in rw (fv, gv, no, ih))
    (λ (fv : f v ≡ false). let gv : g v ≡ false = same ∙ fv in rw (fv, gv, ih))
    (cases_Bool (f v)))
    i

-- of windows of distinct packets each two are the same or unlike
same_or_unlike : (us : List Window) (v w : Window) → Distinct (packets us) → In v us → In w us → (v ≡ w) ⊎ Unlike v.packet w.packet
same_or_unlike [] v w d i j = absurd i
same_or_unlike (u ∷ us) v w d i j =
    let far : (x : Window) → In x us → Unlike u.packet x.packet = λ x k. all_in (Unlike u.packet) x.packet (packets us) d.0 (in_packets x us k) in
    ⊎_elim
    (λ (e : v ≡ u). ⊎_elim (λ (c : w ≡ u). inl (e ∙ sym c)) (λ (k : In w us). let x : Unlike v.packet w.packet = rw e (far w k) in inr x) j)
    (λ (k : In v us). ⊎_elim (λ (c : w ≡ u). let x : Unlike v.packet w.packet = (λ p n. far v k (ap (λ (z : Window). z.packet.flow) (sym c) ∙ sym p) (ap (λ (z : Window). z.packet.number) (sym c) ∙ sym n)) in inr x) (λ (m : In w us). same_or_unlike us v w d.1 k m) j)
    i
  where
    in_packets : (x : Window) (xs : List Window) → In x xs → In x.packet (packets xs)
    in_packets x [] k = k
    in_packets x (y ∷ ys) k = ⊎_elim (λ (e : x ≡ y). inl (ap (λ (z : Window). z.packet) e)) (λ (m : In x ys). inr (in_packets x ys m)) k

named_push : (xs : List Job) (p x : Job) → named_among (xs ++ (p ∷ [])) x ≡ named_among xs x || same_name p x
named_push [] p x = or-false (same_name p x)
named_push (y ∷ ys) p x = rw (named_push ys p x) (sym (or_assoc (same_name y x) (named_among ys x) (same_name p x)))

in_passes : {X : Type 0} (f : X → Bool) (x : X) (xs : List X) → In x xs → f x ≡ true → In x (filter f xs)
in_passes f x [] i on = i
in_passes {X} f x (y ∷ ys) i on =
    cond_both (f y) (y ∷ filter f ys) (filter f ys) (In x)
    (λ _. ⊎_elim (λ (e : x ≡ y). inl e) (λ (k : In x ys). inr (in_passes f x ys k on)) i)
    (λ off. ⊎_elim (λ (e : x ≡ y). absurd (both_ways _ off (ap f (sym e) ∙ on))) (λ (k : In x ys). in_passes f x ys k on) i)

named_none : (ps : List Job) (p : Job) → named_among ps p ≡ false → AllByRecursion (Unlike p) ps
named_none [] p e = tt
named_none (x ∷ xs) p e =
    let b = or_parts (same_name x p) (named_among xs p) e in
    ((λ f n. both_ways _ b.0 (and_from _ _ (eq-eqb _ _ (sym f)) (eq-eqb _ _ (sym n)))), named_none xs p b.1)

in_optional : (v : Window) (ws : List Window) → In v ws → eqb v.packet.queue 0 ≡ true → In v.packet (packets (windows_of 0 ws))
in_optional v ws i on = let P : ℕ → Type 0 = λ q. In v.packet (packets (windows_of q ws)) in subst P (eqb-true v.packet.queue 0 on) (in_windows v ws i)

-- the test of what stood, with one packet more
abbrev stands : List Job → Window → Bool
stands xs v = not (eqb v.packet.queue 0) || named_among xs v.packet

stands_same : (xs : List Job) (p : Job) (v : Window) → (eqb v.packet.queue 0 ≡ true → Unlike p v.packet) → stands (xs ++ (p ∷ [])) v ≡ stands xs v
stands_same xs p v u =
    ⊎_elim
    (λ (on : eqb v.packet.queue 0 ≡ true). let no = unlike_test p v.packet (u on) in let e : named_among (xs ++ (p ∷ [])) v.packet ≡ named_among xs v.packet = named_push xs p v.packet ∙ rw no (or-false (named_among xs v.packet)) in rw e)
    (λ (off : eqb v.packet.queue 0 ≡ false). rw off)
    (cases_Bool (eqb v.packet.queue 0))

module _ (c : Cycle) (given : Given c) (ws : List Window) (apart : Apart 0 ws c.long) (wires : AllByRecursion (λ v. 0 < v.packet.wire) ws) (optional : Part (packets (windows_of 0 ws)) c.optional) where
  stood_more : (xs : List Job) (w : Window) → In w ws → eqb w.packet.queue 0 ≡ true → named_among xs w.packet ≡ false → stood (xs ++ (w.packet ∷ [])) ws ≡ inserted w (stood xs ws)
  stood_more xs w i on unnamed =
      let p = w.packet in
      let distinct = distinct_part (packets (windows_of 0 ws)) c.optional optional given.optional_distinct in
      let self : same_name p p ≡ true = and_from _ _ (eq-eqb p.flow p.flow refl) (eq-eqb p.number p.number refl) in
      kept_one_more (stands xs) (stands (xs ++ (p ∷ []))) w 0 c.long ws apart wires i
      (or_from _ _ (not_from_true _ on) unnamed)
      (or_right (not (eqb p.queue 0)) (named_among (xs ++ (p ∷ [])) p) (named_push xs p p ∙ or_right (named_among xs p) (same_name p p) self))
      (all_from _ ws (λ v j. ⊎_elim
      (λ (vo : eqb v.packet.queue 0 ≡ true).
      ⊎_elim (λ (e : v ≡ w). inl e) (λ (u : Unlike v.packet p). inr (stands_same xs p v (λ _ f n. u (sym f) (sym n))))
      (same_or_unlike (windows_of 0 ws) v w distinct (in_passes (λ x. eqb x.packet.queue 0) v ws j vo) (in_passes (λ x. eqb x.packet.queue 0) w ws i on)))
      (λ (vf : eqb v.packet.queue 0 ≡ false). inr (stands_same xs p v (λ vo. absurd (both_ways _ vf vo))))
      (cases_Bool (eqb v.packet.queue 0))))

  stood-same : (xs : List Job) (p : Job) → named_among (packets (windows_of 0 ws)) p ≡ false → stood (xs ++ (p ∷ [])) ws ≡ stood xs ws
  stood-same xs p unnamed =
      let u = named_none (packets (windows_of 0 ws)) p unnamed in
      kept_like (stands (xs ++ (p ∷ []))) (stands xs) ws (all_from _ ws (λ v i. stands_same xs p v (λ on.
      let m : In v.packet (packets (windows_of 0 ws)) = in_optional v ws i on in
      all_in (Unlike p) v.packet (packets (windows_of 0 ws)) u m)))

  stood_all : (xs : List Job) → c.optional ≡ xs → stood xs ws ≡ ws
  stood_all xs e = kept_all (stands xs) ws (all_from _ ws (λ v i. ⊎_elim
      (λ (on : eqb v.packet.queue 0 ≡ true).
      let m : In v.packet (packets (windows_of 0 ws)) = in_optional v ws i on in
      or_right (not (eqb v.packet.queue 0)) (named_among xs v.packet) (named_self v.packet xs (subst (In v.packet) e (in_part v.packet _ c.optional optional m))))
      (λ (off : eqb v.packet.queue 0 ≡ false). or_left (not (eqb v.packet.queue 0)) (named_among xs v.packet) (not_from_false _ off))
      (cases_Bool (eqb v.packet.queue 0))))

law_wires : (before : Job → Job → Bool) (c : Cycle) (ws : List Window) → Given c → PlanLaw before c ws → AllByRecursion (λ v. 0 < v.packet.wire) ws
law_wires before c ws given g = all_from _ ws (λ v i. ⊎_elim
    (λ (on : eqb v.packet.queue 0 ≡ true).
    let m : In v.packet (packets (windows_of 0 ws)) = in_optional v ws i on in
    (all_in (WaitsIn c.long 0) v.packet c.optional given.optional_waits (in_part v.packet _ c.optional g.optional m)).1)
    (λ (off : eqb v.packet.queue 0 ≡ false).
    let k : In v (walk_windows ws) = in_passes (λ x. not (eqb x.packet.queue 0)) v ws i (not_from_false _ off) in
    let q = all_in (λ x. (0 < x.packet.queue) × (x.packet.queue ≤ 7)) v (walk_windows ws) g.walked.queues k in
    let m = subst (In v.packet) (g.walked.mandatory v.packet.queue q.0 q.1) (in_windows v (walk_windows ws) k) in
    (all_in (WaitsIn c.long v.packet.queue) v.packet (c.mandatory v.packet.queue) (given.mandatory_waits v.packet.queue) m).1)
    (cases_Bool (eqb v.packet.queue 0)))

module _ (before : Job → Job → Bool) (c : Cycle) (given : Given c) (ws vs : List Window) (g : PlanLaw before c ws) (h : PlanLaw before c vs) where
  -- one packet more
  step : (xs : List Job) (p : Job) (ys : List Job) → c.optional ≡ xs ++ (p ∷ ys) → stood xs ws ≡ stood xs vs → stood (xs ++ (p ∷ [])) ws ≡ stood (xs ++ (p ∷ [])) vs
  step xs p ys split same =
      let k = stood xs ws in
      let s = room (max p.arrival (admitted_end k)) p.wire k in
      let w : Window = record { start = s; packet = p } in
      let least : LeastStart (max p.arrival (admitted_end k)) p.wire k s = least-room (max p.arrival (admitted_end k)) p.wire 0 c.long k (apart_kept (stands xs) 0 c.long ws g.apart) in
      let a : Decided c.long k ws w = g.trials xs p ys split s least in
      let P : List Window → Type 0 = λ l. LeastStart (max p.arrival (admitted_end l)) p.wire l s → Decided c.long l vs w in
      let b : Decided c.long k vs w = subst P (sym same) (h.trials xs p ys split s) least in
      let waits : AllByRecursion (WaitsIn c.long 0) (xs ++ (p ∷ ys)) = subst (AllByRecursion (WaitsIn c.long 0)) split given.optional_waits in
      let on : eqb p.queue 0 ≡ true = eq-eqb _ _ (all_right (WaitsIn c.long 0) xs (p ∷ ys) waits).0.0 in
      let no : named_among xs p ≡ false = (names_apart xs (p ∷ ys) (subst Distinct split given.optional_distinct)).0 in
      let Yes = admissible c.long w k ≡ true in
      let No = admissible c.long w k ≡ false in
      ⊎_elim
      (λ (x : Yes × In w ws). ⊎_elim
      (λ (y : Yes × In w vs).
      stood_more c given ws g.apart (law_wires before c ws given g) g.optional xs w x.1 on no ∙ ap (inserted w) same ∙
      sym (stood_more c given vs h.apart (law_wires before c vs given h) h.optional xs w y.1 on no))
      (λ (y : No × (named_among (packets (windows_of 0 vs)) p ≡ false)). absurd (both_ways _ y.0 x.0))
      b)
      (λ (x : No × (named_among (packets (windows_of 0 ws)) p ≡ false)). ⊎_elim
      (λ (y : Yes × In w vs). absurd (both_ways _ x.0 y.0))
      (λ (y : No × (named_among (packets (windows_of 0 vs)) p ≡ false)).
      stood-same c given ws g.apart (law_wires before c ws given g) g.optional xs p x.1 ∙ same ∙
      sym (stood-same c given vs h.apart (law_wires before c vs given h) h.optional xs p y.1))
      b)
      a

  once_from : (xs ys : List Job) → c.optional ≡ xs ++ ys → stood xs ws ≡ stood xs vs → ws ≡ vs
  once_from xs [] split same =
      let e : c.optional ≡ xs = split ∙ append-nil xs in
      sym (stood_all c given ws g.apart (law_wires before c ws given g) g.optional xs e) ∙ same ∙ stood_all c given vs h.apart (law_wires before c vs given h) h.optional xs e
  once_from xs (p ∷ ys) split same = once_from (xs ++ (p ∷ [])) ys (split ∙ sym (append_assoc xs (p ∷ []) ys)) (step xs p ys split same)

none_stood : (ws : List Window) → stood [] ws ≡ walk_windows ws
none_stood ws = kept_like (stands []) (λ v. not (eqb v.packet.queue 0)) ws (all_from _ ws (λ v _. or-false (not (eqb v.packet.queue 0))))

pub plan_once : PlanOnce
plan_once before c ws vs laws given g h =
    once_from before c given ws vs g h [] c.optional refl (none_stood ws ∙ walk_once before c (walk_windows ws) (walk_windows vs) laws given g.walked h.walked ∙ sym (none_stood vs))
