-- The law of the trials. Assumes nothing.
use Rattle.std.proofs.Common.{◌≡◌, ℕ, max, true, false, not, ◌||◌, eqb, ltb, List, [], ◌∷◌, ◌++◌, sym, refl, ap, ◌∙◌, subst, inl, inr, ⊎_elim, append_assoc, append-nil, arith}
use Rattle.std.proofs.lemmas.Bool.{cases_Bool, cond_both, and_from, or_from, or_left, or_right, not_from_true, not_from_false, eq-eqb}
use Rattle.std.proofs.ByRecursion.{All-weaker}
use Rattle.std.specs.List.{AllByRecursion}
use Rattle.traffic.specs.declared.packet.Job.{Job}
use Rattle.search.specs.declared.window.Window.{Window}
use Rattle.search_laws.specs.Words.{packets, windows_of, same_name, named_among}
use Rattle.search.specs.Search.{Cycle, admitted_end, trial, inserted, admissible, admitted}
use Rattle.search_laws.specs.Laws.{In, Unlike, Distinct, WaitsIn, LeastStart, stood, Decided, TrialLaw, TrialsLawful}
use Rattle.search_laws.proofs.Lists.{all_in, all_from, all_both, all_part, all_right, all_kept}
use Rattle.search_laws.proofs.Room.{least-room}
use Rattle.search_laws.proofs.Names.{none_named, unlike_test}
use Rattle.search_laws.proofs.Walk.{walk_from}
use Rattle.search_laws.proofs.Admit.{Trying, all_inserted, admits, tried, trying_from}
use Rattle.search_laws.proofs.Lawful.{from_walk, kept_all, kept_admit}

pub least-same : (s e x y : ℕ) (ws : List Window) → LeastStart s e ws x → LeastStart s e ws y → x ≡ y
least-same s e x y ws a b = let h = a.least y b.from b.clear in let k = b.least x a.from a.clear in omega arith

in_inserted : (w : Window) (ws : List Window) → In w (inserted w ws)
in_inserted w [] = inl refl
in_inserted w (v ∷ vs) = cond_both (ltb w.start v.start) (w ∷ (v ∷ vs)) (v ∷ inserted w vs) (In w) (λ _. inl refl) (λ _. inr (in_inserted w vs))

in_more : (x w : Window) (ws : List Window) → In x ws → In x (inserted w ws)
in_more x w [] i = absurd i
in_more x w (v ∷ vs) i =
    cond_both (ltb w.start v.start) (w ∷ (v ∷ vs)) (v ∷ inserted w vs) (In x) (λ _. inr i) (λ _. ⊎_elim (λ (e : x ≡ v). inl e) (λ (k : In x vs). inr (in_more x w vs k)) i)

in_admit : (x : Window) (long : ℕ) (ps : List Job) (ws : List Window) → In x ws → In x (admitted long ps ws)
in_admit x long [] ws i = i
in_admit x long (p ∷ ps) ws i =
    let w = trial p ws in
    cond_both (admissible long w ws) (inserted w ws) ws (λ (done : List Window). (In x) (admitted long ps done)) (λ _. in_admit x long ps (inserted w ws) (in_more x w ws i)) (λ _. in_admit x long ps ws i)

pub named_self : (p : Job) (xs : List Job) → In p xs → named_among xs p ≡ true
named_self p [] i = absurd i
named_self p (x ∷ xs) i =
    ⊎_elim (λ (e : p ≡ x). rw e (or_left (same_name x x) (named_among xs x) (and_from _ _ (eq-eqb x.flow x.flow refl) (eq-eqb x.number x.number refl))))
    (λ (k : In p xs). or_right (same_name x p) (named_among xs p) (named_self p xs k)) i

named_append : (xs ys : List Job) (p : Job) → AllByRecursion (Unlike p) xs → AllByRecursion (Unlike p) ys → named_among (xs ++ ys) p ≡ false
named_append [] ys p a b = none_named p ys b
named_append (x ∷ xs) ys p a b = or_from _ _ (unlike_test x p (λ e d. a.0 (sym e) (sym d))) (named_append xs ys p a.1 b)

-- of distinct packets, those behind bear no name of those before
pub names_apart : (xs ps : List Job) → Distinct (xs ++ ps) → AllByRecursion (λ p. named_among xs p ≡ false) ps
names_apart [] ps d = all_from _ ps (λ p i. refl)
names_apart (x ∷ xs) ps d =
    all_both (Unlike x) (λ p. named_among xs p ≡ false) (λ p. named_among (x ∷ xs) p ≡ false) (λ p u n. or_from _ _ (unlike_test x p u) n) ps (all_right (Unlike x) xs ps d.0) (names_apart xs ps d.1)

pub unlike_others : (xs : List Job) (p : Job) (ys : List Job) → Distinct (xs ++ (p ∷ ys)) → AllByRecursion (Unlike p) xs × AllByRecursion (Unlike p) ys
unlike_others [] p ys d = (tt, d.0)
unlike_others (x ∷ xs) p ys d =
    let r = unlike_others xs p ys d.1 in
    let u = (all_right (Unlike x) xs (p ∷ ys) d.0).0 in
    ((λ e n. u (sym e) (sym n), r.0), r.1)

-- the optional windows are of these packets
abbrev Of : List Job → List Window → Type 0
Of xs ws = AllByRecursion (λ w. eqb w.packet.queue 0 ≡ true → In w.packet xs) ws

of_packets : (Q : Job → Type 0) (xs : List Job) (ws : List Window) → Of xs ws → AllByRecursion Q xs → AllByRecursion Q (packets (windows_of 0 ws))
of_packets Q xs [] o a = tt
of_packets Q xs (w ∷ ws) o a =
    let ih = of_packets Q xs ws o.1 a in
    cond_both (eqb w.packet.queue 0) (w ∷ windows_of 0 ws) (windows_of 0 ws) (λ l. AllByRecursion Q (packets l)) (λ on. (all_in Q w.packet xs a (o.0 on), ih)) (λ _. ih)

in_push : (p : Job) (xs : List Job) (x : Job) → In p xs → In p (xs ++ (x ∷ []))
in_push p [] x i = absurd i
in_push p (y ∷ ys) x i = ⊎_elim (λ (e : p ≡ y). inl e) (λ (k : In p ys). inr (in_push p ys x k)) i

in_end : (xs : List Job) (x : Job) → In x (xs ++ (x ∷ []))
in_end [] x = inl refl
in_end (y ∷ ys) x = inr (in_end ys x)

of_push : (xs : List Job) (x : Job) (ws : List Window) → Of xs ws → Of (xs ++ (x ∷ [])) ws
of_push xs x ws o = All-weaker (λ w. eqb w.packet.queue 0 ≡ true → In w.packet xs) _ (λ w f on. in_push w.packet xs x (f on)) ws o

-- what stood before a trial is found among all that stands after
stood_before : (c : Cycle) (xs ps : List Job) (ws : List Window) → Distinct (xs ++ ps) → AllByRecursion (WaitsIn c.long 0) ps → Of xs ws → stood xs (admitted c.long ps ws) ≡ ws
stood_before c xs ps ws d h o =
    kept_admit (λ p. not (eqb p.queue 0) || named_among xs p) c.long ps ws
    (all_both (WaitsIn c.long 0) (λ p. named_among xs p ≡ false) _ (λ p w n. or_from _ _ (not_from_true _ (eq-eqb _ _ w.0)) n) ps h (names_apart xs ps d))
    ∙ kept_all _ ws (All-weaker (λ w. eqb w.packet.queue 0 ≡ true → In w.packet xs) (λ w. (not (eqb w.packet.queue 0) || named_among xs w.packet) ≡ true)
    (λ w f. ⊎_elim (λ (on : eqb w.packet.queue 0 ≡ true). or_right (not (eqb w.packet.queue 0)) (named_among xs w.packet) (named_self w.packet xs (f on))) (λ (off : eqb w.packet.queue 0 ≡ false). or_left (not (eqb w.packet.queue 0)) (named_among xs w.packet) (not_from_false _ off)) (cases_Bool (eqb w.packet.queue 0))) ws o)

-- the trial of p, where these windows stood and those stand at the end
abbrev TrialOf : ℕ → Job → List Window → List Window → Type 0
TrialOf long p old ws = (s : ℕ) → LeastStart (max p.arrival (admitted_end old)) p.wire old s → Decided long old ws (record { start = s; packet = p })

tried-now : (c : Cycle) (xs : List Job) (p : Job) (ys : List Job) (ws : List Window) → Distinct (xs ++ (p ∷ ys)) → AllByRecursion (WaitsIn c.long 0) (p ∷ ys) → Trying c ws → Of xs ws → TrialOf c.long p ws (admitted c.long (p ∷ ys) ws)
tried-now c xs p ys ws d h g o s least =
    let w = trial p ws in
    let at : w.start ≡ s = least-same (max p.arrival (admitted_end ws)) p.wire w.start s ws (least-room (max p.arrival (admitted_end ws)) p.wire 0 c.long ws g.apart) least in
    let same : ◌≡◌ {A = Window} (record { start = w.start; packet = p }) (record { start = s; packet = p }) = rw at in
    subst (Decided c.long ws (admitted c.long (p ∷ ys) ws)) same
    (cond_both (admissible c.long w ws) (inserted w ws) ws (λ (done : List Window). let l = admitted c.long ys done in Decided c.long ws l w)
    (λ on. inl (on, in_admit w c.long ys (inserted w ws) (in_inserted w ws)))
    (λ off.
    let t = tried c ys ws h.1 g in
    let u = unlike_others xs p ys d in
    inr (off, ap (λ (l : List Job). named_among l p) t.named ∙ named_append (packets (windows_of 0 ws)) t.names p (of_packets (Unlike p) xs ws o u.0) (all_part (Unlike p) t.names ys t.part u.1))))

trials : (c : Cycle) (xs zs : List Job) (p : Job) (ys : List Job) (ws : List Window) → Distinct (xs ++ (zs ++ (p ∷ ys))) → AllByRecursion (WaitsIn c.long 0) (zs ++ (p ∷ ys)) → Trying c ws → Of xs ws →
    TrialOf c.long p (stood (xs ++ zs) (admitted c.long (zs ++ (p ∷ ys)) ws)) (admitted c.long (zs ++ (p ∷ ys)) ws)
trials c xs [] p ys ws d h g o =
    let old : stood (xs ++ []) (admitted c.long (p ∷ ys) ws) ≡ ws = ap (λ (l : List Job). stood l (admitted c.long (p ∷ ys) ws)) (append-nil xs) ∙ stood_before c xs (p ∷ ys) ws d h o in
    let P : List Window → Type 0 = λ l. TrialOf c.long p l (admitted c.long (p ∷ ys) ws) in
    subst P (sym old) (tried-now c xs p ys ws d h g o)
trials c xs (z ∷ zs) p ys ws d h g o =
    let w = trial z ws in
    let ps = zs ++ (p ∷ ys) in
    let xz = xs ++ (z ∷ []) in
    let d2 : Distinct (xz ++ ps) = subst Distinct (sym (append_assoc xs (z ∷ []) ps)) d in
    let P : List Job → Type 0 = λ l. TrialOf c.long p (stood l (admitted c.long (z ∷ ps) ws)) (admitted c.long (z ∷ ps) ws) in
    subst P (append_assoc xs (z ∷ []) zs)
    (cond_both (admissible c.long w ws) (inserted w ws) ws (λ (done : List Window). let l = admitted c.long ps done in TrialOf c.long p (stood (xz ++ zs) l) l)
    (λ on. trials c xz zs p ys (inserted w ws) d2 h.1 (admits c z ws h.0 g on)
    (all_inserted _ w ws (λ _. in_end xs z) (of_push xs z ws o)))
    (λ off. trials c xz zs p ys ws d2 h.1 g (of_push xs z ws o)))

pub trials_lawful : TrialsLawful
trials_lawful before c vs given e = from_walk before c vs (TrialLaw c)
    (λ ws f xs p ys split.
    let g = walk_from before c given ws f in
    let none : Of [] ws = all_kept (λ w. In w.packet []) (λ w. eqb w.packet.queue 0) ws (subst (AllByRecursion (λ w. In w.packet [])) (sym g.unnamed) tt) in
    let P : List Job → Type 0 = λ l. TrialOf c.long p (stood xs (admitted c.long l ws)) (admitted c.long l ws) in
    subst P (sym split) (trials c [] xs p ys ws (subst Distinct split given.optional_distinct) (subst (AllByRecursion (WaitsIn c.long 0)) split given.optional_waits) (trying_from c ws g) none))
    e
