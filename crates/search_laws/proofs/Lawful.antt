-- What a search sets obeys the laws. Assumes nothing.
use Rattle.std.proofs.Common.{◌≡◌, ℕ, ◌<◌, ◌≤◌, Bool, true, false, not, eqb, List, [], ◌∷◌, Ok, filter, sym, refl, ap, ◌∙◌, subst, arith}
use Rattle.std.proofs.lemmas.Bool.{cond_both, not_from_true, not_from_false, eq-eqb, ne_eqb}
use Rattle.std.proofs.ByRecursion.{All-weaker}
use Rattle.std.specs.List.{AllByRecursion}
use Rattle.traffic.specs.declared.packet.Job.{Job}
use Rattle.search.specs.declared.window.Window.{Window}
use Rattle.search_laws.specs.Words.{OnTime}
use Rattle.search.specs.Windows.{Apart}
use Rattle.search.specs.Search.{Cycle, walked, count, trial, inserted, admissible, admitted, planned_windows}
use Rattle.search_laws.specs.Laws.{Given, WaitsIn, WalkLaw, WalkLawful, walk_windows}
use Rattle.search_laws.proofs.Lists.{all_from}
use Rattle.search_laws.proofs.Steps.{went_on}
use Rattle.search_laws.proofs.Walk.{Fine, walk_from}
use Rattle.search_laws.proofs.Admit.{kept_inserted}
use Rattle.search_laws.proofs.Turns.{walk_turns}
use Rattle.search_laws.proofs.Law.{Law, Right, all_home, turns_law}

-- the windows of a search come from a walk
pub from_walk : (before : Job → Job → Bool) (c : Cycle) (vs : List Window) (P : List Window → Type 0) →
    ((ws : List Window) → walked before c.long (count c.mandatory 7) 0 c.mandatory [] ≡ Ok ws → P (admitted c.long c.optional ws)) → planned_windows before c ≡ Ok vs → P vs
from_walk before c vs P f e =
    let on = went_on (walked before c.long (count c.mandatory 7) 0 c.mandatory []) (λ ws. Ok (admitted c.long c.optional ws)) vs e in
    let d = on.2 in
    let same : admitted c.long c.optional on.0 ≡ vs = cc in
    subst P same (f on.0 on.1)

pub kept_all : {X : Type 0} (f : X → Bool) (xs : List X) → AllByRecursion (λ x. f x ≡ true) xs → filter f xs ≡ xs
kept_all f [] a = refl
kept_all {X} f (x ∷ xs) a = let e = a.0 in rw e (ap (λ (l : List X). x ∷ l) (kept_all f xs a.1))

-- the trials add windows that a test of the packet refuses
pub kept_admit : (f : Job → Bool) (long : ℕ) (ps : List Job) (ws : List Window) → AllByRecursion (λ p. f p ≡ false) ps → filter (λ w. f w.packet) (admitted long ps ws) ≡ filter (λ w. f w.packet) ws
kept_admit f long [] ws a = refl
kept_admit f long (p ∷ ps) ws a =
    let w = trial p ws in
    cond_both (admissible long w ws) (inserted w ws) ws (λ (done : List Window). let l = admitted long ps done in filter (λ v. f v.packet) l ≡ filter (λ v. f v.packet) ws)
    (λ _. kept_admit f long ps (inserted w ws) a.1 ∙ kept_inserted (λ v. f v.packet) w ws a.0)
    (λ _. kept_admit f long ps ws a.1)

optional_off : (c : Cycle) → Given c → AllByRecursion (λ p. not (eqb p.queue 0) ≡ false) c.optional
optional_off c given = All-weaker (WaitsIn c.long 0) (λ p. not (eqb p.queue 0) ≡ false) (λ p w. not_from_true _ (eq-eqb _ _ w.0)) c.optional given.optional_waits

pub walk_lawful : WalkLawful
walk_lawful before c vs laws given e = from_walk before c vs (λ l. WalkLaw before c (walk_windows l))
    (λ ws f.
    let g = walk_from before c given ws f in
    let t = walk_turns before given.home c.long laws (count c.mandatory 7) 0 c.mandatory [] ws (all_home c given) refl f in
    let same : ws ≡ t.0 = t.1 in
    let P : List Window → Type 0 = λ l. Law before 0 c.long c.mandatory l in
    let law : Law before 0 c.long c.mandatory ws =
    subst P (sym same) (turns_law before given.home c.long 0 c.mandatory t.0 (all_home c given) given.mandatory_rises (subst (λ l. Apart 0 l c.long) same g.apart) t.2) in
    let on : AllByRecursion (λ w. not (eqb w.packet.queue 0) ≡ true) ws = All-weaker Right (λ w. not (eqb w.packet.queue 0) ≡ true) (λ w r. let k = r.2 in not_from_false _ (ne_eqb _ _ (omega arith))) ws law.fine in
    let back : walk_windows (admitted c.long c.optional ws) ≡ ws =
    kept_admit (λ p. not (eqb p.queue 0)) c.long c.optional ws (optional_off c given) ∙ kept_all (λ w. not (eqb w.packet.queue 0)) ws on in
    subst (WalkLaw before c) (sym back) (record {
      apart = g.apart;
      on_time = All-weaker (Fine c.long) OnTime (λ w x. x.0) ws g.fine;
      queues = All-weaker Right (λ w. (0 < w.packet.queue) × (w.packet.queue ≤ 7)) (λ w r. (r.2, r.3)) ws law.fine;
      mandatory = law.placed;
      never_idle = λ u idle. law.never_idle u (omega arith) idle;
      in_order = all_from _ ws (λ v i. all_from _ ws (λ w j. law.in_order v w i j));
    }))
    e
