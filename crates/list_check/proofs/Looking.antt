-- One packet after another of a queue of a sheet.
use Rattle.std.proofs.Common.{◌≡◌, ℕ, ◌≤◌, true, false, List, [], ◌∷◌, Some, None, Option, Iter, MatchOption, sym, refl, ap, subst, arith}
use Rattle.std.specs.Option.{option_map, is_some}
use Rattle.std.specs.Iterator.{AlwaysYields, YieldsFirst}
use Rattle.std.specs.declared.iter.Copied.{Copied}
use Rattle.std.proofs.iter.Yields.{copies, fronts, Copied-slice}
use Rattle.std.proofs.lemmas.Iterator.Consumers.{YieldsList-from_first}
use Rattle.std.proofs.lemmas.Bool.{false≢true}
use Rattle.traffic.specs.declared.packet.Packet.{Packet}
use Rattle.traffic.specs.declared.packet.Job.{Job}
use Rattle.traffic.specs.Packets.{Traffic}
use Rattle.gates.specs.declared.entry.Entry.{Entry}
use Rattle.sheet.specs.declared.sheet.Sheet.{Sheet}
use Rattle.sheet.specs.Contents.{traffic_of}
use Rattle.sending.specs.Sheet.{job_of}
use Rattle.sending.specs.Rules.{Rules, Broken, first_broken}
use Rattle.sending.specs.InTime.{unbroken}
use Rattle.sending.proofs.Keeping.{rules_agree}
use Rattle.sending.proofs.Fitting.{read_sheets_fit}
use Rattle.coming.specs.Coming.{Due}
use Rattle.coming.specs.Packets.{packets_before}
use Rattle.coming.proofs.Dues.{due_bounds}
use Rattle.list_check.specs.declared.rules.Lawful.{Lawful}
use Rattle.list_check.specs.declared.service.Service.{Service}
use Rattle.list_check.specs.Serving.{Gated}
use Rattle.list_check.specs.Fit.{Placed, Sound}
use Rattle.list_check.specs.Service.{Bounded, Misses, Sends, least_due}
use Rattle.list_check.specs.Queued.{Of, Queued, QueueComes}
use Rattle.list_check.specs.Lateness.{Covered}
use Rattle.list_check.proofs.Progress.{Progress, still_covered, next_sends, next_misses, next_skips}
use Rattle.list_check.proofs.Starting.{of_due, mandatory_queued}

-- a lawful list keeps the rules
pub lawful_rules : (l : Lawful) → Rules (traffic_of l.sheet.now) l.list.now
lawful_rules l = (rules_agree (traffic_of l.sheet.now) l.list.now).0 (none_broken (first_broken (traffic_of l.sheet.now) l.list.now) l.lawful)
  where
    none_broken : (o : Option Broken) → unbroken o ≡ true → o ≡ None
    none_broken None h = refl
    none_broken (Some b) h = absurd (false≢true h)

pub gated : (sh : Sheet) (es : List Entry) → Rules (traffic_of sh) es → Gated (traffic_of sh) es
gated sh es rules = record { fits = read_sheets_fit (traffic_of sh) sh.kept; whole = rules.whole; gating = rules.gating }

pub sound : (sh : Sheet) (es : List Entry) → Rules (traffic_of sh) es → Sound es
sound sh es rules = let whole = rules.whole in let round = sh.round in let short = sh.short in record { short = omega arith; gating = rules.gating }

-- until when a queue is served
abbrev pub until : Option Service → Option ℕ
until = option_map (λ v. v.free)

-- where the list stands then
abbrev pub StandsIn : List Entry → Option Service → Type 0
StandsIn es None = Unit {0}
StandsIn es (Some v) = Placed es v.cursor

-- the next packet is served, if none was late before
abbrev pub Served : Job → Option Service → Option Service → Type 0
Served x v w = MatchOption v (w ≡ None) (λ a. (es : List Entry) → Sound es → Placed es a.cursor → MatchOption w (Misses es x a.free) (λ b. Placed es b.cursor × ((t : ℕ) × Sends es x a.free b.free t)))

-- the late packet that is due first from then on
abbrev pub worst_after : Option Service → Option Job → Job → Option Job
worst_after None worst x = Some (least_due worst x)
worst_after (Some v) worst x = worst

pub served_stands : (es : List Entry) → Sound es → (x : Job) (v w : Option Service) → StandsIn es v → Served x v w → StandsIn es w
served_stands es ok x None w at is = subst (StandsIn es) (sym is) tt
served_stands es ok x (Some a) None at does = tt
served_stands es ok x (Some a) (Some b) at does = (does es ok at).0

pub served_next : (s : Traffic) (es : List Entry) → Gated s es → Sound es → (q : ℕ) (x : Job) (rest : List Job) (worst : Option Job) (v w : Option Service) → StandsIn es v → Served x v w →
    Progress s es q (x ∷ rest) (until v) worst → Progress s es q rest (until w) (worst_after w worst x)
served_next s es g ok q x rest worst None w at is m = subst (λ (o : Option Service). Progress s es q rest (until o) (worst_after o worst x)) (sym is) (next_skips s es g q x rest worst m)
served_next s es g ok q x rest worst (Some a) None at does m = next_misses s es g q x rest worst a.free (does es ok at) m
served_next s es g ok q x rest worst (Some a) (Some b) at does m = let sends = (does es ok at).1 in next_sends s es g q x rest worst a.free b.free sends.0 sends.1 m

-- what was covered still is
pub look_still : (s : Traffic) (es : List Entry) (w : Option Service) (worst : Option Job) (x : Job) (p : Packet) → Covered s es worst p → Covered s es (worst_after w worst x) p
look_still s es None worst x p h = still_covered s es worst x p h
look_still s es (Some v) worst x p h = h

due_bounded : (sh : Sheet) (q : ℕ) (x : Job) → Due (traffic_of sh) sh.cycle q x → Bounded x
due_bounded sh q x d =
    let b = due_bounds (traffic_of sh) sh.cycle q x sh.kept d in
    let early = d.early in
    let short = sh.short in
    let due = b.deadline_most in
    let number = b.number_most in
    record { arrives = omega arith; due = omega arith; some = b.wire_some; counted = omega arith }

pub of_bounded : (sh : Sheet) (es : List Entry) → Rules (traffic_of sh) es → (q : ℕ) (x : Job) → Of (traffic_of sh) es q x → Bounded x
of_bounded sh es rules q x o = subst Bounded o.is (due_bounded sh q (job_of (traffic_of sh) o.packet) (of_due (traffic_of sh) es (gated sh es rules) sh.cycle sh.round sh.kept q o.packet o.early o.own))

-- what an iterator has left after a step, and at its end
module _ {S : Type 0} (steps : S → Option Job → S → Type 0) (P : List Job → Type 0) (a b : S) where
  pub next_left : (x : Job) → steps a (Some x) b → (xs : List Job) × AlwaysYields steps (λ y. y) a xs × P xs → (rest : List Job) × AlwaysYields steps (λ y. y) b rest × P (x ∷ rest)
  next_left x h ([], comes, p) = absurd (comes x b h)
  next_left x h (y ∷ rest, comes, p) = let k = comes.1 x b h in (rest, k.1, subst (λ (z : Job). P (z ∷ rest)) (sym k.0) p)

  pub none_left : steps a None b → (xs : List Job) × AlwaysYields steps (λ y. y) a xs × P xs → P []
  none_left h ([], comes, p) = p
  none_left h (y ∷ rest, comes, p) = absurd (comes.0 b h)

pub late_after : (w : Option Service) (worst : Option Job) (x y : Job) → is_some w ≡ false → y ≡ least_due worst x → worst_after w worst x ≡ Some y
late_after None worst x y none is = ap (λ (z : Job). Some z) (sym is)
late_after (Some v) worst x y none is = absurd (false≢true (sym none))

pub kept_after : (w : Option Service) (worst : Option Job) (x : Job) → is_some w ≡ true → worst_after w worst x ≡ worst
kept_after None worst x some = absurd (false≢true some)
kept_after (Some v) worst x some = refl

-- what is left after one more look
pub record More {S : Type 0} (steps : S → Option Job → S → Type 0) (s : Traffic) (es : List Entry) (a b : S) (v w : Option Service) (before after : Option Job) : Type 0 where
  pub stands : StandsIn es w
  pub goes : (q : ℕ) → (xs : List Job) × AlwaysYields steps (λ y. y) a xs × Progress s es q xs (until v) before → (rest : List Job) × AlwaysYields steps (λ y. y) b rest × Progress s es q rest (until w) after
  pub still : (p : Packet) → Covered s es before p → Covered s es after p

pub look_more : {S : Type 0} (steps : S → Option Job → S → Type 0) (sh : Sheet) (es : List Entry) → Rules (traffic_of sh) es → (a b : S) (x : Job) (v w : Option Service) (before after : Option Job) →
    steps a (Some x) b → StandsIn es v → Served x v w → worst_after w before x ≡ after → More steps (traffic_of sh) es a b v w before after
look_more steps sh es rules a b x v w before after goes at served is =
    let s = traffic_of sh in
    let ok = sound sh es rules in
    subst (More steps s es a b v w before) is
    (record {
      stands = served_stands es ok x v w at served;
      goes = λ q left. let m = next_left steps (λ xs. Progress s es q xs (until v) before) a b x goes left in (m.0, m.1, served_next s es (gated sh es rules) ok q x m.0 before v w at served m.2);
      still = look_still s es w before x;
    })

-- the packets that a list names come in queue order
pub named_comes : (s : Traffic) (es : List Entry) (it : Copied (Iter Job)) {xs : List Job} → Queued s es 0 xs → it.iter.rest.now ≡ xs → QueueComes (copies fronts) it s es 0
named_comes s es it queued is = (it.iter.rest.now, Copied-slice it, subst (Queued s es 0) (sym is) queued)

-- and so do the mandatory packets of a queue
pub queue_comes : (sh : Sheet) (es : List Entry) → Rules (traffic_of sh) es → (q : ℕ) → 1 ≤ q → (xs : List Job) → xs ≡ packets_before (traffic_of sh) q sh.cycle → QueueComes (YieldsFirst (λ (l : List Job). l)) xs (traffic_of sh) es q
queue_comes sh es rules q some xs is = (
  xs,
  (YieldsList-from_first (λ (x : Job). x) (λ (l : List Job). l) xs refl).runs,
  subst (Queued (traffic_of sh) es q) (sym is) (mandatory_queued (traffic_of sh) es (gated sh es rules) sh.cycle sh.round sh.kept q some),
)
