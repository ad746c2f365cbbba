-- What holds of every list that a search draws. Assumes nothing.
use Rattle.std.specs.Prelude.{◌≡◌, ℕ, ◌+◌, ◌<◌, ◌≤◌, max, Bool, true, false, not, ◌||◌, ◌⊎◌, List, [], ◌∷◌, ◌++◌, length, Some, Ok, Err, filter, ◌==◌}
use Rattle.std.specs.List.{AllByRecursion}
use Rattle.traffic.specs.declared.packet.Job.{Job}
use Rattle.search.specs.declared.window.Window.{Window}
use Rattle.traffic.specs.Orders.{JobsDiffer}
use Rattle.search_laws.specs.Words.{Serving, packets, windows_of, OnTime, named_among, Names}
use Rattle.search.specs.Windows.{end, Apart}
use Rattle.gates.specs.declared.entry.Entry.{Entry}
use Rattle.gates.specs.Open.{opens}
use Rattle.search.specs.Drawn.{drawn}
use Rattle.search.specs.Search.{Cycle, most_entries, next, room, admitted_end, admissible, planned_windows, planned_list}
use Rattle.search.specs.declared.fault.SearchFault.TheVariants.{Late, TooLong}

-- in the order of their arrival, none before a
abbrev pub Rising : ℕ → List Job → Type 0
Rising a [] = Unit {0}
Rising a (p ∷ ps) = (a ≤ p.arrival) × Rising p.arrival ps

-- a packet that waits in queue q of a cycle
abbrev pub WaitsIn : ℕ → ℕ → Job → Type 0
WaitsIn long q p = (p.queue ≡ q) × (0 < p.wire) × (0 < p.flow) × (p.deadline ≤ long)

-- these packets bear different names
abbrev pub Unlike : Job → Job → Type 0
Unlike x y = (x.flow ≡ y.flow) → (x.number ≡ y.number) → ⊥

abbrev pub Distinct : List Job → Type 0
Distinct [] = Unit {0}
Distinct (p ∷ ps) = AllByRecursion (Unlike p) ps × Distinct ps

-- what every sheet's cycle has
pub record Given (c : Cycle) : Type 0 where
  pub some_time : 0 < c.long
  pub mandatory_waits : (q : ℕ) → AllByRecursion (WaitsIn c.long q) (c.mandatory q)
  pub mandatory_rises : (q : ℕ) → Rising 0 (c.mandatory q)
  pub optional_waits : AllByRecursion (WaitsIn c.long 0) c.optional
  pub optional_rises : Rising 0 c.optional
  pub optional_distinct : Distinct c.optional
  pub home : ℕ → ℕ
  pub mandatory_home : (q : ℕ) → AllByRecursion (λ p. home p.flow ≡ q) (c.mandatory q)

-- one of these
abbrev pub In : {X : Type 0} → X → List X → Type 0
In x [] = ⊥
In x (y ∷ ys) = (x ≡ y) ⊎ In x ys

-- each two of these differ
abbrev pub Differing : List Job → Type 0
Differing [] = Unit {0}
Differing (p ∷ ps) = AllByRecursion (JobsDiffer p) ps × Differing ps

-- the walk's next window among the first packets of the queues: nobody waits while the wire is idle, and none that has arrived is served before it
pub record Next (before : Job → Job → Bool) (t : ℕ) (heads : List Job) (w : Window) : Type 0 where
  pub among : In w.packet heads
  pub arrived : w.packet.arrival ≤ w.start
  pub onward : t ≤ w.start
  pub busy : AllByRecursion (λ p. w.start ≤ max t p.arrival) heads
  pub first : AllByRecursion (λ p. p.arrival ≤ w.start → before p w.packet ≡ false) heads

abbrev pub NeverIdle : Type 0
NeverIdle = (before : Job → Job → Bool) (t : ℕ) (heads : List Job) (w : Window) → Serving before → Differing heads → next before t heads ≡ Some w → Next before t heads w

-- that law leaves one window
abbrev pub NextOnce : Type 0
NextOnce = (before : Job → Job → Bool) (t : ℕ) (heads : List Job) (v w : Window) → Serving before → Differing heads → Next before t heads v → Next before t heads w → v ≡ w

-- some of these, in their order
pub data Part {X : Type 0} : List X → List X → Type 0 where
  none : Part [] []
  takes : (x : X) (xs ys : List X) → Part xs ys → Part (x ∷ xs) (x ∷ ys)
  skips : (x : X) (xs ys : List X) → Part xs ys → Part xs (x ∷ ys)

-- the windows of a search: disjoint, in time, each mandatory packet once and each queue in its order, some optional ones in their order
pub record Windows (c : Cycle) (ws : List Window) : Type 0 where
  pub apart : Apart 0 ws c.long
  pub on_time : AllByRecursion OnTime ws
  pub mandatory : (q : ℕ) → 0 < q → q ≤ 7 → packets (windows_of q ws) ≡ c.mandatory q
  pub optional : Part (packets (windows_of 0 ws)) c.optional
  pub short : length (drawn 0 ws c.long) ≤ most_entries

abbrev pub WindowsFit : Type 0
WindowsFit = (before : Job → Job → Bool) (c : Cycle) (ws : List Window) → Given c → planned_windows before c ≡ Ok ws → Windows c ws

-- the lengths added up
abbrev pub whole : List Entry → ℕ
whole [] = 0
whole (x ∷ xs) = x.interval + whole xs

-- an entry takes some time and opens at most one gate
abbrev pub Sound : Entry → Type 0
Sound x = (0 < x.interval) × ((q r : ℕ) → opens q x.gates ≡ true → opens r x.gates ≡ true → q ≡ r)

-- an entry that names a packet opens gate 0 alone, and the packet is one of these
abbrev pub NamesOneOf : List Job → Entry → Type 0
NamesOneOf ps x = Names x → (x.gates ≡ 1) × ((p : Job) × In p ps × (x.flow ≡ p.flow) × (x.number ≡ p.number))

-- no packet is named by two entries
abbrev pub NamedOnce : List Entry → Type 0
NamedOnce [] = Unit {0}
NamedOnce (x ∷ xs) = AllByRecursion (λ y. Names x → (x.flow ≡ y.flow) → (x.number ≡ y.number) → ⊥) xs × NamedOnce xs

-- the rules of a list
pub record Rules (long : ℕ) (optional : List Job) (list : List Entry) : Type 0 where
  pub some_entries : 0 < length list
  pub few_entries : length list ≤ most_entries
  pub sound : AllByRecursion Sound list
  pub names : AllByRecursion (NamesOneOf optional) list
  pub once : NamedOnce list
  pub fills : whole list ≡ long

abbrev pub RulesHold : Type 0
RulesHold = (before : Job → Job → Bool) (c : Cycle) (list : List Entry) → Given c → planned_list before c ≡ Ok list → Rules c.long c.optional list

-- e instants from s on meet no window
abbrev pub Clear : ℕ → ℕ → List Window → Type 0
Clear s e ws = AllByRecursion (λ w. (s + e ≤ w.start) ⊎ (end w ≤ s)) ws

-- x is the least start from s on at which e instants meet no window
pub record LeastStart (s e : ℕ) (ws : List Window) (x : ℕ) : Type 0 where
  pub from : s ≤ x
  pub clear : Clear x e ws
  pub least : (r : ℕ) → s ≤ r → Clear r e ws → x ≤ r

abbrev pub LeastRoom : Type 0
LeastRoom = (s e a b : ℕ) (ws : List Window) → Apart a ws b → LeastStart s e ws (room s e ws)

-- no window covers the instant u
abbrev pub Idle : ℕ → List Window → Type 0
Idle u ws = AllByRecursion (λ w. (u < w.start) ⊎ (end w ≤ u)) ws

-- w's packet is a candidate at u: it has arrived, and from u on no window of its queue begins before w
abbrev pub Candidate : List Window → ℕ → Window → Type 0
Candidate ws u w = (w.packet.arrival ≤ u) × AllByRecursion (λ x. (x.packet.queue ≡ w.packet.queue) → u ≤ x.start → w.start ≤ x.start) ws

-- the law of the walk: each mandatory packet has one window, in time, each queue in its order; the wire is never idle while a packet waits; a window goes to none but the first candidate
pub record WalkLaw (before : Job → Job → Bool) (c : Cycle) (ws : List Window) : Type 0 where
  pub apart : Apart 0 ws c.long
  pub on_time : AllByRecursion OnTime ws
  pub queues : AllByRecursion (λ w. (0 < w.packet.queue) × (w.packet.queue ≤ 7)) ws
  pub mandatory : (q : ℕ) → 0 < q → q ≤ 7 → packets (windows_of q ws) ≡ c.mandatory q
  pub never_idle : (u : ℕ) → Idle u ws → AllByRecursion (λ w. w.packet.arrival ≤ u → end w ≤ u) ws
  pub in_order : AllByRecursion (λ v. AllByRecursion (λ w. v.start < w.start → Candidate ws v.start w → before w.packet v.packet ≡ false) ws) ws

-- the windows of the mandatory packets
abbrev pub walk_windows : List Window → List Window
walk_windows ws = filter (λ w. not (w.packet.queue == 0)) ws

abbrev pub WalkLawful : Type 0
WalkLawful = (before : Job → Job → Bool) (c : Cycle) (ws : List Window) → Serving before → Given c → planned_windows before c ≡ Ok ws → WalkLaw before c (walk_windows ws)

-- the law leaves one list of windows
abbrev pub WalkOnce : Type 0
WalkOnce = (before : Job → Job → Bool) (c : Cycle) (ws vs : List Window) → Serving before → Given c → WalkLaw before c ws → WalkLaw before c vs → ws ≡ vs

-- the windows that stood when the packet behind xs was tried: those of the mandatory packets, and those of xs
abbrev pub stood : List Job → List Window → List Window
stood xs ws = filter (λ w. not (w.packet.queue == 0) || named_among xs w.packet) ws

-- the packet has this window if that was admissible, else none
abbrev pub Decided : ℕ → List Window → List Window → Window → Type 0
Decided long old ws w =
    ((admissible long w old ≡ true) × In w ws) ⊎ ((admissible long w old ≡ false) × (named_among (packets (windows_of 0 ws)) w.packet ≡ false))

-- the law of the trials: each optional packet has the least start that overlaps no window that stood, and is passed over only where that is not admissible
abbrev pub TrialLaw : Cycle → List Window → Type 0
TrialLaw c ws = (xs : List Job) (p : Job) (ys : List Job) → c.optional ≡ xs ++ (p ∷ ys) →
    (s : ℕ) → LeastStart (max p.arrival (admitted_end (stood xs ws))) p.wire (stood xs ws) s → Decided c.long (stood xs ws) ws (record { start = s; packet = p })

abbrev pub TrialsLawful : Type 0
TrialsLawful = (before : Job → Job → Bool) (c : Cycle) (ws : List Window) → Given c → planned_windows before c ≡ Ok ws → TrialLaw c ws

-- the whole law of a search's windows
pub record PlanLaw (before : Job → Job → Bool) (c : Cycle) (ws : List Window) : Type 0 where
  pub apart : Apart 0 ws c.long
  pub walked : WalkLaw before c (walk_windows ws)
  pub optional : Part (packets (windows_of 0 ws)) c.optional
  pub trials : TrialLaw c ws

abbrev pub PlanLawful : Type 0
PlanLawful = (before : Job → Job → Bool) (c : Cycle) (ws : List Window) → Serving before → Given c → planned_windows before c ≡ Ok ws → PlanLaw before c ws

-- the law leaves one list of windows, so one drawn list
abbrev pub PlanOnce : Type 0
PlanOnce = (before : Job → Job → Bool) (c : Cycle) (ws vs : List Window) → Serving before → Given c → PlanLaw before c ws → PlanLaw before c vs → ws ≡ vs

-- a search that finds a packet late is right: no windows obey the law of the walk
abbrev pub LateRightly : Type 0
LateRightly = (before : Job → Job → Bool) (c : Cycle) (p : Job) (ws : List Window) → Serving before → Given c → planned_windows before c ≡ Err (Late p.flow p.number) → WalkLaw before c ws → ⊥

-- a search that finds the list too long is right: so is the list of every windows that obey the law of the walk
abbrev pub TooLongRightly : Type 0
TooLongRightly = (before : Job → Job → Bool) (c : Cycle) (p : Job) (ws : List Window) → Serving before → Given c → planned_windows before c ≡ Err (TooLong p.flow p.number) → WalkLaw before c ws → most_entries < length (drawn 0 ws c.long)
