-- The search: a walk over the mandatory packets, then a trial of each optional one. Assumes nothing.
use Rattle.std.specs.Prelude.{ℕ, zero, suc, ◌+◌, min, max, Bool, cond, ◌&&◌, leb, List, [], ◌∷◌, ◌++◌, length, take, drop, Some, None, Ok, Err, filter, Option, Result, ◌==◌, nat_le, nat_lt}
use Rattle.traffic.specs.declared.packet.Job.{Job}
use Rattle.gates.specs.declared.entry.Entry.{Entry}
use Rattle.table.specs.Order.{placed}
use Rattle.search.specs.declared.window.Window.{Window}
use Rattle.search.specs.declared.fault.SearchFault.{SearchFault}
use Rattle.search.specs.declared.fault.SearchFault.TheVariants.{Late, TooLong}
use Rattle.search.specs.Windows.{end, starts_before}
use Rattle.search.specs.Drawn.{drawn}

-- the packets of one cycle: its length, the mandatory packets of each queue and the optional ones, each list in queue order
pub record Cycle : Type 0 where
  pub long : ℕ
  pub mandatory : ℕ → List Job
  pub optional : List Job

abbrev pub most_entries : ℕ
most_entries = 1024

-- the first unplaced packets of the queues 1 to n
abbrev pub firsts : (ℕ → List Job) → ℕ → List Job
firsts left zero = []
firsts left (suc q) = take 1 (left (suc q)) ++ firsts left q

-- those that have arrived by t
abbrev pub arrived : ℕ → List Job → List Job
arrived t ps = filter (λ p. leb p.arrival t) ps

-- the least arrival of p and these
abbrev pub least_arrival : Job → List Job → ℕ
least_arrival p [] = p.arrival
least_arrival p (x ∷ xs) = min p.arrival (least_arrival x xs)

-- p, or the other one if that is before it in serving order
abbrev pub sooner : (Job → Job → Bool) → Job → Option Job → Job
sooner before p None = p
sooner before p (Some x) = cond (before x p) x p

-- the one that is first in serving order
abbrev pub first_of : (Job → Job → Bool) → List Job → Option Job
first_of before [] = None
first_of before (p ∷ ps) = Some (sooner before p (first_of before ps))

-- a window from t on for a packet, if there is one
abbrev pub window_at : ℕ → Option Job → Option Window
window_at t None = None
window_at t (Some p) = Some (record { start = t; packet = p })

-- the walk's next window: at t, or where none has arrived by t at the least arrival, for that candidate which is first in serving order
abbrev pub next : (Job → Job → Bool) → ℕ → List Job → Option Window
next before t [] = None
next before t (x ∷ xs) =
    let u : ℕ = max t (least_arrival x xs) in
    window_at u (first_of before (arrived u (x ∷ xs)))

-- the queues without the first packet of queue q
abbrev pub without : ℕ → (ℕ → List Job) → ℕ → List Job
without q left r = cond (r == q) (drop 1 (left r)) (left r)

-- the windows with one more, unless that is late or makes the list too long
abbrev pub placed_next : ℕ → List Window → Window → Result (List Window) SearchFault
placed_next long ws w =
    cond (nat_lt w.packet.deadline (end w)) (Err (Late w.packet.flow w.packet.number))
    (cond (nat_lt most_entries (length (drawn 0 (ws ++ (w ∷ [])) long))) (Err (TooLong w.packet.flow w.packet.number))
    (Ok (ws ++ (w ∷ []))))

-- a refusal stays, and with a result one goes on
abbrev pub and_then : {X Y : Type 0} → Result X SearchFault → (X → Result Y SearchFault) → Result Y SearchFault
and_then (Ok x) f = f x
and_then (Err e) f = Err e

-- with a next window one goes on, and without one the windows stand
abbrev pub turn : Option Window → List Window → (Window → Result (List Window) SearchFault) → Result (List Window) SearchFault
turn None ws go = Ok ws
turn (Some w) ws go = go w

-- the walk from t on, with n packets left and the windows so far
abbrev pub walked : (Job → Job → Bool) → ℕ → (n t : ℕ) → (ℕ → List Job) → List Window → Result (List Window) SearchFault
walked before long zero t left ws = Ok ws
walked before long (suc n) t left ws =
    turn (next before t (firsts left 7)) ws (λ w. and_then (placed_next long ws w) (walked before long n (end w) (without w.packet.queue left)))

-- how many are left in the queues 1 to n
abbrev pub count : (ℕ → List Job) → ℕ → ℕ
count left zero = 0
count left (suc q) = length (left (suc q)) + count left q

-- the walk over all that is left, from t on
abbrev pub walked_over : (Job → Job → Bool) → (long t : ℕ) → (ℕ → List Job) → List Window → Result (List Window) SearchFault
walked_over before long t left ws = walked before long (count left 7) t left ws

-- the least start from s on at which e instants overlap no window (the windows one after the other)
abbrev pub room : ℕ → ℕ → List Window → ℕ
room s e [] = s
room s e (w ∷ ws) = cond (nat_le (s + e) w.start) s (room (max s (end w)) e ws)

-- the end of the last admitted window, which is the last one of queue 0; 0 where there is none
abbrev pub admitted_end : List Window → ℕ
admitted_end [] = 0
admitted_end (w ∷ ws) = cond (w.packet.queue == 0) (max (end w) (admitted_end ws)) (admitted_end ws)

-- the trial window of an optional packet
abbrev pub trial : Job → List Window → Window
trial p ws = record { start = room (max p.arrival (admitted_end ws)) p.wire ws; packet = p }

-- a window among the others, by its start
abbrev pub inserted : Window → List Window → List Window
inserted w ws = placed starts_before w ws

-- a window is admitted if it ends by its packet's deadline and the list stays within its limit
abbrev pub admissible : ℕ → Window → List Window → Bool
admissible long w ws = nat_le (end w) w.packet.deadline && nat_le (length (drawn 0 (inserted w ws) long)) most_entries

-- the windows after one optional packet has been tried
abbrev pub tried : ℕ → Job → List Window → List Window
tried long p ws = cond (admissible long (trial p ws) ws) (inserted (trial p ws) ws) ws

-- the windows after the optional packets have been tried in their order
abbrev pub admitted : ℕ → List Job → List Window → List Window
admitted long [] ws = ws
admitted long (p ∷ ps) ws = admitted long ps (tried long p ws)

-- the windows of a search
abbrev pub planned_windows : (Job → Job → Bool) → Cycle → Result (List Window) SearchFault
planned_windows before c = and_then (walked_over before c.long 0 c.mandatory []) (λ ws. Ok (admitted c.long c.optional ws))

-- the list that a search draws
abbrev pub planned_list : (Job → Job → Bool) → Cycle → Result (List Entry) SearchFault
planned_list before c = and_then (planned_windows before c) (λ ws. Ok (drawn 0 ws c.long))
