-- Words for windows and the packets that a list names. Assumes nothing.
use Rattle.std.specs.Prelude.{ℕ, ◌≤◌, Bool, false, ◌&&◌, ◌||◌, ◌⊎◌, List, [], ◌∷◌, filter, ◌==◌, ◌≢◌, nat_eq}
use Rattle.traffic.specs.declared.packet.Job.{Job}
use Rattle.traffic.specs.Orders.{StrictOrder, JobsDiffer}
use Rattle.gates.specs.declared.entry.Entry.{Entry}
use Rattle.search.specs.declared.window.Window.{Window}
use Rattle.search.specs.Windows.{end}

-- a serving order: of two packets that differ in flow or arrival exactly one is before the other
abbrev pub Serving : (Job → Job → Bool) → Type 0
Serving before = StrictOrder before JobsDiffer

-- the packets of these windows
abbrev pub packets : List Window → List Job
packets [] = []
packets (w ∷ ws) = w.packet ∷ packets ws

-- the windows of one queue
abbrev pub windows_of : ℕ → List Window → List Window
windows_of q ws = filter (λ w. nat_eq w.packet.queue q) ws

-- the window begins when its packet has arrived or later, and ends by its packet's deadline
abbrev pub OnTime : Window → Type 0
OnTime w = (w.packet.arrival ≤ w.start) × (end w ≤ w.packet.deadline)

-- two packets of one name
abbrev pub same_name : Job → Job → Bool
same_name x p = x.flow == p.flow && x.number == p.number

-- one of these bears the packet's name
abbrev pub named_among : List Job → Job → Bool
named_among [] p = false
named_among (x ∷ xs) p = same_name x p || named_among xs p

-- the entry names a packet
abbrev pub Names : Entry → Type 0
Names x = (x.flow ≢ 0) ⊎ (x.number ≢ 0)

-- the list names this packet
abbrev pub named_in : List Entry → Job → Bool
named_in [] p = false
named_in (x ∷ xs) p = (x.flow == p.flow && x.number == p.number) || named_in xs p
