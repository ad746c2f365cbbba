-- The mandatory packets that are still to come. Assumes nothing.
use Rattle.std.specs.Prelude.{◌≡◌, ℕ, zero, suc, ◌<◌, ◌≤◌, Bool, cond, List, [], length, slice_index_or}
use Rattle.std.specs.List.{slice_get, filter_map}
use Rattle.traffic.specs.declared.packet.Job.{Job}
use Rattle.traffic.specs.Packets.{Traffic}
use Rattle.coming.specs.Packets.{packets_before}

-- the first packet of each of these queues that has one
abbrev pub heads : List (List Job) → List Job
heads qs = filter_map (λ q. slice_get q 0) qs

-- the best so far if that is before the other one in serving order, else the other one
abbrev pub served_first : (Job → Job → Bool) → Job → Job → Job
served_first before best p = cond (before best p) best p

-- what is left in queue q, of the queues from 1 on
abbrev pub left_in : List (List Job) → ℕ → List Job
left_in qs zero = []
left_in qs (suc q) = slice_index_or qs q []

-- these are all packets of the cycle in the queues 1 to 7
pub record AllLeft (s : Traffic) (long : ℕ) (qs : List (List Job)) : Type 0 where
  pub seven : length qs ≡ 7
  pub all : (q : ℕ) → 0 < q → q ≤ 7 → left_in qs q ≡ packets_before s q long
