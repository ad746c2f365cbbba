-- What is left of the packets of a cycle. Assumes nothing.
use Rattle.std.specs.Prelude.{ℕ, Bool, false, ◌&&◌, ◌||◌, List, [], ◌∷◌, filter, ◌==◌, nat_le}
use Rattle.traffic.specs.declared.packet.Job.{Job}
use Rattle.traffic.specs.Packets.{Traffic}
use Rattle.coming.specs.Packets.{packets_before}

-- x is this next packet or a later one of its flow
abbrev pub at_or_after : Job → Job → Bool
at_or_after x n = n.flow == x.flow && nat_le n.number x.number

-- x is one of these next packets, or a later one of its flow
abbrev pub to_come : List Job → Job → Bool
to_come [] x = false
to_come (n ∷ ns) x = at_or_after x n || to_come ns x

-- what is left of a queue's packets from these next packets on
abbrev pub left : Traffic → (long q : ℕ) → List Job → List Job
left s long q ns = filter (to_come ns) (packets_before s q long)
