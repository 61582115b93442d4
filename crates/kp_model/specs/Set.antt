-- The controller's record, as the code keeps it and as the definitions see it.
use Rattle.std.specs.Prelude.{ℕ, Bool, List, map}
use Rattle.std.specs.List.{filter, enumerate_from}
use Rattle.std.specs.Option.{option_map}
use Rattle.kp_model.specs.World.{Leader as ModelLeader, LeaderAndIsr as ModelRecord}
use Rattle.kp_model.specs.declared.record.NodeSet.{NodeSet}
use Rattle.kp_model.specs.declared.record.Leader.{Leader}
use Rattle.kp_model.specs.declared.record.LeaderAndIsr.{LeaderAndIsr}

-- the numbers whose place in the list is set, counted from the first number on
abbrev pub numbers_of : ℕ → List Bool → List ℕ
numbers_of first places = map (λ p. p.0) (filter (λ p. p.1) (enumerate_from first places))

-- the nodes of a set, in rising order
abbrev pub members_of : NodeSet → List ℕ
members_of set = numbers_of 0 set.members

abbrev pub leader_of : Leader → ModelLeader
leader_of l = record { node = l.node; epoch = l.epoch }

abbrev pub record_of : LeaderAndIsr → ModelRecord
record_of r = record { leader = option_map leader_of r.leader; isr = members_of r.isr; version = r.version }
