-- The part that a node plays, as the code keeps it and as the definitions see it.
use Rattle.std.specs.Option.{option_map}
use Rattle.kp_model.specs.World.{Mode as ModelMode, Idle as ModelIdle, Leads as ModelLeads, Follows as ModelFollows, Leading as ModelLeading}
use Rattle.kp_replica.specs.declared.replica.Leading.{Leading}
use Rattle.kp_replica.specs.declared.replica.Mode.{Mode}
use Rattle.kp_replica.specs.declared.replica.Mode.TheVariants.{Idle, Leads, Follows}
use Rattle.kp_model.specs.Set.{members_of}

abbrev pub leading_of : Leading → ModelLeading
leading_of l =
    record {
      epoch = l.epoch;
      isr = members_of l.isr;
      version = l.version;
      pending = option_map members_of l.pending;
      start = l.start;
      reported = l.positions;
    }

abbrev pub mode_of : Mode → ModelMode
mode_of Idle = ModelIdle
mode_of (Leads l) = ModelLeads (leading_of l)
mode_of (Follows f) = ModelFollows (record { leader = f.leader; epoch = f.epoch })
