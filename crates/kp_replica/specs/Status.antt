-- What a node is, as it knows itself.
use Rattle.kp_model.specs.World.{Mode, Down, Idle, Leads, Follows}
use Rattle.kp_replica.specs.declared.adopting.Role.TheVariants as roles
use Rattle.kp_replica.specs.declared.reading.Status.{Status}
use Rattle.kp_replica.specs.declared.reading.Status.TheVariants as statuses

abbrev pub status_of : Mode → Status
status_of Down = statuses.Down
status_of Idle = statuses.Idle
status_of (Leads l) = statuses.Plays (roles.Leads l.epoch l.start)
status_of (Follows f) = statuses.Plays (roles.Follows f.leader f.epoch)
