use Rattle.std.proofs.Common.{rules}
use Rattle.kp_race.proofs.over_channels.race_over_channels.Goals as goal

pub new-requires : goal.new-requires
new-requires c = search rules

pub race_named-requires-clause-nodes : goal.race_named-requires-clause-nodes
race_named-requires-clause-nodes c = search rules
