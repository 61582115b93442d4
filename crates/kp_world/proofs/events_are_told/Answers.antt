use Rattle.kp_world.proofs.Told.{events_told, events_told_once}
use Rattle.kp_world.proofs.events_are_told.Goals as goal

pub returns : goal.returns
returns c = record {
  some = events_told c.acts_are_told.ensures.some;
  one = events_told_once c.acts_are_told.ensures.one;
}
