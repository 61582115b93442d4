use Rattle.kp_replica.proofs.Told.{act_asked, act_told, act_told_once}
use Rattle.kp_replica.proofs.acts_are_told.Goals as goal

pub returns : goal.returns
returns c = record {
  some = act_told c.bytes_are_an_offer.ensures.some;
  one = act_told_once c.bytes_are_an_offer.ensures.one;
  asked = act_asked;
}
