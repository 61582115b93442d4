use Rattle.kp_replica.proofs.Offered.{some_offer, one_offer}
use Rattle.kp_replica.proofs.bytes_are_an_offer.Goals as goal

pub returns : goal.returns
returns c = record {
  some = some_offer c.bytes_are_judged_once.ensures.judged;
  one = one_offer c.batches_stand_apart.ensures c.bytes_are_judged_once.ensures.once;
}
