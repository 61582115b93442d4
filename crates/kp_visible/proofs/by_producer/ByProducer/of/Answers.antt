use Rattle.kp_visible.proofs.Keys.{keys_of_each, keys_of_list, permuted_from}
use Rattle.kp_visible.proofs.by_producer.ByProducer.of.Goals as goal

pub invariant_of-result : goal.invariant_of-result
invariant_of-result c =
    let permuted = permuted_from c.args.aborted.now c.in_ok-keys.keys.items c.sort_unstable.new.self.items c.in_ok-keys.ensures c.sort_unstable.ensures.permutation in
    record {
      rising = c.sort_unstable.ensures.sorted;
      of_list = keys_of_list c.args.aborted.now c.sort_unstable.new.self.items permuted;
      of_each = keys_of_each c.args.aborted.now c.sort_unstable.new.self.items permuted;
    }
