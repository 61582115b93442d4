-- What a node's log has of a producer, and which transactions are open in it (Kafka protocol guide, DescribeProducers and ListTransactions;
-- KIP-98, KIP-664).
use Rattle.std.specs.Prelude.{◌≡◌, ℕ, List, Option, None, Result, IfOk}
use Rattle.std.specs.List.{last_or}
use Rattle.std.specs.Option.{option_map}
use Rattle.std.specs.Global.{Vec}
use Rattle.kp_types.specs.Causes.{IsRefusedBy}
use Rattle.kp_types.specs.declared.refusal.Refusal.{Refusal}
use Rattle.kp_model.specs.Log.{Batch}
use Rattle.kp_model.specs.Producers.{Producer, producer_in}
use Rattle.kp_model.specs.Transactions.{Open, open_in, open_of}
use Rattle.kp_model.specs.World.{Node}
use Rattle.kp_node.specs.declared.describing.ProducerInLog.{ProducerInLog}

-- what the log has of it, and where its open transaction begins
abbrev pub told_producer : (open_from : Option ℕ) → Producer → ProducerInLog
told_producer open_from p =
    record {
      epoch = p.epoch;
      last_sequence = option_map (λ k. k.last) (last_or None p.recent);
      coordinator_epoch = p.coordinator;
      open_from = open_from;
    }

abbrev pub producer_told : ℕ → List Batch → Option ProducerInLog
producer_told producer log = option_map (told_producer (open_of log producer)) (producer_in log producer)

-- It told the open transactions by rising first offset; where it refused, for want of memory.
pub record TellsOpen (x : Node) (result : Result (Vec Open) Refusal) : Type 0 where
  pub listed : IfOk result (λ listed. listed.items ≡ open_in x.log)
  pub refused : IsRefusedBy None result
