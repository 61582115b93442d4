-- What a leader knows of the others, and what a node's log has, by a handle (own rule).
use Rattle.std.specs.Prelude.{◌≡◌, ℕ, Bool, true, false, List, map, replicate, unwrap_or, is_some, Option, Some, None, Result, Ok, Err, IfOk}
use Rattle.std.specs.Global.{Vec}
use Rattle.kp_types.specs.Causes.{IsRefusedOnlyBy}
use Rattle.kp_types.specs.declared.refusal.Refusal.{Refusal}
use Rattle.kp_batch.specs.Batch.{Written}
use Rattle.kp_model.specs.Effect.{unless_leads}
use Rattle.kp_model.specs.Transactions.{Open}
use Rattle.kp_model.specs.World.{most_nodes}
use Rattle.kp_model.specs.declared.record.NodeSet.{NodeSet}
use Rattle.kp_replica.specs.Altering.{IsKnownBy}
use Rattle.kp_replica.specs.declared.altering.Known.{Known}
use Rattle.kp_node.specs.Describes.{TellsOpen, producer_told}
use Rattle.kp_node.specs.Seated.{SeatedNode}
use Rattle.kp_node.specs.Tells.{TellsLog}
use Rattle.kp_node.specs.declared.describing.ProducerInLog.{ProducerInLog}
use Rattle.kp_handles.specs.Called.{NodeGives}
use Rattle.kp_handles.specs.Objects.{ObjectView, batches, transactions}
use Rattle.kp_handles.specs.Outs.{leadership_out}
use Rattle.kp_handles.specs.declared.describing.KnownOut.{KnownOut}
use Rattle.kp_handles.specs.declared.describing.ProducerOut.{ProducerOut}
use Rattle.kp_handles.specs.declared.misuse.Misuse.{Misuse}

-- a leader told what it knows, and a node what its log has of a producer
abbrev pub Knows : (old new : SeatedNode) → Result Known Refusal → Type 0
Knows old new result =
    (new ≡ old) × IfOk result (IsKnownBy old.node) × IsRefusedOnlyBy (unless_leads old.node.state.mode (λ _. None)) result

abbrev pub TellsProducer : ℕ → (old new : SeatedNode) → Result (Option ProducerInLog) Refusal → Type 0
TellsProducer producer old new result = (new ≡ old) × (result ≡ Ok (producer_told producer old.node.state.log))

abbrev pub listed : {X : Type 0} → Result (Vec X) Refusal → Result (List X) Refusal
listed (Ok found) = Ok found.items
listed (Err refusal) = Err refusal

-- the transactions that are open in its log
pub record ListsOpen (old new : SeatedNode) (result : Result (List Open) Refusal) : Type 0 where
  pub same : new ≡ old
  pub told : (answer : Result (Vec Open) Refusal) × (result ≡ listed answer) × TellsOpen old.node.state answer

-- its batches
pub record ReadsLog (from most : ℕ) (old new : SeatedNode) (result : Result (List Written) Refusal) : Type 0 where
  pub same : new ≡ old
  pub told : (answer : Result (Vec Written) Refusal) × (result ≡ listed answer) × TellsLog from most old.node.state answer

-- they were put into a handle
abbrev pub OpenCalled : (old new out wrote : Option ObjectView) → Result (Result (Unit {0}) Refusal) Misuse → Type 0
OpenCalled old new out wrote done = NodeGives transactions ListsOpen old new out wrote done

abbrev pub LogCalled : (from most : ℕ) → (old new out wrote : Option ObjectView) → Result (Result (Unit {0}) Refusal) Misuse → Type 0
LogCalled from most old new out wrote done = NodeGives batches (ReadsLog from most) old new out wrote done

-- ---- as the caller is told

-- all bits are set where there is none, as in Kafka's -1
abbrev pub end_out : Option ℕ → ℕ
end_out end = unwrap_or end 18446744073709551615

abbrev pub proposed_out : Option NodeSet → List Bool
proposed_out (Some set) = set.members
proposed_out None = replicate most_nodes false

abbrev pub known_out : Known → KnownOut
known_out k =
    record {
      leadership = leadership_out k.record;
      reported = map end_out k.reported;
      pending = is_some k.pending;
      proposed = proposed_out k.pending;
    }

abbrev pub producer_out : Option ProducerInLog → ProducerOut
producer_out None = record { open_from = 0; last_sequence = 0; coordinator_epoch = 0; epoch = 0; found = false }
producer_out (Some p) =
    record {
      open_from = unwrap_or p.open_from 18446744073709551615;
      last_sequence = unwrap_or p.last_sequence 4294967295;
      coordinator_epoch = unwrap_or p.coordinator_epoch 4294967295;
      epoch = p.epoch;
      found = true;
    }
