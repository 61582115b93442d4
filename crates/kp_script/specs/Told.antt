-- The events that a script tells.
use Rattle.std.specs.Prelude.{◌≡◌, ℕ, ◌+◌, Bool, false, nat_lt, List, [], ◌∷◌, length, map, Option, Some, None, Result, Err, if◌then◌else◌}
use Rattle.std.specs.Option.{ok_or, option_map}
use Rattle.kp_types.specs.declared.refusal.Refusal.{Refusal}
use Rattle.kp_types.specs.declared.refusal.Refusal.TheVariants.{TooLarge, BadProducerFields}
use Rattle.kp_record.specs.Record.{Record, records_spelling}
use Rattle.kp_record.specs.Made.{plain_record}
use Rattle.kp_batch.specs.Batch.{Content, Plain, Produced, Body}
use Rattle.kp_model.specs.Event as model
use Rattle.kp_model.specs.Event.{Event, Produce}
use Rattle.kp_replica.specs.Acts.{plain_act}
use Rattle.kp_replica.specs.Replies.{IsOffer}
use Rattle.kp_script.specs.Call.{Call, Sender, Elect, Append, Raw, Acts, Deliver, node_of}

-- The content that a producer's fields and the kind of a batch say, where they agree: a transaction's batch has a
-- producer (KIP-98).
abbrev pub said_of : (producer epoch sequence : Option ℕ) → (transactional : Bool) → List Record → Option Content
said_of None None None false records = Some (Plain records)
said_of (Some producer) (Some epoch) (Some sequence) transactional records =
    Some (Produced producer epoch sequence transactional records)
said_of _ _ _ _ records = None

abbrev pub said : Sender → (transactional : Bool) → List Record → Option Content
said sender transactional records = said_of sender.producer sender.epoch sender.sequence transactional records

abbrev pub body_at : (time : ℕ) → Content → Body
body_at time content = record { base_time = time; content = content }

-- What a client hands in, each record at this time: the batch that the fields say, or its fault where they don't agree,
-- or where it has more than so many bytes.
abbrev pub offer_of : (max time : ℕ) → Sender → (transactional : Bool) → List (List ℕ) → Result Body Refusal
offer_of max time sender transactional values =
    let records : List Record = map (plain_record time) values in
    if nat_lt max (61 + length (records_spelling time 0 records)) then Err TooLarge else
    ok_or (option_map (body_at time) (said sender transactional records)) BadProducerFields

-- The call tells this event, where batches have at most so many bytes. Raw bytes hand in the batch that they
-- spell, or the first fault of them.
abbrev pub IsTold : (max : ℕ) → Call → Event → Type 0
IsTold max (Elect node) e = e ≡ model.Elect node
IsTold max (Append node time sender transactional values) e =
    e ≡ model.Acts node (Produce (offer_of max time sender transactional values))
IsTold max (Raw node bytes) e =
    (offer : Result Body Refusal) × IsOffer max bytes offer × (e ≡ model.Acts node (Produce offer))
IsTold max (Acts node act) e = e ≡ model.Acts node (plain_act act)
IsTold max (Deliver number) e = e ≡ model.Deliver number

-- The calls tell these events, each call one of them, in their order.
abbrev pub AreTold : (max : ℕ) → List Call → List Event → Type 0
AreTold max [] [] = Unit {0}
AreTold max [] (e ∷ es) = ⊥
AreTold max (call ∷ calls) [] = ⊥
AreTold max (call ∷ calls) (e ∷ es) = IsTold max call e × AreTold max calls es

-- The call tells that these bytes are handed to the node that it names.
pub record HandsIn (max : ℕ) (call : Call) (bytes : List ℕ) : Type 0 where
  pub offer : Result Body Refusal
  pub told : IsTold max call (model.Acts (node_of call) (Produce offer))
  pub is : IsOffer max bytes offer
