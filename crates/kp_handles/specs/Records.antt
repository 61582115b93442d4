-- The records of batches that a handle holds, each by its place (own rule).
use Rattle.std.specs.Prelude.{◌≡◌, ℕ, ◌+◌, nat_lt, min, if◌then◌else◌, List, [], ◌∷◌, length, slice_get, unwrap_or, Option, Some}
use Rattle.std.specs.List.{flat_map}
use Rattle.std.specs.Option.{option_and_then, option_map, option_map_or}
use Rattle.kp_record.specs.Record.{Header, Record}
use Rattle.kp_batch.specs.Batch.{Written, count_of}
use Rattle.kp_batch.specs.Producer.{producer_epoch_of, producer_of}
use Rattle.kp_batch.specs.RecordPlaces.{behind, records_from}
use Rattle.kp_batch.specs.declared.record_place.RecordPlace.{RecordPlace}
use Rattle.kp_model.specs.Log.{logged}
use Rattle.kp_model.specs.Transactions.{Aborted}
use Rattle.kp_visible.specs.Client.{is_clear}
use Rattle.kp_handles.specs.Holding.{BadPart, HasPart, Writes, batches_in, is_null}
use Rattle.kp_handles.specs.Objects.{ObjectView, fetched}
use Rattle.kp_handles.specs.declared.misuse.Misuse.{Misuse}
use Rattle.kp_handles.specs.declared.records.PartOut.{PartOut}
use Rattle.kp_handles.specs.declared.records.RecordAt.{RecordAt}
use Rattle.kp_handles.specs.declared.records.RecordOut.{RecordOut}

-- ---- a record

-- its place in its batch
abbrev pub place_of : RecordAt → RecordPlace
place_of at = record { number = at.number; byte = at.byte }

-- the place's batch, and its records from the place on, where it holds batches
abbrev pub batch_at : RecordAt → ObjectView → Option Written
batch_at at o = option_and_then (λ ws. slice_get ws at.batch) (batches_in o)

abbrev pub records_at : RecordAt → ObjectView → Option (List Record)
records_at at o = option_map (λ ws. option_map_or (λ w. records_from (place_of at) w.body) (slice_get ws at.batch) []) (batches_in o)

-- the aborted transactions that go with the batches
abbrev pub named_in : ObjectView → List Aborted
named_in (fetched f) = f.aborted
named_in _ = []

-- where the next one stands: in a batch of so many records, or at the beginning of the one behind it
abbrev pub moved : (batch : ℕ) → RecordPlace → (count : ℕ) → RecordAt
moved batch next count =
    if nat_lt next.number count then record { batch = batch; number = next.number; byte = next.byte }
    else record { batch = batch + 1; number = 0; byte = 0 }

-- where the next one stands, in this batch or behind it
abbrev pub next_record : RecordAt → Written → Record → RecordAt
next_record at w r = moved at.batch (behind w.body.base_time (place_of at) r) (count_of w.body)

-- what it hasn't got has all bits set, as Kafka's -1; a log's batches end below 2 ^ 62
abbrev pub record_out : List Aborted → RecordAt → Written → Record → (next : RecordAt) → RecordOut
record_out aborted at w r next =
    record {
      next = next;
      offset = min (w.base + at.number) 18446744073709551615;
      timestamp = r.time;
      producer_id = unwrap_or (producer_of w.body.content) 18446744073709551615;
      producer_epoch = unwrap_or (producer_epoch_of w.body.content) 65535;
      shown = is_clear aborted (logged w);
    }

-- The record stands at the place, and behind it those that stand from the place behind it on.
abbrev pub HasRecordAt : Option ObjectView → RecordAt → RecordOut → Type 0
HasRecordAt object at found =
    (o : ObjectView) × (w : Written) × (r : Record) × (object ≡ Some o) × (batch_at at o ≡ Some w)
    × (records_from (place_of at) w.body ≡ r ∷ records_from (behind w.body.base_time (place_of at) r) w.body)
    × (found ≡ record_out (named_in o) at w r (next_record at w r))

-- why none was found
abbrev pub NoRecordAt : RecordAt → Option ObjectView → Misuse → Type 0
NoRecordAt at object why = BadPart (records_at at) (λ r. 0) 0 0 object why

-- ---- a record's parts

-- of each header its key, and its value
abbrev pub parts_in_headers : List Header → List (Option (List ℕ))
parts_in_headers headers = flat_map (λ h. Some h.key ∷ h.value ∷ []) headers

-- its key, its value, and then those of its headers
abbrev pub parts_of : Record → List (Option (List ℕ))
parts_of r = r.key ∷ r.value ∷ parts_in_headers r.headers

abbrev pub parts_of_first : List Record → List (Option (List ℕ))
parts_of_first [] = []
parts_of_first (r ∷ rs) = parts_of r

-- those of the record at the place, where it holds batches
abbrev pub parts_at : RecordAt → ObjectView → Option (List (Option (List ℕ)))
parts_at at o = option_map parts_of_first (records_at at o)

abbrev pub part_bytes : Option (List ℕ) → List ℕ
part_bytes part = unwrap_or part []

abbrev pub part_size : Option (List ℕ) → ℕ
part_size part = length (part_bytes part)

abbrev pub part_out : Option (List ℕ) → PartOut
part_out part = record { size = part_size part; null = is_null part }

abbrev pub HasPartAt : Option ObjectView → RecordAt → (part : ℕ) → PartOut → Type 0
HasPartAt object at part found = HasPart (parts_at at) part object (λ p. found ≡ part_out p)

abbrev pub WritesPartAt : Option ObjectView → RecordAt → (part : ℕ) → (old new : List ℕ) → Type 0
WritesPartAt object at part old new = HasPart (parts_at at) part object (λ p. Writes (part_bytes p) old new)

-- why it wasn't found, or not copied to so many places
abbrev pub NoPartAt : RecordAt → (part : ℕ) → Option ObjectView → Misuse → Type 0
NoPartAt at part object why = BadPart (parts_at at) (λ p. 0) part 0 object why

abbrev pub BadPartAt : RecordAt → (part places : ℕ) → Option ObjectView → Misuse → Type 0
BadPartAt at part places object why = BadPart (parts_at at) part_size part places object why
