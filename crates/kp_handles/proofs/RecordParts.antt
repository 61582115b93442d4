-- The record at a place, and its parts.
use Rattle.std.proofs.Common.{◌≡◌, List, ◌∷◌, refl}
use Rattle.std.specs.Prelude.{Some, slice_get}
use Rattle.kp_record.specs.Record.{Record}
use Rattle.kp_batch.specs.Batch.{Written}
use Rattle.kp_batch.specs.RecordPlaces.{records_from}
use Rattle.kp_handles.specs.Holding.{batches_in}
use Rattle.kp_handles.specs.Objects.{ObjectView}
use Rattle.kp_handles.specs.Records.{batch_at, parts_at, parts_of, place_of}
use Rattle.kp_handles.specs.declared.records.RecordAt.{RecordAt}

module _ (at : RecordAt) (o : ObjectView) (ws : List Written) (e : batches_in o ≡ Some ws) (w : Written) (f : slice_get ws at.batch ≡ Some w) where
  pub batch_is : batch_at at o ≡ Some w
  batch_is = rw (e, f) refl

  pub parts_are : (r : Record) (rs : List Record) → records_from (place_of at) w.body ≡ r ∷ rs → parts_at at o ≡ Some (parts_of r)
  parts_are r rs is = rw (e, f, is) refl
