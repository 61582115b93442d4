-- The batches that a caller's bytes begin with, by a handle (own rule).
use Rattle.std.specs.Prelude.{◌≡◌, ℕ, true, List, unwrap_or, Option, Some, None, Result, Ok, Err}
use Rattle.kp_types.specs.Texts.{place_of, refusal_number}
use Rattle.kp_types.specs.declared.refusal.Refusal.{Refusal}
use Rattle.kp_types.specs.declared.refusal.Refusal.TheVariants.{Memory}
use Rattle.kp_batch.specs.Batch.{Written}
use Rattle.kp_log.specs.BatchesIn.{AreBatchesIn}
use Rattle.kp_handles.specs.Objects.{ObjectView, batches, is_open}
use Rattle.kp_handles.specs.declared.finding.FoundOut.{FoundOut}
use Rattle.kp_handles.specs.declared.misuse.Misuse.{Misuse}
use Rattle.kp_handles.specs.declared.misuse.Misuse.TheVariants.{InUse, NoRoom}

-- How many bytes the batches take, and the fault of what stands behind them, as the caller is told: by its number, with the place that
-- it names; 0 where nothing stands there.
abbrev pub found_out : ℕ → Option Refusal → FoundOut
found_out size None = record { size = size; place = 0; fault = 0 }
found_out size (Some refusal) = record { size = size; place = unwrap_or (place_of refusal) 0; fault = refusal_number refusal }

-- why it wasn't tried
abbrev pub BadFind : Option ObjectView → Misuse → Type 0
BadFind old InUse = is_open old ≡ true
BadFind old NoRoom = old ≡ None
BadFind old _ = ⊥

-- The batches that the bytes begin with, up to the first fault, stand in a handle that was closed, and the caller is told how far they
-- go; or memory was refused, or the call wasn't made, and the handle is as it was.
abbrev pub BatchesCalled : (max : ℕ) → List ℕ → (old new : Option ObjectView) → Result (Result FoundOut Refusal) Misuse → Type 0
BatchesCalled max bytes old new (Ok (Ok found)) =
    (ws : List Written) × (size : ℕ) × (fault : Option Refusal) × (old ≡ None) × (new ≡ Some (batches ws)) × AreBatchesIn max bytes ws size fault
    × (found ≡ found_out size fault)
BatchesCalled max bytes old new (Ok (Err refusal)) = (old ≡ None) × (new ≡ old) × (refusal ≡ Memory)
BatchesCalled max bytes old new (Err why) = (new ≡ old) × BadFind old why
