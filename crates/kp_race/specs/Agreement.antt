-- What a race compares: the batches that each node holds as committed (Kafka replication design: of what is committed there is one list).
use Rattle.std.specs.Prelude.{◌≡◌, ℕ, ◌<◌, List, [], ◌++◌, length, map, Option, Some, None, Contains}
use Rattle.kp_crc.specs.Crc.{crc}
use Rattle.kp_batch.specs.Batch.{covered}
use Rattle.kp_model.specs.Beginning.{Agree}
use Rattle.kp_model.specs.Log.{Batch}
use Rattle.kp_log.specs.Logged.{reaching}
use Rattle.kp_race.specs.declared.agreement.Committed.{Committed}

-- a batch by its place and by the checksum of its bytes
abbrev pub committed_as : Batch → Committed
committed_as b = record { base = b.base; epoch = b.epoch; crc = crc (covered b.body) }

-- of any two of these lists one begins the other
abbrev pub AllAgree : {A : Type 0} → List (List A) → Type 0
AllAgree lists = (xs ys : List _) → Contains lists xs → Contains lists ys → Agree xs ys

-- Some of what a node holds was read, from an offset on, and put behind what had been read before. Where there was any, the next
-- offset to read from is told.
abbrev pub ReadsOn : (holds : List Batch) (from : ℕ) (old new : List Committed) → Option ℕ → Type 0
ReadsOn holds from old new None = (reaching from holds ≡ []) × (new ≡ old)
ReadsOn holds from old new (Some next) =
    (piece : List Batch) × (0 < length piece) × (piece ++ reaching next holds ≡ reaching from holds) × (new ≡ old ++ map committed_as piece)
