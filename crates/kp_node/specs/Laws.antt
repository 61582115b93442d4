-- Laws of what a caller's pass has seen.
use Rattle.std.specs.Prelude.{Contains}
use Rattle.kp_model.specs.Beginning.{Begins}
use Rattle.kp_model.specs.Log.{Batch}
use Rattle.kp_board.specs.Views.{CallerView}

-- A batch in the list that a pass has seen stands in each list that goes on from it, so in each that the pass sees later: what is
-- acknowledged stays (Kafka replication design).
abbrev pub SeenBatchesStay : Type 0
SeenBatchesStay = (c d : CallerView) (b : Batch) → Begins c.seen d.seen → Contains c.seen b → Contains d.seen b
