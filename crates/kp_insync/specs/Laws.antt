-- Reports and ends are those of the definitions.
use Rattle.std.specs.Prelude.{◌≡◌, ℕ, List}
use Rattle.kp_model.specs.Log.{Batch, end_of}
use Rattle.kp_model.specs.World.{Leading}
use Rattle.kp_model.specs.Fetching.{reporting}
use Rattle.kp_model.specs.Raising.{counted, known_ends}
use Rattle.kp_model.specs.InSync.{is_caught_up}
use Rattle.kp_insync.specs.Reports.{with_report, ends_over}
use Rattle.kp_insync.specs.Joining.{has_caught_up}

-- A leader keeps the offset of a request as its sender's report.
abbrev pub ReportsAreKept : Type 0
ReportsAreKept =
    (l : Leading) (from offset : ℕ) → (reporting l from offset).reported ≡ with_report l.reported from offset

-- A leader knows the ends over its in-sync set and the pending one together, its own log's among them.
abbrev pub EndsAreKnown : Type 0
EndsAreKnown =
    (n : ℕ) (log : List Batch) (l : Leading) → known_ends n log l ≡ ends_over (counted l) n (end_of log) l.reported

-- Whom a leader may take into its in-sync set is whom the definitions say.
abbrev pub JoinersHaveCaughtUp : Type 0
JoinersHaveCaughtUp =
    (watermark : ℕ) (l : Leading) (m : ℕ) → is_caught_up watermark l m ≡ has_caught_up l.reported m watermark l.start
