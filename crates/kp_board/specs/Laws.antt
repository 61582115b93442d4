-- Laws of what the callers of one board are shown.
use Rattle.std.specs.Prelude.{◌≡◌, ℕ}
use mathlib.Core.Option.{some}
use lib.ListN.{get_elem?}
use Rattle.atomic_table.specs.Table.{State}
use Rattle.kp_model.specs.Beginning.{Agree}
use Rattle.kp_model.specs.Left.{Opening}
use Rattle.kp_board.specs.Views.{CallerView, View, of_caller}
use Rattle.kp_board.specs.Rule.{Ruled}

-- Of the committed lists that any two callers of one board have seen, whoever they are, one begins the other: at whatever moment,
-- also where they never met (Kafka replication design).
abbrev pub CallersAgree : Type 0
CallersAgree =
    (o : Opening) (s : State ℕ View) → Ruled o s → (one other : ℕ) (c d : CallerView)
    → get_elem? s.views one ≡ some (of_caller c) → get_elem? s.views other ≡ some (of_caller d) → Agree c.seen d.seen
