-- The controller's record as one word of 64 bits (own rule): bits 63 to 60 have the leader, 15 for none; bits 59 to 52
-- the in-sync replicas, bit 52 + n for node n; bits 51 to 28 the leader epoch and 1, 0 for none; bits 27 to 0 the version.
use Rattle.std.specs.Prelude.{◌≡◌, ℕ, ◌+◌, ◌*◌, ◌^◌, List, Option, Some, None}
use Rattle.std.specs.List.{sum_by}
use Rattle.kp_model.specs.World.{Leader, LeaderAndIsr, most_nodes}
use Rattle.kp_model.specs.Step.{IsInRange}

abbrev pub leader_field : Option Leader → ℕ
leader_field None = 15
leader_field (Some l) = l.node

abbrev pub epoch_field : Option Leader → ℕ
epoch_field None = 0
epoch_field (Some l) = l.epoch + 1

-- a bit for each node
abbrev pub set_field : List ℕ → ℕ
set_field nodes = sum_by (λ n. 2 ^ n) nodes

abbrev pub packed : LeaderAndIsr → ℕ
packed r =
    r.version + 2 ^ 28 * epoch_field r.leader + 2 ^ 52 * set_field r.isr + 2 ^ 60 * leader_field r.leader

-- a record in range is told by its word
abbrev pub WordsAreOne : Type 0
WordsAreOne = (r s : LeaderAndIsr) → IsInRange most_nodes r → IsInRange most_nodes s → packed r ≡ packed s → r ≡ s
