-- Raise: a leader lifts its watermark to what all in-sync nodes have, and those that it has proposed (Kafka replication design).
use Rattle.std.specs.Prelude.{◌≡◌, ℕ, min, max, if◌then◌else◌, List, [], ◌∷◌, ◌++◌, map, Option, Some, None, is_some, unwrap_or}
use Rattle.std.specs.List.{filter_map, list_all, reduce}
use Rattle.kp_model.specs.Log.{Batch, end_of}
use Rattle.kp_model.specs.World.{Leading, Node, report_of}
use Rattle.kp_model.specs.Event.{MarkAt}
use Rattle.kp_model.specs.Controller.{without_member}
use Rattle.kp_model.specs.Effect.{Effect, becomes}

-- the set that a leader's raise counts: the in-sync set that it knows, and the pending one
abbrev pub counted : Leading → List ℕ
counted l = l.isr ++ unwrap_or l.pending []

-- the leader's own end, and what the other ones of these reported
abbrev pub known_ends : ℕ → List Batch → Leading → List (Option ℕ)
known_ends n log l = Some (end_of log) ∷ map (report_of l) (without_member n (counted l))

-- the least of them, where each is known
abbrev pub least_end : List (Option ℕ) → Option ℕ
least_end ends = if list_all is_some ends then reduce min (filter_map (λ e. e) ends) else None

abbrev pub raised : ℕ → Node → Leading → ℕ
raised n x l = max x.watermark (unwrap_or (least_end (known_ends n x.log l)) 0)

abbrev pub Raises : ℕ → Node → Leading → Effect → Type 0
Raises n x l e = let mark = raised n x l in e ≡ becomes (record x { watermark = mark }) (MarkAt mark)
