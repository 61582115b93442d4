-- What nodes reported of their logs' ends, by their numbers (Kafka replication design).
use Rattle.std.specs.Prelude.{◌≡◌, ℕ, max, List, [], ◌∷◌, ◌++◌, Option, Some, None, map, unwrap_or, slice_index_or, slice_set}
use Rattle.std.specs.Option.{option_map}
use Rattle.kp_model.specs.Controller.{without_member}
use Rattle.kp_model.specs.Set.{members_of}
use Rattle.kp_model.specs.declared.record.NodeSet.{NodeSet}

-- the node has reported this end: the greatest one stays
abbrev pub with_report : List (Option ℕ) → (node end : ℕ) → List (Option ℕ)
with_report reported node end = slice_set reported node (Some (max (unwrap_or (slice_index_or reported node None) 0) end))

-- the members of the set that a leader knows, and of the one that is pending, if one is
abbrev pub members_in : NodeSet → Option NodeSet → List ℕ
members_in known pending = members_of known ++ unwrap_or (option_map members_of pending) []

-- the own end, and what the other members of the set reported
abbrev pub ends_over : List ℕ → (own end : ℕ) → List (Option ℕ) → List (Option ℕ)
ends_over isr own end reported = Some end ∷ map (λ m. slice_index_or reported m None) (without_member own isr)

-- some node reported this end
abbrev pub IsReported : List (Option ℕ) → ℕ → Type 0
IsReported reported end = (m : ℕ) × (slice_index_or reported m None ≡ Some end)
