-- How handles are opened and closed (own rule).
use Rattle.std.specs.Prelude.{◌≡◌, ◌+◌, ◌<◌, ◌≤◌, ℕ, true, List, [], ◌∷◌, length, slice_get, Option, Some, None}
use Rattle.kp_types.specs.declared.limits.Limits.{Limits}
use Rattle.kp_board.specs.Views.{new_caller}
use Rattle.kp_node.specs.Seated.{SeatedNode}
use Rattle.kp_node.specs.Seats.{new_seat}
use Rattle.kp_handles.specs.Objects.{ObjectView, caller, cluster, is_open, node}
use Rattle.kp_handles.specs.declared.misuse.Misuse.{Misuse}
use Rattle.kp_handles.specs.declared.misuse.Misuse.TheVariants.{Closed, OtherKind, InUse, NoRoom, OutOfRange, BadLength}

-- A board of so many nodes was opened: each node waits to be opened, in their order.
abbrev pub IsCluster : ℕ → Limits → Option ObjectView → Type 0
IsCluster n limits object =
    (waiting : List SeatedNode) × (object ≡ Some (cluster n waiting 0)) × (length waiting ≡ n)
    × ((k : ℕ) → k < n → slice_get waiting k ≡ Some (new_seat limits n k))

-- the cluster's next node was opened
abbrev pub OpensNode : Option ObjectView → Option ObjectView → Option ObjectView → Type 0
OpensNode old new opened =
    (n : ℕ) × (x : SeatedNode) × (rest : List SeatedNode) × (callers : ℕ) × (old ≡ Some (cluster n (x ∷ rest) callers))
    × (new ≡ Some (cluster n rest callers)) × (opened ≡ Some (node x))

-- a new caller's pass of the cluster was opened, and no other
abbrev pub OpensCaller : Option ObjectView → Option ObjectView → Option ObjectView → Type 0
OpensCaller old new opened =
    (n : ℕ) × (waiting : List SeatedNode) × (callers : ℕ) × (old ≡ Some (cluster n waiting callers))
    × (new ≡ Some (cluster n waiting (callers + 1))) × (opened ≡ Some (caller n (new_caller n)))

-- ---- why a call wasn't made

-- nothing of so many nodes was opened
abbrev pub BadBoard : ℕ → Option ObjectView → Misuse → Type 0
BadBoard n out OutOfRange = 7 < n
BadBoard n out InUse = is_open out ≡ true
BadBoard n out NoRoom = (n ≤ 7) × (out ≡ None)
BadBoard n out _ = ⊥

-- the handle is open, and holds no cluster
abbrev pub IsNoCluster : Option ObjectView → Type 0
IsNoCluster old =
    (is_open old ≡ true) × ((n : ℕ) → (waiting : List SeatedNode) → (callers : ℕ) → old ≡ Some (cluster n waiting callers) → ⊥)

-- no pass of this cluster was opened
abbrev pub BadCallerOpening : (old out : Option ObjectView) → Misuse → Type 0
BadCallerOpening old out Closed = old ≡ None
BadCallerOpening old out OtherKind = IsNoCluster old
BadCallerOpening old out InUse = is_open out ≡ true
BadCallerOpening old out NoRoom =
    (n : ℕ) × (waiting : List SeatedNode) × (callers : ℕ) × (old ≡ Some (cluster n waiting callers)) × (out ≡ None)
BadCallerOpening old out _ = ⊥

-- no node of it was opened; all may be open
abbrev pub BadNodeOpening : (old out : Option ObjectView) → Misuse → Type 0
BadNodeOpening old out Closed = old ≡ None
BadNodeOpening old out OtherKind = IsNoCluster old
BadNodeOpening old out InUse = is_open out ≡ true
BadNodeOpening old out OutOfRange = (n : ℕ) × (callers : ℕ) × (old ≡ Some (cluster n [] callers))
BadNodeOpening old out NoRoom =
    (n : ℕ) × (next : SeatedNode) × (rest : List SeatedNode) × (callers : ℕ) × (old ≡ Some (cluster n (next ∷ rest) callers)) × (out ≡ None)
BadNodeOpening old out BadLength = ⊥
