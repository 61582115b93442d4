-- What a call of handles does (own rule).
use Rattle.std.specs.Prelude.{◌≡◌, ◌⊎◌, ℕ, true, Option, Some, None, Result, Ok, Err}
use Rattle.std.specs.Global.{Box}
use Rattle.kp_board.specs.Opening.{BoardId}
use Rattle.kp_types.specs.declared.refusal.Refusal.{Refusal}
use Rattle.kp_board.specs.Views.{CallerView}
use Rattle.kp_node.specs.Seated.{SeatedNode}
use Rattle.kp_handles.specs.Objects.{ObjectView, caller, is_open, node}
use Rattle.kp_handles.specs.declared.misuse.Misuse.{Misuse}
use Rattle.kp_handles.specs.declared.misuse.Misuse.TheVariants.{Closed, OtherKind, InUse, NoRoom}

-- a handle holds a node
abbrev pub IsNode : Option ObjectView → Type 0
IsNode old = (x : SeatedNode) × (old ≡ Some (node x))

-- two handles hold a node and a caller's pass
abbrev pub ArePair : Option ObjectView → Option ObjectView → Type 0
ArePair old other = (x : SeatedNode) × (n : ℕ) × (c : CallerView) × (old ≡ Some (node x)) × (other ≡ Some (caller n c))

-- they are open, and don't hold these two
abbrev pub AreNoPair : Option ObjectView → Option ObjectView → Type 0
AreNoPair old other =
    (is_open old ≡ true) × (is_open other ≡ true)
    × ((x : SeatedNode) → (n : ℕ) → (c : CallerView) → old ≡ Some (node x) → other ≡ Some (caller n c) → ⊥)

-- Why a call of a node and a pass wasn't made: for what their handles hold, or for a reason of the call's own. Want of room is a reason
-- only where they are a node and a pass.
abbrev pub BadPair : (Misuse → Type 0) → Option ObjectView → Option ObjectView → Misuse → Type 0
BadPair Own old other Closed = (old ≡ None) ⊎ (other ≡ None)
BadPair Own old other OtherKind = AreNoPair old other
BadPair Own old other NoRoom = ArePair old other × Own NoRoom
BadPair Own old other why = Own why

-- it has none
abbrev pub NoReason : Misuse → Type 0
NoReason why = ⊥

-- The same of a node alone.
abbrev pub BadNode : (Misuse → Type 0) → Option ObjectView → Misuse → Type 0
BadNode Own old Closed = old ≡ None
BadNode Own old OtherKind = (is_open old ≡ true) × ((x : SeatedNode) → old ≡ Some (node x) → ⊥)
BadNode Own old NoRoom = IsNode old × Own NoRoom
BadNode Own old why = Own why

-- The same of a caller's pass alone, for which there is none.
abbrev pub BadCaller : Option ObjectView → Misuse → Type 0
BadCaller old Closed = old ≡ None
BadCaller old OtherKind = (is_open old ≡ true) × ((n : ℕ) → (c : CallerView) → old ≡ Some (caller n c) → ⊥)
BadCaller old _ = ⊥

-- The handle that was to be written was open; or it was closed, and there was no room for what it was to hold.
abbrev pub BadRoom : Option ObjectView → Misuse → Type 0
BadRoom out InUse = is_open out ≡ true
BadRoom out NoRoom = out ≡ None
BadRoom out _ = ⊥

-- The call met a node, which did this; or it wasn't made, and nothing has changed.
abbrev pub NodeCalled : {X : Type 0} → (old new : Option ObjectView) → Result (Result X Refusal) Misuse → (SeatedNode → SeatedNode → Result X Refusal → Type 0) → Type 0
NodeCalled old new (Ok answer) P = (x : SeatedNode) × (y : SeatedNode) × (old ≡ Some (node x)) × (new ≡ Some (node y)) × P x y answer
NodeCalled old new (Err why) P = (new ≡ old) × BadNode NoReason old why

-- The same of a caller's pass of a board of so many nodes.
abbrev pub CallerCalled : {X : Type 0} → (old new : Option ObjectView) → Result (Result X Refusal) Misuse → (ℕ → CallerView → CallerView → Result X Refusal → Type 0) → Type 0
CallerCalled old new (Ok answer) P = (n : ℕ) × (c : CallerView) × (d : CallerView) × (old ≡ Some (caller n c)) × (new ≡ Some (caller n d)) × P n c d answer
CallerCalled old new (Err why) P = (new ≡ old) × BadCaller old why

-- The same of a node and a caller's pass, for which the call may have a reason of its own.
abbrev pub PairCalled : {X : Type 0} → (Misuse → Type 0) → (old new other then : Option ObjectView) → Result (Result X Refusal) Misuse → (SeatedNode → SeatedNode → CallerView → CallerView → Result X Refusal → Type 0) → Type 0
PairCalled Own old new other then (Ok answer) P =
    (x : SeatedNode) × (y : SeatedNode) × (n : ℕ) × (c : CallerView) × (d : CallerView)
    × (old ≡ Some (node x)) × (new ≡ Some (node y)) × (other ≡ Some (caller n c)) × (then ≡ Some (caller n d)) × P x y c d answer
PairCalled Own old new other then (Err why) P = (new ≡ old) × (then ≡ other) × BadPair Own old other why

-- The same of a node whose answer stands in a handle that was closed; where it refused, that handle is as it was.
abbrev pub NodeGives : {X : Type 0} → (X → ObjectView) → (SeatedNode → SeatedNode → Result X Refusal → Type 0)
    → (old new out wrote : Option ObjectView) → Result (Result (Unit {0}) Refusal) Misuse → Type 0
NodeGives {X} hold P old new out wrote (Ok (Ok done)) =
    (x : SeatedNode) × (y : SeatedNode) × (found : X) × (old ≡ Some (node x)) × (new ≡ Some (node y))
    × (out ≡ None) × P x y (Ok found) × (wrote ≡ Some (hold found))
NodeGives hold P old new out wrote (Ok (Err refusal)) =
    (x : SeatedNode) × (y : SeatedNode) × (old ≡ Some (node x)) × (new ≡ Some (node y)) × (wrote ≡ out) × P x y (Err refusal)
NodeGives hold P old new out wrote (Err why) = (new ≡ old) × (wrote ≡ out) × BadNode (BadRoom out) old why

-- and of a node and a caller's pass
abbrev pub GiveCalled : {X : Type 0} → (X → ObjectView) → (SeatedNode → SeatedNode → CallerView → CallerView → Result X Refusal → Type 0)
    → (old new other then out wrote : Option ObjectView) → Result (Result (Unit {0}) Refusal) Misuse → Type 0
GiveCalled {X} hold P old new other then out wrote (Ok (Ok done)) =
    (x : SeatedNode) × (y : SeatedNode) × (n : ℕ) × (c : CallerView) × (d : CallerView) × (found : X)
    × (old ≡ Some (node x)) × (new ≡ Some (node y)) × (other ≡ Some (caller n c)) × (then ≡ Some (caller n d))
    × (out ≡ None) × P x y c d (Ok found) × (wrote ≡ Some (hold found))
GiveCalled hold P old new other then out wrote (Ok (Err refusal)) =
    (x : SeatedNode) × (y : SeatedNode) × (n : ℕ) × (c : CallerView) × (d : CallerView)
    × (old ≡ Some (node x)) × (new ≡ Some (node y)) × (other ≡ Some (caller n c)) × (then ≡ Some (caller n d))
    × (wrote ≡ out) × P x y c d (Err refusal)
GiveCalled hold P old new other then out wrote (Err why) = (new ≡ old) × (then ≡ other) × (wrote ≡ out) × BadPair (BadRoom out) old other why

-- what was made, or why it was refused
abbrev pub IsMade : {X : Type 0} → (X → ObjectView) → (Result X Refusal → Type 0) → Result ObjectView Refusal → Type 0
IsMade {X} hold P (Ok made) = (found : X) × P (Ok found) × (made ≡ hold found)
IsMade hold P (Err refusal) = P (Err refusal)

-- the same in its room
abbrev pub IsBoxed : {X : Type 0} → (X → ObjectView) → (Result X Refusal → Type 0) → Result (Box ObjectView) Refusal → Type 0
IsBoxed {X} hold P (Ok made) = (found : X) × P (Ok found) × (made.value ≡ hold found)
IsBoxed hold P (Err refusal) = P (Err refusal)

-- what was made, and what of an answer is left once that stands in a handle
abbrev pub made_of : Result (Result (Box ObjectView) Refusal) Misuse → Option ObjectView
made_of (Ok (Ok made)) = Some made.value
made_of (Ok (Err refusal)) = None
made_of (Err why) = None

abbrev pub done_of : Result (Result (Box ObjectView) Refusal) Misuse → Result (Result (Unit {0}) Refusal) Misuse
done_of (Ok (Ok made)) = Ok (Ok tt)
done_of (Ok (Err refusal)) = Ok (Err refusal)
done_of (Err why) = Err why

-- The handles' two objects are of one cluster, where both are open.
abbrev pub AreOfOne : Option ObjectView → BoardId → Option ObjectView → BoardId → Type 0
AreOfOne (Some x) t (Some y) u = t ≡ u
AreOfOne _ t _ u = Unit {0}

-- and whose it is
abbrev pub table_of : Option ObjectView → BoardId → BoardId → BoardId
table_of (Some x) t u = t
table_of None t u = u
