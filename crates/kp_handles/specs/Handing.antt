-- Bytes that are copied, and tested, before a node gets them (own rule).
use Rattle.std.specs.Prelude.{◌≡◌, ◌⊎◌, ℕ, true, List, Option, Some, None, Result, Ok, Err}
use Rattle.kp_types.specs.declared.refusal.Refusal.{Refusal}
use Rattle.kp_replica.specs.declared.producing.Receipt.{Receipt}
use Rattle.kp_handles.specs.Called.{ArePair, AreNoPair, NoReason, PairCalled}
use Rattle.kp_handles.specs.Objects.{ObjectView, handed, is_open}
use Rattle.kp_node.specs.CallerCalls.{Produces}
use Rattle.kp_handles.specs.PairCalls.{BadBytes, FitsBatch}
use Rattle.kp_handles.specs.declared.misuse.Misuse.{Misuse}
use Rattle.kp_handles.specs.declared.misuse.Misuse.TheVariants.{Closed, OtherKind, InUse, NoRoom}

-- the handle is closed, or holds bytes
abbrev pub IsFree : Option ObjectView → Type 0
IsFree old = (old ≡ None) ⊎ ((was : List ℕ) × (old ≡ Some (handed was)))

-- so many bytes weren't put into the handle
abbrev pub BadHand : ℕ → Option ObjectView → Misuse → Type 0
BadHand n old InUse = ¬ IsFree old
BadHand n old NoRoom = IsFree old × FitsBatch n
BadHand n old why = BadBytes n why

-- a handle's bytes weren't shared
abbrev pub BadShare : Option ObjectView → Misuse → Type 0
BadShare held Closed = held ≡ None
BadShare held OtherKind = (is_open held ≡ true) × ((bytes : List ℕ) → held ≡ Some (handed bytes) → ⊥)
BadShare held NoRoom = (bytes : List ℕ) × (held ≡ Some (handed bytes))
BadShare held _ = ⊥

-- the bytes that a handle holds weren't handed to a node and a pass
abbrev pub BadHanded : (held old other : Option ObjectView) → Misuse → Type 0
BadHanded held old other Closed = (held ≡ None) ⊎ ((old ≡ None) ⊎ (other ≡ None))
BadHanded held old other OtherKind = BadShare held OtherKind ⊎ AreNoPair old other
BadHanded held old other NoRoom = BadShare held NoRoom × ArePair old other
BadHanded held old other _ = ⊥

-- The bytes that a handle holds were handed to a node and a pass; or they weren't, and nothing has changed.
abbrev pub HandedCalled : (held old new other then : Option ObjectView) → Result (Result Receipt Refusal) Misuse → Type 0
HandedCalled held old new other then (Ok answer) =
    (bytes : List ℕ) × (held ≡ Some (handed bytes)) × PairCalled NoReason old new other then (Ok answer) (Produces bytes)
HandedCalled held old new other then (Err why) = (new ≡ old) × (then ≡ other) × BadHanded held old other why
