-- A log as segments in a handle (own rule).
use Rattle.std.specs.Prelude.{◌≡◌, ◌<◌, ◌≤◌, ℕ, true, List, length, Option, Some, None, Result, Ok, Err, IfOk, IfErr}
use Rattle.std.specs.Global.{Box}
use Rattle.kp_types.specs.declared.refusal.Refusal.{Refusal}
use Rattle.kp_types.specs.declared.refusal.Refusal.TheVariants.{Memory}
use Rattle.kp_batch.specs.Batch.{Written}
use Rattle.kp_segment.specs.Name.{segment_name}
use Rattle.kp_segment.specs.Runs.{AreRunsOf}
use Rattle.kp_segment.specs.declared.name.SegmentName.{SegmentName}
use Rattle.kp_node.specs.Seated.{SeatedNode}
use Rattle.kp_handles.specs.Called.{NodeGives}
use Rattle.kp_handles.specs.Holding.{BadPart, HasPart, Writes, segments_in}
use Rattle.kp_handles.specs.Objects.{ObjectView, batches, segments, is_open}
use Rattle.kp_handles.specs.declared.misuse.Misuse.{Misuse}
use Rattle.kp_handles.specs.declared.misuse.Misuse.TheVariants.{BadLength, InUse, NoRoom}

-- A node's log was told as segments, each by its name with its batches; or memory was refused.
pub record TellsSegments (old new : SeatedNode) (result : Result (List (SegmentName × List Written)) Refusal) : Type 0 where
  pub same : new ≡ old
  pub runs : IfOk result (AreRunsOf old.node.limits old.node.state.log)
  pub only : IfErr result (λ refusal. refusal ≡ Memory)

-- they stand in a handle that was closed
abbrev pub SegmentsCalled : (old new out wrote : Option ObjectView) → Result (Result (Unit {0}) Refusal) Misuse → Type 0
SegmentsCalled old new out wrote done = NodeGives segments TellsSegments old new out wrote done

abbrev pub name_size : SegmentName × List Written → ℕ
name_size s = length (segment_name s.0.base)

-- why one of the segments wasn't given
abbrev pub BadSegment : (index places : ℕ) → (object out : Option ObjectView) → Misuse → Type 0
BadSegment index places object out InUse = is_open out ≡ true
BadSegment index places object out NoRoom = HasPart segments_in index object (λ s. name_size s ≤ places) × (out ≡ None)
BadSegment index places object out why = BadPart segments_in name_size index places object why

-- One of the segments: its file's name stands where `from` stood, and its batches in a handle that was closed; or memory was refused
-- for that segment, or the call wasn't made, and nothing has changed.
abbrev pub SegmentCalled : Option ObjectView → ℕ → (from to : List ℕ) → (out wrote : Option ObjectView) → Result (Result (Unit {0}) Refusal) Misuse → Type 0
SegmentCalled object index from to out wrote (Ok (Ok done)) =
    (out ≡ None) × HasPart segments_in index object (λ s. Writes (segment_name s.0.base) from to × (wrote ≡ Some (batches s.1)))
SegmentCalled object index from to out wrote (Ok (Err refusal)) = (to ≡ from) × (wrote ≡ out) × HasPart segments_in index object (λ s. refusal ≡ Memory)
SegmentCalled object index from to out wrote (Err why) = (to ≡ from) × (wrote ≡ out) × BadSegment index (length from) object out why

-- the same of a segment, whose name may be too long for the places that there are, and of an object
abbrev pub BadName : SegmentName × List Written → ℕ → Misuse → Type 0
BadName s places BadLength = places < name_size s
BadName s places NoRoom = name_size s ≤ places
BadName s places _ = ⊥

abbrev pub GivesSegment : SegmentName × List Written → (from to : List ℕ) → Result (Result (Box ObjectView) Refusal) Misuse → Type 0
GivesSegment s from to (Ok (Ok made)) = Writes (segment_name s.0.base) from to × (made.value ≡ batches s.1)
GivesSegment s from to (Ok (Err refusal)) = (to ≡ from) × (refusal ≡ Memory)
GivesSegment s from to (Err why) = (to ≡ from) × BadName s (length from) why

abbrev pub SegmentMet : ObjectView → ℕ → (from to : List ℕ) → Result (Result (Box ObjectView) Refusal) Misuse → Type 0
SegmentMet object index from to (Ok (Ok made)) = HasPart segments_in index (Some object) (λ s. Writes (segment_name s.0.base) from to × (made.value ≡ batches s.1))
SegmentMet object index from to (Ok (Err refusal)) = (to ≡ from) × HasPart segments_in index (Some object) (λ s. refusal ≡ Memory)
SegmentMet object index from to (Err why) = (to ≡ from) × BadSegment index (length from) (Some object) None why
