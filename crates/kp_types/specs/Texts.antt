-- The number and the name of each refusal, and the text that the program prints of it.
use Rattle.std.specs.Prelude.{List, [], ◌∷◌, ℕ, ◌++◌, ◌≢◌, codes, Option, Some, None}
use Rattle.std.specs.Fmt.{decimal}
use Rattle.kp_types.specs.declared.refusal.Refusal.{Refusal}
use Rattle.kp_types.specs.declared.refusal.Refusal.TheVariants as refusals

-- a refusal's number and name
abbrev pub refusal_row : Refusal → ℕ × List ℕ
refusal_row refusals.Truncated = (1, codes "Truncated")
refusal_row refusals.BadMagic = (2, codes "BadMagic")
refusal_row refusals.BadLength = (3, codes "BadLength")
refusal_row refusals.BadCrc = (4, codes "BadCrc")
refusal_row refusals.Compressed = (5, codes "Compressed")
refusal_row refusals.BadAttributes = (6, codes "BadAttributes")
refusal_row refusals.BadCount = (7, codes "BadCount")
refusal_row (refusals.BadRecord place) = (8, codes "BadRecord")
refusal_row refusals.TooLarge = (9, codes "TooLarge")
refusal_row refusals.BadProducerFields = (10, codes "BadProducerFields")
refusal_row refusals.InvalidProducerEpoch = (11, codes "InvalidProducerEpoch")
refusal_row refusals.OutOfOrderSequence = (12, codes "OutOfOrderSequence")
refusal_row refusals.InvalidTxnState = (13, codes "InvalidTxnState")
refusal_row refusals.CoordinatorFenced = (14, codes "CoordinatorFenced")
refusal_row refusals.NotLeader = (15, codes "NotLeader")
refusal_row refusals.OffsetOutOfRange = (16, codes "OffsetOutOfRange")
refusal_row refusals.FencedLeaderEpoch = (17, codes "FencedLeaderEpoch")
refusal_row refusals.UnknownLeaderEpoch = (18, codes "UnknownLeaderEpoch")
refusal_row refusals.NotBoundary = (19, codes "NotBoundary")
refusal_row refusals.BelowSettled = (20, codes "BelowSettled")
refusal_row refusals.NotInSync = (21, codes "NotInSync")
refusal_row refusals.StaleRecord = (22, codes "StaleRecord")
refusal_row refusals.NotCaughtUp = (23, codes "NotCaughtUp")
refusal_row refusals.RecordFull = (24, codes "RecordFull")
refusal_row refusals.OffsetsExhausted = (25, codes "OffsetsExhausted")
refusal_row refusals.NotNext = (26, codes "NotNext")
refusal_row refusals.EpochBack = (27, codes "EpochBack")
refusal_row refusals.Down = (28, codes "Down")
refusal_row refusals.StaleAnswer = (29, codes "StaleAnswer")
refusal_row refusals.ControlFromClient = (30, codes "ControlFromClient")
refusal_row (refusals.BadScript line) = (31, codes "BadScript")
refusal_row refusals.Device = (32, codes "Device")
refusal_row refusals.Memory = (33, codes "Memory")
refusal_row refusals.ChangePending = (34, codes "ChangePending")
refusal_row refusals.BadFolder = (35, codes "BadFolder")

abbrev pub refusal_number : Refusal → ℕ
refusal_number refusal = (refusal_row refusal).0

abbrev pub refusal_name : Refusal → List ℕ
refusal_name refusal = (refusal_row refusal).1

-- F, the number, a space and the name
abbrev pub refusal_head : Refusal → List ℕ
refusal_head refusal = 70 ∷ decimal (refusal_number refusal) ++ 32 ∷ refusal_name refusal

-- the place or the line that a refusal has
abbrev pub place_of : Refusal → Option ℕ
place_of (refusals.BadRecord place) = Some place
place_of (refusals.BadScript line) = Some line
place_of _ = None

-- and how it stands behind the name
abbrev pub place_text : Option ℕ → List ℕ
place_text None = []
place_text (Some place) = 32 ∷ decimal place

-- what the program prints of a refusal
abbrev pub refusal_text : Refusal → List ℕ
refusal_text refusal = refusal_head refusal ++ place_text (place_of refusal)

-- the number is no refusal's
abbrev pub IsNoRefusal : ℕ → Type 0
IsNoRefusal number = (refusal : Refusal) → refusal_number refusal ≢ number
