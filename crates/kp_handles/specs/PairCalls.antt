-- Why a call of a node for a caller's pass isn't made (own rule).
use Rattle.std.specs.Prelude.{◌<◌, ◌≤◌, ℕ}
use Rattle.kp_marker.specs.Ranges.{IsInRange}
use Rattle.kp_marker.specs.declared.parts.Marker.{Marker}
use Rattle.kp_handles.specs.declared.misuse.Misuse.{Misuse}
use Rattle.kp_handles.specs.declared.misuse.Misuse.TheVariants.{NoRoom, OutOfRange, BadLength}

-- a batch may have so many bytes: its length, a signed field of four bytes, counts all but the first twelve (Kafka protocol guide)
abbrev pub FitsBatch : ℕ → Type 0
FitsBatch n = n ≤ 2147483659

-- why bytes weren't copied, so many of them: no batch has as many; or one may, and there was no room
abbrev pub BadBytes : ℕ → Misuse → Type 0
BadBytes n BadLength = 2147483659 < n
BadBytes n NoRoom = FitsBatch n
BadBytes n _ = ⊥

-- a field of the marker lies out of its range
abbrev pub BadMarker : Marker → Misuse → Type 0
BadMarker marker OutOfRange = ¬ IsInRange marker
BadMarker marker _ = ⊥
