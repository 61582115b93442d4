-- Words of the readers' contracts.
use Rattle.std.specs.Prelude.{◌≡◌, ◌≢◌, ℕ, ◌==◌, Bool, true, false, ◌&&◌, if◌then◌else◌, List, [], ◌∷◌}
use Rattle.std.specs.Fmt.{decimal}
use Rattle.kp_marker.specs.Marker.{commits}
use Rattle.kp_marker.specs.declared.parts.Marker.{Marker}
use Rattle.kp_script.specs.Call.{Call, Sender, is_value_byte, spaced, signed_text, ending_text, verb_text, fields_text, IsCallInRange}

-- Whether the bytes go on with values, where a value has begun or not.
abbrev pub goes_on : (begun : Bool) → List ℕ → Bool
goes_on begun [] = begun
goes_on begun (x ∷ xs) = if (x == 44) then (begun && goes_on false xs) else (is_value_byte x && goes_on true xs)

-- the three fields of a producer in front of other bytes, with one space between each two
abbrev pub sender_front : Sender → List ℕ → List ℕ
sender_front sender rest =
    spaced (signed_text sender.producer ∷ signed_text sender.epoch ∷ signed_text sender.sequence ∷ rest ∷ [])

-- the fields of a marker, with one space between each two
abbrev pub marker_text : Marker → List ℕ
marker_text marker =
    spaced (decimal marker.timestamp ∷ decimal marker.producer_id ∷ decimal marker.producer_epoch ∷ decimal marker.coordinator_epoch ∷ ending_text (commits marker.kind) ∷ [])

-- The bytes are the fields of this call, which has this verb, and is in range where there are so many nodes.
abbrev pub AreFields : (count : ℕ) → (verb bytes : List ℕ) → Call → Type 0
AreFields count verb bytes call = IsCallInRange count call × (verb ≡ verb_text call) × (bytes ≡ fields_text call)

-- The bytes are not the fields of a call in range that has this verb.
abbrev pub AreNoFields : (count : ℕ) → (verb bytes : List ℕ) → Type 0
AreNoFields count verb bytes = (call : Call) → IsCallInRange count call → verb ≡ verb_text call → bytes ≢ fields_text call
