-- What a call of a counted device leaves.
use Rattle.std.specs.Prelude.{ℕ, ◌+◌, ◌≡◌, ◌⊎◌, List, take, Option, Result, Ok, Err}
use Rattle.std.specs.Io.KnownBytes.{Appends}
use Rattle.kp_types.specs.declared.counted.Counted.{Counted}
use Rattle.kp_types.specs.declared.refusal.Refusal.{Refusal}
use Rattle.kp_types.specs.declared.refusal.Refusal.TheVariants as refusals

-- the device itself
abbrev pub device_of : {T : Type 0} → Counted T → T
device_of counted = counted.inner

-- how many of its calls failed
abbrev pub faults_of : {T : Type 0} → Counted T → ℕ
faults_of counted = counted.failed

-- the count of failed calls rose by one where the answer is that a device failed, and nowhere else
abbrev pub CountsFault : Refusal → ℕ → ℕ → Type 0
CountsFault refusals.Device old new = new ≡ old + 1
CountsFault _ old new = new ≡ old

abbrev pub CountsFaults : {A : Type 0} → Result A Refusal → ℕ → ℕ → Type 0
CountsFaults (Ok x) old new = new ≡ old
CountsFaults (Err refusal) old new = CountsFault refusal old new

-- Of a reader and a writer, each with its count before and after: the answer is that a device failed exactly where a
-- call of one of them did, one call of one of them.
abbrev pub CountsOneFault : Refusal → (read read_new written written_new : ℕ) → Type 0
CountsOneFault refusals.Device read read_new written written_new =
    ((read_new ≡ read + 1) × (written_new ≡ written)) ⊎ ((read_new ≡ read) × (written_new ≡ written + 1))
CountsOneFault _ read read_new written written_new = (read_new ≡ read) × (written_new ≡ written)

abbrev pub CountsOne : {A : Type 0} → Result A Refusal → (read read_new written written_new : ℕ) → Type 0
CountsOne (Ok x) read read_new written written_new = (read_new ≡ read) × (written_new ≡ written)
CountsOne (Err refusal) read read_new written written_new = CountsOneFault refusal read read_new written written_new

-- the refusals of a device's call: it failed, or a growth was refused
abbrev pub IsDeviceFault : Refusal → Type 0
IsDeviceFault refusals.Device = Unit {0}
IsDeviceFault refusals.Memory = Unit {0}
IsDeviceFault _ = ⊥

-- the known bytes grew by a beginning of the text
abbrev pub AppendsFront : Option (List ℕ) → Option (List ℕ) → List ℕ → Type 0
AppendsFront old new text = (n : ℕ) × Appends old new (take n text)

-- the text is out, and no call failed
abbrev pub IsOut : {T : Type 0} → (T → Option (List ℕ)) → (old new : Counted T) → List ℕ → Type 0
IsOut contents old new text =
    Appends (contents (device_of old)) (contents (device_of new)) text × (faults_of new ≡ faults_of old)

-- a call failed, and a beginning of the text is out
abbrev pub IsBegun : {T : Type 0} → (T → Option (List ℕ)) → (old new : Counted T) → List ℕ → Type 0
IsBegun contents old new text =
    AppendsFront (contents (device_of old)) (contents (device_of new)) text × (faults_of new ≡ faults_of old + 1)

-- one of the two
abbrev pub Tells : {T : Type 0} → (T → Option (List ℕ)) → (old new : Counted T) → List ℕ → Type 0
Tells contents old new text = IsOut contents old new text ⊎ IsBegun contents old new text
