-- What is said on standard error (own rule).
use Rattle.std.specs.Prelude.{◌≡◌, ◌⊎◌, ℕ, ◌+◌, ◌/◌, ◌%◌, ◌==◌, Bool, not, ◌&&◌, ◌||◌, nat_lt, List, [], ◌∷◌, ◌++◌, Option, take, length, codes, if◌then◌else◌}
use Rattle.kp_types.specs.declared.counted.Counted.{Counted}
use Rattle.kp_types.specs.declared.refusal.Refusal.{Refusal}
use Rattle.kp_types.specs.declared.refusal.Refusal.TheVariants as refusals
use Rattle.kp_types.specs.Devices.{IsBegun, IsOut, Tells, device_of, faults_of}
use Rattle.kp_types.specs.Texts.{refusal_text}
use Rattle.kp_cli.specs.Faults.{fault_text, refusal_of}
use Rattle.kp_cli.specs.declared.fault.Fault.{Fault}

-- A byte of a path that is shown as it is. Others are the control bytes, DEL, the backslash, and both bytes of a sign from U+0080
-- to U+00BF, among which are the controls that UTF-8 spells by two bytes: C2 and the byte behind it.
abbrev pub is_plain : (before byte : ℕ) → Bool
is_plain before byte =
    not (nat_lt byte 32) && (not (byte == 92) && (not (byte == 127) && (not (byte == 194) && not (before == 194))))

-- a digit of 0 to f
abbrev pub hex_digit : ℕ → ℕ
hex_digit digit = if nat_lt digit 10 then 48 + digit else 87 + digit

-- a byte as `\xHH`
abbrev pub escaped : ℕ → List ℕ
escaped byte = 92 ∷ 120 ∷ hex_digit (byte / 16) ∷ hex_digit (byte % 16) ∷ []

-- how a byte of a path is shown
abbrev pub shown_byte : (before byte : ℕ) → List ℕ
shown_byte before byte = if is_plain before byte then byte ∷ [] else escaped byte

-- how the bytes of a path are shown behind this one
abbrev pub shown_bytes : (before : ℕ) → List ℕ → List ℕ
shown_bytes before [] = []
shown_bytes before (byte ∷ rest) = shown_byte before byte ++ shown_bytes byte rest

-- how a path is shown: of a longer one its first 1,024 bytes, and three dots
abbrev pub shown : List ℕ → List ℕ
shown path =
    if nat_lt 1024 (length path) then shown_bytes 0 (take 1024 path) ++ codes "..." else shown_bytes 0 path

-- How a byte of a text of several lines is shown behind this one: as a path's, but that a line feed ends a line.
abbrev pub tame_byte : (before byte : ℕ) → List ℕ
tame_byte before byte = if byte == 10 || is_plain before byte then byte ∷ [] else escaped byte

-- how the bytes of such a text are shown behind this one
abbrev pub tame_bytes : (before : ℕ) → List ℕ → List ℕ
tame_bytes before [] = []
tame_bytes before (byte ∷ rest) = tame_byte before byte ++ tame_bytes byte rest

-- How such a text is shown, so that no terminal obeys a word that it quotes.
abbrev pub tamed : List ℕ → List ℕ
tamed text = tame_bytes 0 text

-- what stands on standard error for a refusal
abbrev pub complaint : Refusal → List ℕ
complaint refusal = codes "kpart: " ++ (refusal_text refusal ++ codes "\n")

-- the exit status for a refusal: 2 for a fault of the script, and 1 else
abbrev pub status_of_refusal : Refusal → ℕ
status_of_refusal (refusals.BadScript line) = 2
status_of_refusal _ = 1

-- A text on standard output, with this exit status. Where that failed a beginning of it stands there, F32 stands on standard error, and
-- the exit status is 1.
abbrev pub Prints : {W E : Type 0} → (W → Option (List ℕ)) → (E → Option (List ℕ)) → (text : List ℕ) → (wanted : ℕ) → (out out_new : Counted W) → (err err_new : Counted E) → ℕ → Type 0
Prints held told text wanted out out_new err err_new status =
    (IsOut held out out_new text × (err_new ≡ err) × (status ≡ wanted))
    ⊎ (IsBegun held out out_new text × Tells told err err_new (complaint refusals.Device) × (status ≡ 1))

-- a reason by itself
abbrev pub lone_reason : Fault → List ℕ
lone_reason fault = codes "kpart: " ++ (fault_text fault ++ codes "\n")

-- the second line: which file or folder it is, and why
abbrev pub reason : (path : List ℕ) → Fault → List ℕ
reason path fault = codes "kpart: " ++ (shown path ++ (codes ": " ++ (fault_text fault ++ codes "\n")))

-- both lines, of a file that can't be opened or a folder that can't be taken
abbrev pub file_complaint : (path : List ℕ) → Fault → List ℕ
file_complaint path fault = complaint (refusal_of fault) ++ reason path fault

-- The second line of a refused call: of the file or folder at this path, where its count of failed calls rose, with the reason
-- of the last of them; else none.
abbrev pub reason_of : {T : Type 0} → (T → Fault) → (path : List ℕ) → (faults : ℕ) → Counted T → List ℕ
reason_of fault path faults left = if faults_of left == faults then [] else reason path (fault (device_of left))
