-- The numbers that calls answer (own rule).
use Rattle.std.specs.Prelude.{◌≡◌, ◌≢◌, ◌⊎◌, ◌<◌, ℕ, List, [], codes, Option, Some, None, Result, Ok, Err}
use Rattle.kp_types.specs.Texts.{IsNoRefusal, refusal_head, refusal_number}
use Rattle.kp_types.specs.declared.refusal.Refusal.{Refusal}
use Rattle.kp_handles.specs.declared.misuse.Misuse.{Misuse}
use Rattle.kp_handles.specs.declared.misuse.Misuse.TheVariants.{Closed, OtherKind, InUse, NoRoom, OutOfRange, BadLength}

abbrev pub misuse_number : Misuse → ℕ
misuse_number Closed = 65
misuse_number OtherKind = 66
misuse_number InUse = 67
misuse_number NoRoom = 68
misuse_number OutOfRange = 69
misuse_number BadLength = 70

-- what a call answers: 0 where it was made, else why it wasn't
abbrev pub answer_number : {X : Type 0} → Result (Result X Refusal) Misuse → ℕ
answer_number (Ok (Ok x)) = 0
answer_number (Ok (Err refusal)) = refusal_number refusal
answer_number (Err why) = misuse_number why

-- the same of a look at a node's watermark, where None says that there is no such node
abbrev pub mark_number : {X : Type 0} → Result (Result (Option X) Refusal) Misuse → ℕ
mark_number (Ok (Ok None)) = misuse_number OutOfRange
mark_number (Ok (Ok (Some x))) = 0
mark_number (Ok (Err refusal)) = refusal_number refusal
mark_number (Err why) = misuse_number why

-- the number is no misuse's
abbrev pub IsNoMisuse : ℕ → Type 0
IsNoMisuse number = (number < 65) ⊎ (70 < number)

abbrev pub misuse_name : Misuse → List ℕ
misuse_name Closed = codes "F65 Closed"
misuse_name OtherKind = codes "F66 OtherKind"
misuse_name InUse = codes "F67 InUse"
misuse_name NoRoom = codes "F68 NoRoom"
misuse_name OutOfRange = codes "F69 OutOfRange"
misuse_name BadLength = codes "F70 BadLength"

-- the refusal of this number has this name
abbrev pub IsRefusalsName : ℕ → List ℕ → Type 0
IsRefusalsName number name = (f : Refusal) × (refusal_number f ≡ number) × (name ≡ refusal_head f)

abbrev pub IsMisusesName : ℕ → List ℕ → Type 0
IsMisusesName number name = (why : Misuse) × (misuse_number why ≡ number) × (name ≡ misuse_name why)

-- What a call that answers this number says; nothing for a number that none answers.
unfoldable pub IsName : ℕ → List ℕ → Type 0
IsName number name =
    ((number ≡ 0) × (name ≡ codes "F0 Done")) ⊎ (IsRefusalsName number name ⊎ (IsMisusesName number name
    ⊎ ((number ≢ 0) × IsNoRefusal number × IsNoMisuse number × (name ≡ []))))

-- what a call that can't be refused answers
abbrev pub done_number : {X : Type 0} → Result X Misuse → ℕ
done_number (Ok x) = 0
done_number (Err why) = misuse_number why
