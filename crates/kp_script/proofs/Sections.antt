-- A section keeps its events while more bytes come behind those that it has.
use Rattle.std.proofs.Common.{◌≡◌, ◌∙◌, ℕ, ◌-◌, List, [], ◌∷◌, ◌++◌, refl, ap, arith, map, take, drop, length-append, length-drop}
use lib.Seq.{drop-append-le, take-append-le}
use Rattle.std.specs.List.{AllByRecursion}
use Rattle.std.proofs.lemmas.List.{map-append}
use Rattle.kp_script.specs.Call.{Call, Append, Raw}
use Rattle.kp_script.specs.Hex.{bytes_of}
use Rattle.kp_script.specs.Seen.{seen_sender, seen_values}
use Rattle.kp_script.specs.Sections.{IsHeldBy, IsPlaceIn, bytes_at, kept_call, kept_line}
use Rattle.kp_script.specs.declared.section.Asked.{Asked}
use Rattle.kp_script.specs.declared.section.Asked.TheVariants as asked
use Rattle.kp_script.specs.declared.section.KeptLine.{KeptLine}
use Rattle.kp_script.specs.declared.section.Place.{Place}

-- a place stays where it is
at_same : (bytes more : List ℕ) (place : Place) → IsPlaceIn bytes place → bytes_at (bytes ++ more) place ≡ bytes_at bytes place
at_same bytes more place (ordered, within) =
    ap (take (place.to - place.from)) (drop-append-le place.from bytes more (omega (arith, ordered, within)))
    ∙ take-append-le (place.to - place.from) (drop place.from bytes) more (omega (arith, ordered, within, length-drop place.from bytes))

in_more : (bytes more : List ℕ) (place : Place) → IsPlaceIn bytes place → IsPlaceIn (bytes ++ more) place
in_more bytes more place (ordered, within) = (ordered, omega (arith, within, length-append bytes more))

pub call_same : (bytes more : List ℕ) (call : Asked) → IsHeldBy bytes call → kept_call (bytes ++ more) call ≡ kept_call bytes call
call_same bytes more (asked.Elect node) h = refl
call_same bytes more (asked.Append node transactional lone time sender values) h =
    ap (λ (xs : List ℕ). Append node time (seen_sender sender) transactional (seen_values lone xs)) (at_same bytes more values h)
call_same bytes more (asked.Raw node digits) h = ap (λ (xs : List ℕ). Raw node (bytes_of xs)) (at_same bytes more digits h)
call_same bytes more (asked.Acts node act) h = refl
call_same bytes more (asked.Deliver number) h = refl

pub held_more : (bytes more : List ℕ) (call : Asked) → IsHeldBy bytes call → IsHeldBy (bytes ++ more) call
held_more bytes more (asked.Elect node) h = tt
held_more bytes more (asked.Append node transactional lone time sender values) h = in_more bytes more values h
held_more bytes more (asked.Raw node digits) h = in_more bytes more digits h
held_more bytes more (asked.Acts node act) h = tt
held_more bytes more (asked.Deliver number) h = tt

abbrev pub AreHeldBy : List ℕ → List KeptLine → Type 0
AreHeldBy bytes lines = AllByRecursion (λ line. IsHeldBy bytes line.asked) lines

pub lines_same : (bytes more : List ℕ) (lines : List KeptLine) → AreHeldBy bytes lines → map (kept_line (bytes ++ more)) lines ≡ map (kept_line bytes) lines
lines_same bytes more [] h = refl
lines_same bytes more (line ∷ lines) h =
    ap (λ (call : Call). (line.number, call) ∷ map (kept_line (bytes ++ more)) lines) (call_same bytes more line.asked h.0)
    ∙ ap (λ (xs : List (ℕ × Call)). kept_line bytes line ∷ xs) (lines_same bytes more lines h.1)

pub all_held : (bytes more : List ℕ) (lines : List KeptLine) (line : KeptLine) → AreHeldBy bytes lines → IsHeldBy (bytes ++ more) line.asked → AreHeldBy (bytes ++ more) (lines ++ line ∷ [])
all_held bytes more [] line h last = (last, tt)
all_held bytes more (x ∷ xs) line h last = (held_more bytes more x.asked h.0, all_held bytes more xs line h.1 last)

-- a line more
pub pushed : (bytes more : List ℕ) (lines : List KeptLine) (line : KeptLine) → AreHeldBy bytes lines
    → map (kept_line (bytes ++ more)) (lines ++ line ∷ []) ≡ map (kept_line bytes) lines ++ kept_line (bytes ++ more) line ∷ []
pushed bytes more lines line h =
    map-append (kept_line (bytes ++ more)) lines (line ∷ [])
    ∙ ap (λ (xs : List (ℕ × Call)). xs ++ kept_line (bytes ++ more) line ∷ []) (lines_same bytes more lines h)
