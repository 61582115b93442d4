-- What is said of a folder's files where they are known.
use Rattle.std.proofs.Common.{◌≡◌, ◌≢◌, ◌⊎◌, ℕ, List, Option, Some, None, Result, Err, refl, sym, ap, ◌∙◌, subst, inl, inr, ⊎_elim}
use Rattle.std.specs.Prelude.{IfErr, IfSome, IsErrAnd}
use Rattle.std.specs.Global.{Vec}
use Rattle.std.proofs.lemmas.Result.{err_from_is_err_and}
use Rattle.kp_model.specs.Set.{record_of}
use Rattle.kp_texts.specs.Seen.{seen_record}
use Rattle.kp_texts.specs.Texts.{HasOneRecord, IsRecordInRange, RecordText as SpelledRecord, record_text}
use Rattle.kp_texts.specs.declared.texts.RecordText.{RecordText}
use Rattle.kp_folder.specs.Bad.{IsStop, NoRecord}
use Rattle.kp_folder.specs.Files.{Files, IsFile, record_name}
use Rattle.kp_folder.specs.Left.{HasRecord}
use Rattle.kp_folder.specs.declared.fault.FolderFault.{FolderFault}
use Rattle.kp_folder.specs.declared.fault.FolderFault.TheVariants.{BadFile}
use Rattle.kp_folder.specs.declared.fault.KeptFile.TheVariants.{Record}

-- what is said of them, by what else is
pub known_so : (known : Option Files) (P Q : Files → Type 0) → ((files : Files) → P files → Q files) → IfSome known P → IfSome known Q
known_so None P Q f p = tt
known_so (Some files) P Q f p = f files p

-- the same by two things
pub known_both : (known : Option Files) (P Q R : Files → Type 0) → ((files : Files) → P files → Q files → R files) → IfSome known P → IfSome known Q → IfSome known R
known_both None P Q R f p q = tt
known_both (Some files) P Q R f p q = f files p q

-- they are the same in a folder that was read
pub still : (old new : Option Files) (P : Files → Type 0) → new ≡ old → IfSome new P → IfSome old P
still old new P same p = subst (λ (known : Option Files). IfSome known P) same p

-- a fault that a `?` hands on, and what it comes to
pub fault_on : {A : Type 0} (r : Result A FolderFault) (f : FolderFault) (known : Option Files) (P Q : Files → FolderFault → Type 0) → IsErrAnd r (λ e. e ≡ f)
    → ((files : Files) → P files f → Q files f) → IsStop f ⊎ IfSome known (λ files. P files f) → IfErr r (λ fault. IsStop fault ⊎ IfSome known (λ files. Q files fault))
fault_on r f known P Q is so bad =
    let e = err_from_is_err_and r is in
    subst (λ (x : Result _ FolderFault). IfErr x (λ fault. IsStop fault ⊎ IfSome known (λ files. Q files fault))) (sym (e.1 ∙ ap Err e.2))
    (⊎_elim (λ stop. inl stop) (λ some. inr (known_so known (λ files. P files f) (λ files. Q files f) so some)) bad)

-- ---- the record

some_same : (xs ys : List ℕ) (o : Option (List ℕ)) → Some xs ≡ o → o ≡ Some ys → xs ≡ ys
some_same xs ys o a b = let both : Some xs ≡ Some ys = a ∙ b in cc

-- bytes that are no record's
pub no_record : (known : Option Files) (count : ℕ) (bytes : Vec ℕ) → IsFile known record_name (Some bytes)
    → ((kept : SpelledRecord) → IsRecordInRange kept → bytes.items ≢ record_text kept) → IfSome known (λ files. NoRecord files count (BadFile Record))
no_record None count bytes found none = tt
no_record (Some files) count bytes found none = (refl, λ c sent has. none _ has.0 (some_same bytes.items _ (files record_name) found has.1))

-- bytes of a record that doesn't say this
pub other_record : (known : Option Files) (count : ℕ) (bytes : Vec ℕ) (kept : RecordText) → HasOneRecord → IsFile known record_name (Some bytes)
    → bytes.items ≡ record_text (seen_record kept) → IsRecordInRange (seen_record kept) → (kept.nodes ≡ count → ⊥)
    → IfSome known (λ files. NoRecord files count (BadFile Record))
other_record None count bytes kept one found spelled range other = tt
other_record (Some files) count bytes kept one found spelled range other = (
  refl,
  λ c sent has.
      let same = one (seen_record kept) _ range has.0 (sym spelled ∙ some_same bytes.items _ (files record_name) found has.1) in
      other (ap (λ (r : SpelledRecord). r.nodes) same),
)

-- bytes of the record
pub has_record : (known : Option Files) (count : ℕ) (bytes : Vec ℕ) (kept : RecordText) → IsFile known record_name (Some bytes)
    → bytes.items ≡ record_text (seen_record kept) → IsRecordInRange (seen_record kept) → kept.nodes ≡ count
    → IfSome known (λ files. HasRecord files count (record_of kept.controller) kept.messages)
has_record None count bytes kept found spelled range nodes = tt
has_record (Some files) count bytes kept found spelled range nodes =
    let same : seen_record kept ≡ record { nodes = count; controller = record_of kept.controller; messages = kept.messages } =
    λ i. record { nodes = nodes i; controller = record_of kept.controller; messages = kept.messages } in
    (subst IsRecordInRange same range, sym found ∙ ap Some (spelled ∙ ap record_text same))
