-- What bytes hand in, by what reading them answered.
use Rattle.std.proofs.Common.{◌≡◌, ℕ, List, [], ◌++◌, Result, Ok, Err, refl, sym, ap, ◌∙◌, inl, inr}
use Rattle.kp_types.specs.declared.refusal.Refusal.{Refusal}
use Rattle.kp_batch.specs.Batch.{Body, Written}
use Rattle.kp_batch.specs.Laws.{IsBatch, BatchesStandApart, BytesAreJudged, JudgedOnce}
use Rattle.kp_batch.specs.Reading.{IsFirstFault}
use Rattle.kp_replica.specs.Offers.{BytesAreAnOffer, OffersAreOne}
use Rattle.kp_replica.specs.Replies.{IsOffer}

-- ---- what reading answered

abbrev pub IsComplete : ℕ → List ℕ → Result Written Refusal → Type 0
IsComplete max bytes result = (w : Written) → IsBatch max bytes w → result ≡ Ok w

abbrev pub IsFirst : ℕ → List ℕ → Result Written Refusal → Type 0
IsFirst max bytes result = (refusal : Refusal) → IsFirstFault max bytes refusal → result ≡ Err refusal

apart : (w : Written) (fault : Refusal) → Ok w ≡ Err fault → ⊥
apart w fault e = cc

same_batch : (v w : Written) (result : Result Written Refusal) → result ≡ Ok v → result ≡ Ok w → v ≡ w
same_batch v w result e f = cc

same_fault : (f g : Refusal) (result : Result Written Refusal) → result ≡ Err f → result ≡ Err g → f ≡ g
same_fault f g result e h = cc

pub offered_fault : (max : ℕ) (bytes : List ℕ) (fault : Refusal) (offer : Result Body Refusal) → IsComplete max bytes (Err fault) → IsFirst max bytes (Err fault) → IsOffer max bytes offer → offer ≡ Err fault
offered_fault max bytes fault (Ok body) complete first (w, is, same) = absurd (apart w fault (sym (complete w is)))
offered_fault max bytes fault (Err f) complete first h = ap Err (sym (same_fault fault f (Err fault) refl (first f h)))

pub offered_body : (max : ℕ) (bytes : List ℕ) (w : Written) (offer : Result Body Refusal) → IsComplete max bytes (Ok w) → IsFirst max bytes (Ok w) → IsOffer max bytes offer → offer ≡ Ok w.body
offered_body max bytes w (Ok body) complete first (v, is, same) =
    ap Ok (sym (ap (λ (u : Written). u.body) (same_batch w v (Ok w) refl (complete v is)) ∙ same))
offered_body max bytes w (Err f) complete first h = absurd (apart w f (first f h))

-- a batch that the bytes hand in is the one that was read
pub same_body : (max : ℕ) (bytes : List ℕ) (w : Written) (body : Body) → IsComplete max bytes (Ok w) → IsFirst max bytes (Ok w) → IsOffer max bytes (Ok body) → body ≡ w.body
same_body max bytes w body complete first is =
    let same : Ok body ≡ Ok w.body = offered_body max bytes w (Ok body) complete first is in
    is_body (Ok w.body) same refl
  where
    is_body : (offer : Result Body Refusal) → Ok body ≡ offer → offer ≡ Ok w.body → body ≡ w.body
    is_body offer e f = cc

-- ---- all bytes hand in one thing

pub some_offer : BytesAreJudged → BytesAreAnOffer
some_offer judged max bytes are = elim (judged max bytes are) [
  | inl h ↦ (Ok h.0.body, (h.0, h.1, refl))
  | inr h ↦ (Err h.0, h.1)
]

one_batch : BatchesStandApart → (max : ℕ) (bytes : List ℕ) (v w : Written) → IsBatch max bytes v → IsBatch max bytes w → v ≡ w
one_batch stand max bytes v w a b =
    (stand v w [] [] a.spelled.lawful b.spelled.lawful (ap (λ (xs : List ℕ). xs ++ []) (sym a.spelled.same ∙ b.spelled.same))).0

pub one_offer : BatchesStandApart → JudgedOnce → OffersAreOne
one_offer stand once max bytes (Ok a) (Ok b) are (v, is_a, a_is) (w, is_b, b_is) =
    ap Ok (sym a_is ∙ ap (λ (u : Written). u.body) (one_batch stand max bytes v w is_a is_b) ∙ b_is)
one_offer stand once max bytes (Ok a) (Err g) are (v, is, same) h = absurd ((once max bytes g are h).0 v is)
one_offer stand once max bytes (Err f) (Ok b) are h (w, is, same) = absurd ((once max bytes f are h).0 w is)
one_offer stand once max bytes (Err f) (Err g) are h k = ap Err ((once max bytes g are k).1 f h)
