-- Laws of what bytes hand in.
use Rattle.std.specs.Prelude.{◌≡◌, ℕ, List, Result}
use Rattle.kp_types.specs.declared.refusal.Refusal.{Refusal}
use Rattle.kp_record.specs.Record.{AreBytes}
use Rattle.kp_batch.specs.Batch.{Body}
use Rattle.kp_replica.specs.Replies.{IsOffer}

-- All bytes hand in something.
abbrev pub BytesAreAnOffer : Type 0
BytesAreAnOffer =
    (max : ℕ) (bytes : List ℕ) → AreBytes bytes → (offer : Result Body Refusal) × IsOffer max bytes offer

-- And nothing else beside it.
abbrev pub OffersAreOne : Type 0
OffersAreOne =
    (max : ℕ) (bytes : List ℕ) (offer other : Result Body Refusal) → AreBytes bytes → IsOffer max bytes offer →
    IsOffer max bytes other → offer ≡ other
