-- What a message's letter says of it.
use Rattle.std.proofs.Common.{◌≡◌, ℕ, Bool, true, false, List, [], Option, None, refl, sym, ap, ◌∙◌}
use Rattle.std.specs.Prelude.{if◌then◌else◌}
use Rattle.kp_model.specs.Log.{Batch}
use Rattle.kp_model.specs.World.{Answer}
use Rattle.kp_model.specs.Letter.{Answering, Batches, Diverging, answering_of}
use Rattle.kp_model.specs.Fetching.{piece, epoch_answer, is_covered}

has_batches : Answering → Bool
has_batches (Batches bs mark) = true
has_batches (Diverging end) = false

batches_in : Answering → List Batch
batches_in (Batches bs mark) = bs
batches_in (Diverging end) = []

mark_in : Answering → ℕ
mark_in (Batches bs mark) = mark
mark_in (Diverging end) = 0

end_in : Answering → Option (ℕ × ℕ)
end_in (Batches bs mark) = None
end_in (Diverging end) = end

abbrev answered : Answer → Bool → Answering
answered a b = if b then Batches (piece a.log a.request) a.watermark else Diverging (epoch_answer a.log a.request)

covered_by : (a : Answer) (b : Bool) → has_batches (answered a b) ≡ b
unfolding has_batches
covered_by a true = refl
covered_by a false = refl

-- the answer hands over these batches, with this watermark
pub record Hands (a : Answer) (batches : List Batch) (watermark : ℕ) : Type 0 where
  pub covered : is_covered a.log a.request ≡ true
  pub batches_are : piece a.log a.request ≡ batches
  pub mark_is : a.watermark ≡ watermark

pub hands : (a : Answer) (batches : List Batch) (watermark : ℕ) → answering_of a ≡ Batches batches watermark → Hands a batches watermark
unfolding has_batches batches_in mark_in
hands a batches watermark e =
    let covered : is_covered a.log a.request ≡ true = sym (covered_by a (is_covered a.log a.request)) ∙ ap has_batches e in
    let is : answered a true ≡ Batches batches watermark = sym (ap (answered a) covered) ∙ e in
    record { covered = covered; batches_are = ap batches_in is; mark_is = ap mark_in is }

-- the answer tells this end of the asked epoch
pub record Tells (a : Answer) (end : Option (ℕ × ℕ)) : Type 0 where
  pub covered : is_covered a.log a.request ≡ false
  pub end_is : epoch_answer a.log a.request ≡ end

pub tells : (a : Answer) (end : Option (ℕ × ℕ)) → answering_of a ≡ Diverging end → Tells a end
unfolding has_batches end_in
tells a end e =
    let covered : is_covered a.log a.request ≡ false = sym (covered_by a (is_covered a.log a.request)) ∙ ap has_batches e in
    record { covered = covered; end_is = ap end_in (sym (ap (answered a) covered) ∙ e) }
