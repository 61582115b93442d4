use Rattle.std.proofs.Common.{◌≡◌, List, ℕ, sym, ◌∙◌, subst, refl}
use Rattle.kp_replica.specs.Replies.{IsOffer}
use Rattle.kp_script.specs.Hex.{bytes_of}
use Rattle.kp_script.specs.Transcript.{largest_batch}
use Rattle.kp_script.proofs.HexLaws.{bytes_small}
use Rattle.kp_script.proofs.batches.raw_bytes.Goals as goal

pub returns-clause-told : goal.returns-clause-told
returns-clause-told c = λ node.
    let digits = c.args.digits.now in
    let o = c.bytes_are_an_offer.ensures.some largest_batch (bytes_of digits) (bytes_small digits) in
    let same : c.raw.result ≡ bytes_of digits = c.raw.ensures ∙ c.in_ok-bytes.ensures.ok ∙ c.in_ok-bytes_of.ensures in
    record { offer = o.0; told = (o.0, o.1, refl); is = subst (λ (bytes : List ℕ). IsOffer largest_batch bytes o.0) (sym same) o.1 }
