use Rattle.std.proofs.Common.{◌≡◌, map, refl, ap, ◌∙◌}
use Rattle.std.proofs.lemmas.Result.{IfOk-weaker}
use Rattle.kp_record.specs.Made.{plain_record, record_made}
use Rattle.kp_words.specs.Words.{pieces}
use Rattle.kp_script.specs.Seen.{seen_sender}
use Rattle.kp_script.specs.Told.{offer_of}
use Rattle.kp_script.specs.Transcript.{largest_batch}
use Rattle.kp_words.proofs.Commas.{some_piece}
use Rattle.kp_script.proofs.Sizes.{line_size}
use Rattle.kp_script.proofs.Appending.{no_cause, lacks}
use Rattle.kp_script.proofs.Offers.{large_offer, offers}
use Rattle.kp_script.proofs.batches.batch_of_pieces.Goals as goal

pub returns-clause-only : goal.returns-clause-only
returns-clause-only c =
    let time = c.args.time in
    let values = c.args.values.now in
    let records : map record_made c.as_slice.result.now ≡ map (plain_record time) (pieces values) = ap (map record_made) c.as_slice.ensures.value ∙ c.in_ok-put_parts.ensures in
    let none = no_cause time (seen_sender c.args.sender) c.args.transactional (pieces values) c.as_slice.result.now records (some_piece values) c.requires.early (line_size time values c.requires.short) in
    let refused = rw (c.fields_of.ensures) at c.spell.ensures.refused in
    lacks _ c.spell.result none refused

pub returns-clause-told : goal.returns-clause-told
returns-clause-told c =
    let time = c.args.time in
    let sender = seen_sender c.args.sender in
    let transactional = c.args.transactional in
    let values = pieces c.args.values.now in
    let parts = c.as_slice.result.now in
    let records : map record_made parts ≡ map (plain_record time) values = ap (map record_made) c.as_slice.ensures.value ∙ c.in_ok-put_parts.ensures in
    let spelled = rw (c.fields_of.ensures) at c.spell.ensures.spelled in
    let offer = offer_of largest_batch time sender transactional values in
    IfOk-weaker c.spell.result _ _
    (λ bytes is node. record { offer = offer; told = refl; is = offers largest_batch bytes time sender transactional values parts c.requires.sender records (is largest_batch) }) spelled

-- without the batch
pub returns-then-are_too_many-clause-told : goal.returns-then-are_too_many-clause-told
returns-then-are_too_many-clause-told c = λ node.
    let time = c.args.time in
    let sender = seen_sender c.args.sender in
    let transactional = c.args.transactional in
    let values = pieces c.args.values.now in
    let offer = offer_of largest_batch time sender transactional values in
    let large = large_offer c.too_large.result time sender transactional values c.too_large.ensures (c.are_too_many.ensures c.if-are_too_many.true time) in
    record { offer = offer; told = refl; is = large }
