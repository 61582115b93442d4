use Rattle.std.proofs.Common.{◌≡◌, [], ◌∷◌, map, Some, None, refl}
use Rattle.std.proofs.lemmas.Result.{IfOk-weaker}
use Rattle.kp_record.specs.Made.{plain_record, record_made}
use Rattle.kp_record.specs.declared.parts.Parts.{Parts}
use Rattle.kp_script.specs.Seen.{seen_sender}
use Rattle.kp_script.specs.Told.{offer_of}
use Rattle.kp_script.specs.Transcript.{largest_batch}
use Rattle.kp_script.proofs.Offers.{offers}
use Rattle.kp_script.proofs.batches.batch_of_value.Goals as goal

pub returns-clause-told : goal.returns-clause-told
returns-clause-told c =
    let time = c.args.time in
    let sender = seen_sender c.args.sender in
    let transactional = c.args.transactional in
    let value = c.args.value.now in
    let one : Parts = record { timestamp = time; key = None; value = Some (record { ref_ptr = (0, 0); now = value }); headers = record { ref_ptr = (0, 0); now = [] } } in
    let records : map record_made (one ∷ []) ≡ plain_record time value ∷ [] = refl in
    let spelled = rw (c.fields_of.ensures) at c.spell_value.ensures.spelled in
    let offer = offer_of largest_batch time sender transactional (value ∷ []) in
    IfOk-weaker c.spell_value.result _ _
    (λ bytes is node. record { offer = offer; told = refl; is = offers largest_batch bytes time sender transactional (value ∷ []) (one ∷ []) c.requires.sender records (is largest_batch (one ∷ []) records) }) spelled
