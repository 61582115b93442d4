use Rattle.std.proofs.Common.{◌≡◌, ℕ, [], ◌∷◌, List, IfOk, map, refl, sym, ap, subst, arith}
use Rattle.std.proofs.lemmas.Result.{IfOk-weaker}
use Rattle.kp_record.specs.Made.{plain_record, record_made}
use Rattle.kp_record.specs.Record.{Record}
use Rattle.kp_script.specs.Call.{Append}
use Rattle.kp_script.specs.Seen.{seen_sender}
use Rattle.kp_script.specs.Told.{HandsIn, offer_of}
use Rattle.kp_script.specs.Transcript.{largest_batch}
use Rattle.kp_script.proofs.Values.{seen_lone}
use Rattle.kp_script.proofs.Appending.{no_cause, lacks}
use Rattle.kp_script.proofs.Sizes.{records_least, records_length}
use Rattle.kp_script.proofs.Offers.{large_offer, offers}
use Rattle.kp_script.proofs.batches.batch_of.Goals as goal

pub returns-clause-only : goal.returns-clause-only
returns-clause-only c =
    let time = c.args.time in
    let value = c.args.values.now in
    let records : map record_made (c.part_of.result ∷ []) ≡ plain_record time value ∷ [] = ap (λ (r : Record). r ∷ []) c.part_of.ensures in
    let none = no_cause time (seen_sender c.args.sender) c.args.transactional (value ∷ []) (c.part_of.result ∷ []) records (omega arith) c.requires.early
    (omega (arith, records_length time 0 (value ∷ []) (omega arith), c.requires.short)) in
    let refused = rw (c.fields_of.ensures) at c.spell.ensures.refused in
    lacks _ c.spell.result none refused

pub returns-clause-told : goal.returns-clause-told
returns-clause-told c =
    let time = c.args.time in
    let sender = seen_sender c.args.sender in
    let transactional = c.args.transactional in
    let value = c.args.values.now in
    let parts = c.part_of.result ∷ [] in
    let records : map record_made parts ≡ plain_record time value ∷ [] = ap (λ (r : Record). r ∷ []) c.part_of.ensures in
    let spelled = rw (c.fields_of.ensures) at c.spell.ensures.spelled in
    let offer = offer_of largest_batch time sender transactional (value ∷ []) in
    subst (λ (vs : List (List ℕ)). IfOk c.spell.result (λ bytes. (node : ℕ) → HandsIn largest_batch (Append node time sender transactional vs) bytes))
    (sym (seen_lone c.args.lone value c.if-not-lone.false))
    (IfOk-weaker c.spell.result _ _
    (λ bytes is node. record { offer = offer; told = refl; is = offers largest_batch bytes time sender transactional (value ∷ []) parts c.requires.sender records (is largest_batch) }) spelled)

-- without the batch
pub returns-then-values-clause-told : goal.returns-then-values-clause-told
returns-then-values-clause-told c = λ node.
    let time = c.args.time in
    let sender = seen_sender c.args.sender in
    let transactional = c.args.transactional in
    let value = c.args.values.now in
    let offer = offer_of largest_batch time sender transactional (value ∷ []) in
    let large = large_offer c.too_large.result time sender transactional (value ∷ []) c.too_large.ensures (omega (arith, records_least time 0 (value ∷ []) (omega arith))) in
    subst (λ (vs : List (List ℕ)). HandsIn largest_batch (Append node time sender transactional vs) c.too_large.result)
    (sym (seen_lone c.args.lone value c.if-not-lone.false))
    (record { offer = offer; told = refl; is = large })
