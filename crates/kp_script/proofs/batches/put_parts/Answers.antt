use Rattle.std.proofs.Common.{◌≡◌, ℕ, List, [], ◌∷◌, ◌++◌, sym, ap, ◌∙◌, append_assoc}
use Rattle.std.specs.Prelude.{map}
use Rattle.std.proofs.lemmas.List.{map-append}
use Rattle.kp_record.specs.Made.{plain_record, record_made}
use Rattle.kp_record.specs.Record.{Record}
use Rattle.kp_words.specs.Words.{pieces}
use Rattle.kp_words.proofs.Commas.{one_piece, first_piece}
use Rattle.kp_script.proofs.batches.put_parts.Goals as goal

pub loop-value-preserved : goal.loop-value-preserved
loop-value-preserved c =
    let made = map record_made c.loop-value.parts.items in
    let time = c.args.time in
    let value = c.in-Some.value.now in
    let after = c.in-Some.after.now in
    let found = c.in-Some.ensures.found in
    let split : pieces c.loop-value.rest.now ≡ value ∷ pieces after = ap pieces found.0 ∙ first_piece value after found.1 in
    ap (λ (rs : List Record). rs ++ map (plain_record time) (pieces after))
    (ap (map record_made) c.in_ok-push.ensures.items ∙ map-append record_made c.loop-value.parts.items (c.part_of.result ∷ []) ∙ ap (λ (r : Record). made ++ r ∷ []) c.part_of.ensures)
    ∙ append_assoc made (plain_record time value ∷ []) (map (plain_record time) (pieces after))
    ∙ ap (λ (ps : List (List ℕ)). made ++ map (plain_record time) ps) (sym split)
    ∙ c.loop-value.invariant

pub returns : goal.returns
returns c =
    let made = map record_made c.loop-value.parts.items in
    let time = c.args.time in
    let rest = c.loop-value.rest.now in
    ap (map record_made) c.in_ok-push-2.ensures.items ∙ map-append record_made c.loop-value.parts.items (c.part_of-2.result ∷ [])
    ∙ ap (λ (r : Record). made ++ r ∷ []) c.part_of-2.ensures
    ∙ ap (λ (ps : List (List ℕ)). made ++ map (plain_record time) ps) (sym (one_piece rest c.in_default.ensures.none))
    ∙ c.loop-value.invariant
