use Rattle.std.proofs.Common.{◌≡◌, ℕ, List, [], sym, ap, subst, ◌∙◌, refl, arith, codes}
use Rattle.std.proofs.lemmas.Bool.{false≢true}
use Rattle.std.specs.List.{list_all}
use Rattle.kp_script.specs.Call.{Append, is_value, values_text}
use Rattle.kp_words.specs.Words.{pieces}
use Rattle.kp_script.specs.Read.{AreFields}
use Rattle.kp_script.specs.Seen.{seen_sender}
use Rattle.kp_words.proofs.Numbers.{same_field}
use Rattle.kp_script.proofs.Senders.{same_sender, same_kind}
use Rattle.kp_script.proofs.Spelling.{same_rest, append_spelled}
use Rattle.kp_script.proofs.Values.{values_back}
use Rattle.kp_words.proofs.Commas.{some_piece}
use Rattle.kp_script.proofs.Verbs.{no_fields}
use Rattle.kp_script.proofs.fields.append_of.Goals as goal

pub returns-in_default-clause-none : goal.returns-in_default-clause-none
returns-in_default-clause-none c = no_fields c.args.count (codes "append") c.args.fields.now (λ node time sender transactional values range e.
    c.in_default.ensures.none node _ range.0 e)

pub returns-in_default-number_then-clause-none : goal.returns-in_default-number_then-clause-none
returns-in_default-number_then-clause-none c = no_fields c.args.count (codes "append") c.args.fields.now (λ node time sender transactional values range e.
    let found = c.in-Some.ensures.found in
    let first = same_field [] c.args.fields.now c.in-Some.node node c.in-Some.rest.now _ (omega arith) (omega (arith, range.0)) found.0 e in
    c.in_default-number_then.ensures.none time _ range.1 first.1)

pub returns-in_default-sender_then-clause-none : goal.returns-in_default-sender_then-clause-none
returns-in_default-sender_then-clause-none c = no_fields c.args.count (codes "append") c.args.fields.now (λ node time sender transactional values range e.
    let found = c.in-Some.ensures.found in
    let next = c.in-Some-number_then.ensures.found in
    let rest = same_rest c.args.fields.now c.in-Some.rest.now c.in-Some-number_then.rest.now c.in-Some.node node c.in-Some-number_then.time time _
    (omega arith) (omega (arith, range.0)) (omega arith) (omega (arith, range.1)) found.0 next.0 e in
    c.in_default-sender_then.ensures.none sender _ range.2 rest)

pub returns-in_default-kind_then-clause-none : goal.returns-in_default-kind_then-clause-none
returns-in_default-kind_then-clause-none c = no_fields c.args.count (codes "append") c.args.fields.now (λ node time sender transactional values range e.
    let found = c.in-Some.ensures.found in
    let next = c.in-Some-number_then.ensures.found in
    let rest = same_rest c.args.fields.now c.in-Some.rest.now c.in-Some-number_then.rest.now c.in-Some.node node c.in-Some-number_then.time time _
    (omega arith) (omega (arith, range.0)) (omega arith) (omega (arith, range.1)) found.0 next.0 e in
    let third = c.in-Some-sender_then.ensures.found in
    let behind = same_sender c.in-Some-number_then.rest.now (seen_sender c.in-Some-sender_then.sender) sender c.in-Some-sender_then.rest.now _ third.1 range.2 third.0 rest in
    c.in_default-kind_then.ensures.none transactional (values_text values) behind.1)

pub returns-in_default-are_lone-clause-none : goal.returns-in_default-are_lone-clause-none
returns-in_default-are_lone-clause-none c = no_fields c.args.count (codes "append") c.args.fields.now (λ node time sender transactional values range e.
    let found = c.in-Some.ensures.found in
    let next = c.in-Some-number_then.ensures.found in
    let rest = same_rest c.args.fields.now c.in-Some.rest.now c.in-Some-number_then.rest.now c.in-Some.node node c.in-Some-number_then.time time _
    (omega arith) (omega (arith, range.0)) (omega arith) (omega (arith, range.1)) found.0 next.0 e in
    let third = c.in-Some-sender_then.ensures.found in
    let behind = same_sender c.in-Some-number_then.rest.now (seen_sender c.in-Some-sender_then.sender) sender c.in-Some-sender_then.rest.now _ third.1 range.2 third.0 rest in
    let text = c.in-Some-kind_then.values.now in
    let same = same_kind c.in-Some-sender_then.rest.now c.in-Some-kind_then.transactional transactional text (values_text values) c.in-Some-kind_then.ensures.found behind.1 in
    let back : pieces text ≡ values = ap pieces same.1 ∙ values_back values range.3 range.4 in
    false≢true (sym c.in_default-are_lone.ensures.none ∙ ap (list_all is_value) back ∙ range.4))

pub returns-clause-found : goal.returns-clause-found
returns-clause-found c =
    let found = c.in-Some.ensures.found in
    let next = c.in-Some-number_then.ensures.found in
    let third = c.in-Some-sender_then.ensures.found in
    let sender = seen_sender c.in-Some-sender_then.sender in
    let values = c.in-Some-kind_then.values.now in
    let node = c.in-Some.node in
    let time = c.in-Some-number_then.time in
    let transactional = c.in-Some-kind_then.transactional in
    let lone = c.in-Some-are_lone.ensures in
    subst (λ (vs : List (List ℕ)). AreFields c.args.count (codes "append") c.args.fields.now (Append node time sender transactional vs)) (sym lone.lone) (
      (omega (arith, found), omega (arith, next), third.1, some_piece values, lone.values),
      refl,
      append_spelled c.args.fields.now c.in-Some.rest.now c.in-Some-number_then.rest.now c.in-Some-sender_then.rest.now values node time sender transactional
          found.0 next.0 third.0 c.in-Some-kind_then.ensures.found,
    )
