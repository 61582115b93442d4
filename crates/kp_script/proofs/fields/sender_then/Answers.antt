use Rattle.std.proofs.Common.{◌^◌, ◌≡◌, ◌∙◌, ◌++◌, ◌∷◌, List, ℕ, sym, ap, arith, subst}
use Rattle.kp_script.specs.Call.{Sender, IsSender, signed_text}
use Rattle.kp_script.specs.Read.{sender_front}
use Rattle.kp_script.proofs.Senders.{same_signed}
use Rattle.kp_script.proofs.fields.sender_then.Goals as goal

pub returns-in_default-signed_then-clause-none : goal.returns-in_default-signed_then-clause-none
returns-in_default-signed_then-clause-none c = λ sender rest is e.
    let found = c.in-Some.ensures.found in
    let first = same_signed (2 ^ 63) c.args.bytes.now c.in-Some.producer sender.producer c.in-Some.rest.now _ (omega arith) found.1 is.producer found.0 e in
    c.in_default-signed_then.ensures.none sender.epoch _ is.epoch first.1

pub returns-in_default-signed_then-2-clause-none : goal.returns-in_default-signed_then-2-clause-none
returns-in_default-signed_then-2-clause-none c = λ sender rest is e.
    let found = c.in-Some.ensures.found in
    let first = same_signed (2 ^ 63) c.args.bytes.now c.in-Some.producer sender.producer c.in-Some.rest.now _ (omega arith) found.1 is.producer found.0 e in
    let next = c.in-Some-signed_then.ensures.found in
    let second = same_signed (2 ^ 15) c.in-Some.rest.now c.in-Some-signed_then.epoch sender.epoch c.in-Some-signed_then.rest.now _ (omega arith) next.1 is.epoch next.0 first.1 in
    c.in_default-signed_then-2.ensures.none sender.sequence rest is.sequence second.1

pub returns-clause-found : goal.returns-clause-found
returns-clause-found c =
    let first = c.in-Some.ensures.found in
    let second = c.in-Some-signed_then.ensures.found in
    let third = c.in-Some-signed_then-2.ensures.found in
    let producer = signed_text c.in-Some.producer in
    let epoch = signed_text c.in-Some-signed_then.epoch in
    subst (λ (sender : Sender). (c.args.bytes.now ≡ sender_front sender c.in-Some-signed_then-2.rest.now) × IsSender sender) (sym c.new.ensures) (
      first.0 ∙ ap (λ (rest : List ℕ). producer ++ 32 ∷ rest) (second.0 ∙ ap (λ (rest : List ℕ). epoch ++ 32 ∷ rest) third.0),
      record { producer = first.1; epoch = second.1; sequence = third.1 },
    )
