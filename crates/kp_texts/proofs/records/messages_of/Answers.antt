use Rattle.std.proofs.Common.{◌≢◌, [], codes, length, ap, sym, ◌∙◌, arith}
use Rattle.std.proofs.lemmas.Bool.{eqb-false}
use Rattle.kp_words.proofs.Numbers.{same_between}
use Rattle.kp_texts.proofs.Fronts.{feed}
use Rattle.kp_texts.proofs.RecordFronts.{not_messages}
use Rattle.kp_texts.proofs.records.messages_of.Goals as goal

pub returns-in_default-clause-none : goal.returns-in_default-clause-none
returns-in_default-clause-none c =
    let rest = c.args.rest.now in
    let some : length rest ≢ 0 = eqb-false (length rest) 0 (sym c.is_empty.ensures ∙ c.if-is_empty.false) in
    let more : length c.in-Some.others.now ≢ 0 = eqb-false (length c.in-Some.others.now) 0 (sym c.if-is_empty-2.ensures) in
    not_messages rest (λ none. some (ap length none)) (λ n fits e.
    let found = c.in-Some.ensures.found in
    let same = same_between (codes "messages ") rest 10 c.in-Some.number n c.in-Some.others.now [] feed (omega (arith, found.1, c.from.ensures)) (omega (arith, fits)) found.0 e in
    more (ap length same.1))
