use Rattle.std.proofs.Common.{ℕ, sym, ◌∙◌, subst}
use Rattle.kp_model.specs.Set.{record_of}
use Rattle.kp_model.specs.Step.{IsInRange}
use Rattle.kp_texts.specs.Texts.{messages_line}
use Rattle.kp_texts.specs.Reading.{controller_front}
use Rattle.kp_texts.proofs.RecordFronts.{after_controller, record_is, same_nodes}
use Rattle.kp_texts.proofs.records.record_in.Goals as goal

pub returns-in_default-clause-none : goal.returns-in_default-clause-none
returns-in_default-clause-none c = λ kept range e.
    c.in_default.ensures.none kept.nodes (controller_front kept.controller (messages_line kept.messages)) range.least range.most (e ∙ sym (record_is kept))

pub returns-in_default-controller_then-clause-none : goal.returns-in_default-controller_then-clause-none
returns-in_default-controller_then-clause-none c = λ kept range e.
    let found = c.in-Some.ensures.found in
    let same = same_nodes c.args.lines.now c.in-Some.rest.now (controller_front kept.controller (messages_line kept.messages)) c.in-Some.nodes kept.nodes found.2 range.most found.0 (e ∙ sym (record_is kept)) in
    c.in_default-controller_then.ensures.none kept.controller (messages_line kept.messages) (subst (λ (n : ℕ). IsInRange n kept.controller) (sym same.0) range.controller) same.1

pub returns-in-None-clause-none : goal.returns-in-None-clause-none
returns-in-None-clause-none c = λ kept range e.
    let found = c.in-Some.ensures.found in
    let controller = c.in-Some-controller_then in
    let same = same_nodes c.args.lines.now c.in-Some.rest.now (controller_front kept.controller (messages_line kept.messages)) c.in-Some.nodes kept.nodes found.2 range.most found.0 (e ∙ sym (record_is kept)) in
    let rest = after_controller c.in-Some.nodes (record_of controller.controller) kept.controller c.in-Some.rest.now controller.rest.now (messages_line kept.messages) found.2 controller.ensures.found.1
    (subst (λ (n : ℕ). IsInRange n kept.controller) (sym same.0) range.controller) controller.ensures.found.0 same.1 in
    c.in-None.ensures.none kept.messages range.messages rest
