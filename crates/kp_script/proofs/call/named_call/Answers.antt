use Rattle.std.proofs.Common.{◌∙◌}
use Rattle.kp_words.proofs.Options.{none_weaker}
use Rattle.kp_script.proofs.Verbs.{found_with, names_node, no_fields_with}
use Rattle.kp_script.proofs.call.named_call.Goals as goal

pub returns-in-Some-clause-found : goal.returns-in-Some-clause-found
returns-in-Some-clause-found c =
    found_with c.node_call.result c.args.count c.in-Some.node c.args.verb.now c.args.fields.now c.in-Some.ensures.found.0 c.in-Some.ensures.found.1 c.node_call.ensures.found

pub returns-in-Some-clause-none : goal.returns-in-Some-clause-none
returns-in-Some-clause-none c =
    none_weaker c.node_call.result _ _ (λ other none. no_fields_with c.args.count c.args.verb.now c.args.fields.now none other) c.node_call.ensures.none

pub returns-in-None-clause-none : goal.returns-in-None-clause-none
returns-in-None-clause-none c = λ none call range v e.
    let named = names_node c.args.count c.args.verb.now none call range v in
    c.in-None.ensures.none named.node named.within (e ∙ named.fields)
