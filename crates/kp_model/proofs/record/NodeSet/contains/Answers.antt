use Rattle.std.proofs.Common.{ℕ, Bool, Option, false, get_or, sym, ap, ◌∙◌, arith, zero-add}
use Rattle.std.specs.Option.{unwrap_or}
use Rattle.kp_model.specs.Controller.{is_member}
use Rattle.kp_model.specs.Set.{members_of}
use Rattle.kp_model.proofs.Plain.Numbers.{has_at}
use Rattle.kp_model.proofs.record.NodeSet.contains.Goals as goal

pub returns-clause-value : goal.returns-clause-value
returns-clause-value c =
    let places = c.args.self.now.members in
    c.unwrap_or.ensures ∙ ap (λ (o : Option Bool). unwrap_or o false) c.copied.ensures
    ∙ c.get.ensures.lookup.4 (omega arith) false ∙ ap (λ (k : ℕ). get_or places k false) c.from.ensures
    ∙ sym (has_at 0 places c.args.node) ∙ ap (λ (k : ℕ). is_member k (members_of c.args.self.now)) (zero-add c.args.node)
