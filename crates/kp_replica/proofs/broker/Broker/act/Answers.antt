use Rattle.std.proofs.Common.{sym, subst}
use Rattle.kp_model.specs.Event.{Act as ModelAct}
use Rattle.kp_model.specs.Set.{record_of}
use Rattle.kp_replica.specs.Acts.{Acts, IsAct}
use Rattle.kp_replica.specs.Broker.{node_at}
use Rattle.kp_replica.specs.declared.act.Act.{Act}
use Rattle.kp_replica.proofs.broker.Broker.act.Goals as goal

pub returns-in-Plain-clause-acts : goal.returns-in-Plain-clause-acts
returns-in-Plain-clause-acts c = λ a is.
    let old = node_at c.args.self.now in
    let same = subst (λ (act : Act). IsAct old.limits.max_batch act a) c.in-Plain.is is in
    subst (λ (b : ModelAct). Acts (record_of c.args.controller.now) old (node_at c.perform.new.self) b c.perform.result) (sym same) c.perform.ensures.acts
