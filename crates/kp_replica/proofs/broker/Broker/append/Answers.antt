use Rattle.std.proofs.Common.{refl, sym, subst}
use Rattle.kp_model.specs.Event.{Produce, Reply}
use Rattle.kp_replica.specs.Acts.{answered_reply}
use Rattle.kp_replica.specs.Broker.{node_at}
use Rattle.kp_replica.specs.NumberedNode.{DoesUnder}
use Rattle.kp_replica.specs.Replies.{IsReceiptOf, receipt_reply}
use Rattle.kp_replica.specs.declared.act.Answer.{Answer}
use Rattle.kp_replica.specs.declared.act.Answer.TheVariants as answers
use Rattle.kp_replica.specs.declared.act.Effect.{Effect}
use Rattle.kp_replica.specs.declared.act.Effect.TheVariants.{Answers}
use Rattle.kp_replica.specs.declared.producing.Receipt.{Receipt}
use Rattle.kp_replica.proofs.Acting.{answered, made_twice, mapped}
use Rattle.kp_replica.proofs.broker.Broker.append.Goals as goal

pub returns-clause-acts : goal.returns-clause-acts
returns-clause-acts c = λ shown offer is k under of.
    let old = node_at c.args.self.now in
    let new = node_at c.produce.new.self in
    let reply = mapped Receipt answers.Appended receipt_reply _ c.produce.result c.map-answered.result (λ x a h. h) (λ x. refl) (λ f. refl) c.map-answered.ensures.cases in
    let does : DoesUnder k old new (Produce offer) (answered_reply c.map-answered.result) =
    subst (λ (r : Reply). DoesUnder k old new (Produce offer) r) (sym reply) (c.produce.ensures.event offer is k) in
    answered k old new (Produce offer) c.map-answered.result c.map.result does c.map.ensures.cases

pub returns-clause-fits : goal.returns-clause-fits
returns-clause-fits c =
    made_twice Receipt Answer Effect answers.Appended Answers (IsReceiptOf (node_at c.args.self.now).limits.max_batch c.args.bytes (node_at c.produce.new.self).state.log) c.produce.result c.map-answered.result
    c.map.result c.map-answered.ensures.cases c.map.ensures.cases c.produce.ensures.receipt
