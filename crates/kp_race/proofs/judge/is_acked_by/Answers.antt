use Rattle.std.proofs.Common.{sym, subst, ◌∙◌}
use Rattle.kp_model.specs.Beginning.{Begins}
use Rattle.kp_model.specs.Run.{held}
use Rattle.kp_node.specs.Acks.{is_receipts}
use Rattle.kp_race.proofs.Acked.{acked_any, any_begins}
use Rattle.kp_race.proofs.judge.is_acked_by.Goals as goal

pub returns-in-Ok-clause-stands : goal.returns-in-Ok-clause-stands
returns-in-Ok-clause-stands g c =
    λ told_so.
    let x = c.args.node.now.node.state in
    let told = subst (λ (y : _). Begins (held y) c.acked.new.caller.seen) c.log-log.ensures.shown c.in-Ok.ensures.saw.1.told in
    any_begins (is_receipts c.args.receipt.now) told (acked_any x c.args.receipt.now (sym c.in-Ok.ensures.answer ∙ c.is_yes.ensures told_so))
