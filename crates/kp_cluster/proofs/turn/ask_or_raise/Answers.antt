use Rattle.std.proofs.Common.{of_calls, subst, Err}
use Rattle.kp_types.specs.declared.refusal.Refusal.{Refusal}
use Rattle.kp_types.specs.declared.refusal.Refusal.TheVariants.{NotLeader}
use Rattle.kp_node.specs.MessageCalls.{Asks}
use Rattle.kp_cluster.proofs.turn.ask_or_raise.Goals as goal
use Rattle.kp_cluster.proofs.turn.ask_or_raise.Goals.{in-Ok-1, in-Err-raise+in-NotLeader-1}

pub returns-in-Err-raise : goal.returns-in-Err-raise
returns-in-Err-raise g c =
    let asked = subst (λ (r : Refusal). Asks c.args.node.now c.ask.new.self (Err r)) c.in-Err-NotLeader.field-0-is c.in-Err-NotLeader.ensures in
    (Err NotLeader, c.ask.new.self, asked, (c.raise.result, c.raise.ensures, search of_calls))

pub returns-in-Ok-raise : goal.returns-in-Ok-raise
returns-in-Ok-raise g c =
    let asked = subst (λ (r : Refusal). Asks c.args.node.now c.ask.new.self (Err r)) c.in-Err-NotLeader.field-0-is c.in-Err-NotLeader.ensures in
    elim c.in-Ok-raise-1.branch [
      | in-Ok-1 w ↦ (Err NotLeader, c.ask.new.self, asked, (c.raise.result, c.raise.ensures, search of_calls))
      | in-Err-raise+in-NotLeader-1 w ↦ (Err NotLeader, c.ask.new.self, asked, (c.raise.result, c.raise.ensures, search of_calls))
    ]
