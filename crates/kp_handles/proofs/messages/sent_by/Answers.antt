use Rattle.std.proofs.Common.{sym, subst}
use Rattle.std.specs.Prelude.{Option}
use Rattle.kp_board.specs.Posts.{post_of}
use Rattle.kp_replica.specs.declared.altering.IsrChange.{IsrChange}
use Rattle.kp_handles.specs.Messages.{Sends}
use Rattle.kp_handles.proofs.messages.sent_by.Goals as goal

pub returns-in-None : goal.returns-in-None
returns-in-None g c = subst (λ (o : Option IsrChange). Sends o c.args.node.now c.ask.new.self (post_of c.ask.result)) (sym c.in-None.is) c.ask.ensures

pub returns-in-Some : goal.returns-in-Some
returns-in-Some g c = subst (λ (o : Option IsrChange). Sends o c.args.node.now c.alter.new.self (post_of c.alter.result)) (sym c.in-Some.is) c.alter.ensures
