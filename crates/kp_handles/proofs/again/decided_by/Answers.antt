use Rattle.std.proofs.Common.{sym, ap, ◌∙◌, Some}
use Rattle.kp_model.specs.declared.message.MessageBody.{MessageBody}
use Rattle.kp_handles.specs.Objects.{ObjectView, message, object_view}
use Rattle.kp_handles.proofs.again.decided_by.Goals as goal

pub returns-in-Proposal-clause-next : goal.returns-in-Proposal-clause-next
returns-in-Proposal-clause-next g c =
    let m = c.in-Message.message in (
      c.in-Proposal.proposal,
      (
        m.pass,
        ap (λ (o : ObjectView). Some o)
            (sym c.object.view_is ∙ ap (λ k. object_view k) c.in-Message.is ∙ ap (λ (b : MessageBody). let o : ObjectView = message b m.pass in o) c.in-Proposal.is),
      ),
      c.next_by.ensures,
    )
