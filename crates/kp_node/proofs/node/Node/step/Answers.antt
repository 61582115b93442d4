use Rattle.std.proofs.Common.{rules, sym, ap, subst, ◌∙◌}
use Rattle.kp_model.specs.Event.{Receive, Refused}
use Rattle.kp_model.specs.Letter.{letter, letter_of}
use Rattle.kp_model.specs.World.{Message}
use Rattle.kp_model.specs.declared.message.Answered.{Answered}
use Rattle.kp_model.specs.declared.message.MessageBody.{MessageBody}
use Rattle.kp_model.specs.declared.message.MessageBody.TheVariants.{Decision, FetchAnswer}
use Rattle.kp_replica.specs.NumberedNode.{DoesUnder}
use Rattle.kp_node.specs.Calls.{WasFollowed, WasTaken}
use Rattle.kp_node.proofs.Deciding.{proposal_misplaced}
use Rattle.kp_node.proofs.node.Node.step.Goals as goal

pub turn_away-requires : goal.turn_away-requires
turn_away-requires g c =
    let parts = c.into_parts-body.ensures in
    proposal_misplaced c.into_parts-body.result.1 _ (ap letter_of parts.pass ∙ c.args.message.tied ∙ ap letter (sym parts.body ∙ c.in-Proposal.is))

pub returns-in-FetchRequest : goal.returns-in-FetchRequest
returns-in-FetchRequest g c =
    let shown = c.serve_fetch.new.self.pass.shown in
    record {
      served = tt;
      taken = tt;
      refused = subst (λ (m : Message). DoesUnder shown c.args.self.now.node c.serve_fetch.new.self.node (Receive m) (Refused c.in-Err.refusal)) c.into_parts-body.ensures.pass (c.in-Err.ensures.refused shown);
      spared = search rules;
      place = search rules;
      later = search rules;
      pass = search rules;
    }

pub returns-in-Ok-take : goal.returns-in-Ok-take
returns-in-Ok-take g c =
    let shown = c.take.new.self.pass.shown in
    let parts = c.into_parts-body.ensures in
    record {
      served = tt;
      taken = subst (λ (b : MessageBody). WasTaken b shown c.args.self.now.node c.take.new.self.node (Receive c.args.message.pass)) (sym c.in-FetchAnswer.is ∙ parts.body)
          (subst (λ (m : Message). WasTaken (FetchAnswer c.in-FetchAnswer.answer) shown c.args.self.now.node c.take.new.self.node (Receive m)) parts.pass
          (subst (λ (given : Answered). WasFollowed given shown c.args.self.now.node c.take.new.self.node (Receive c.into_parts-body.result.1)) (sym c.in-Batches.is)
          (c.in-Ok-take._taken, c.in-Ok-take.ensures.event shown)));
      refused = tt;
      spared = tt;
      place = search rules;
      later = search rules;
      pass = search rules;
    }

pub returns-in-Batches : goal.returns-in-Batches
returns-in-Batches g c =
    let shown = c.take.new.self.pass.shown in
    record {
      served = tt;
      taken = tt;
      refused = subst (λ (m : Message). DoesUnder shown c.args.self.now.node c.take.new.self.node (Receive m) (Refused c.in-Err-take.refusal)) c.into_parts-body.ensures.pass (c.in-Err-take.ensures.event shown);
      spared = search rules;
      place = search rules;
      later = search rules;
      pass = search rules;
    }

pub returns-in-Proposal : goal.returns-in-Proposal
returns-in-Proposal g c =
    let shown = c.turn_away.new.self.pass.shown in
    record {
      served = tt;
      taken = tt;
      refused = subst (λ (m : Message). DoesUnder shown c.args.self.now.node c.turn_away.new.self.node (Receive m) (Refused c.turn_away.result)) c.into_parts-body.ensures.pass (c.turn_away.ensures.refused shown);
      spared = search rules;
      place = search rules;
      later = search rules;
      pass = search rules;
    }

pub returns-in-Ok-learn : goal.returns-in-Ok-learn
returns-in-Ok-learn g c =
    let shown = c.learn.new.self.pass.shown in
    let parts = c.into_parts-body.ensures in
    record {
      served = tt;
      taken = subst (λ (b : MessageBody). WasTaken b shown c.args.self.now.node c.learn.new.self.node (Receive c.args.message.pass)) (sym c.in-Decision.is ∙ parts.body)
          (subst (λ (m : Message). WasTaken (Decision c.in-Decision.decision) shown c.args.self.now.node c.learn.new.self.node (Receive m)) parts.pass
          (c.in-Ok-learn._learned, c.in-Ok-learn.ensures.event shown));
      refused = tt;
      spared = tt;
      place = search rules;
      later = search rules;
      pass = search rules;
    }

pub returns : goal.returns
returns g c =
    let shown = c.learn.new.self.pass.shown in
    record {
      served = tt;
      taken = tt;
      refused = subst (λ (m : Message). DoesUnder shown c.args.self.now.node c.learn.new.self.node (Receive m) (Refused c.in-Err-learn.refusal)) c.into_parts-body.ensures.pass (c.in-Err-learn.ensures.event shown);
      spared = search rules;
      place = search rules;
      later = search rules;
      pass = search rules;
    }
