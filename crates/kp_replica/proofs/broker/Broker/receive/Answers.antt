use Rattle.std.proofs.Common.{◌≡◌, Some, Result, Err, refl, sym, ap, ◌∙◌, subst}
use Rattle.std.proofs.lemmas.Result.{err_from_is_err_and}
use Rattle.kp_types.specs.declared.refusal.Refusal.{Refusal}
use Rattle.kp_types.specs.declared.refusal.Refusal.TheVariants.{StaleAnswer}
use Rattle.kp_model.specs.Set.{record_of}
use Rattle.kp_model.specs.Event.{Receive}
use Rattle.kp_model.specs.Letter.{Fetching, Letter, answering as answering_in, letter as letter_in, letter_of, fetch_answer, fetch_request, decision_of}
use Rattle.kp_model.specs.World.{LeaderAndIsr, Message}
use Rattle.kp_model.specs.declared.message.Answered.{Answered}
use Rattle.kp_model.specs.declared.message.Answered.TheVariants.{Diverging}
use Rattle.kp_model.specs.declared.message.FetchRequest.{FetchRequest}
use Rattle.kp_model.specs.declared.message.MessageBody.TheVariants as bodies
use Rattle.kp_replica.specs.Acts.{Comes}
use Rattle.kp_replica.specs.Broker.{node_at}
use Rattle.kp_replica.specs.Cutting.{diverging}
use Rattle.kp_replica.specs.NumberedNode.{NumberedNode, DoesUnder}
use Rattle.kp_replica.specs.Replies.{cut_reply, learned_reply, taken_reply}
use Rattle.kp_replica.specs.declared.act.Answer.TheVariants as answers
use Rattle.kp_replica.specs.declared.altering.Learned.{Learned}
use Rattle.kp_replica.specs.declared.act.Effect.{Effect}
use Rattle.kp_replica.specs.declared.cutting.CutBack.{CutBack}
use Rattle.kp_replica.specs.declared.taking.Taken.{Taken}
use Rattle.kp_replica.specs.Taking.{carrying}
use Rattle.kp_replica.proofs.Acting.{batches_came, batches_refused, diverging_came, diverging_refused, learned_came, proposal_came, refusing, request_came, sending, wrapped}
use Rattle.kp_replica.proofs.Downs.{refuses_message}
use Rattle.kp_replica.proofs.broker.Broker.receive.Goals as goal

-- what came of it, where it is written in other words
in_other_words : (k : LeaderAndIsr) (old new : NumberedNode) (m : Message) (outcome made : Result Effect Refusal) → outcome ≡ made → Comes k old new (Receive m) made
    → Comes k old new (Receive m) outcome
in_other_words k old new m outcome made same h = subst (Comes k old new (Receive m)) (sym same) h

-- ---- requests

pub returns-in_err-answer-in-FetchRequest-clause-refused : goal.returns-in_err-answer-in-FetchRequest-clause-refused
returns-in_err-answer-in-FetchRequest-clause-refused c = λ m is k under why held.
    let refusal = c.in_err-answer-in-FetchRequest.field-0.0 in
    let p = err_from_is_err_and c.from_residual.result c.from_residual.ensures.1 in
    let old = node_at c.args.self.now in
    let new = node_at c.serve_fetch.new.self in
    in_other_words k old new m c.from_residual.result (Err refusal) (p.1 ∙ ap Err p.2)
    (refusing k old new (Receive m) refusal (c.in_err-answer-in-FetchRequest.ensures.refused m (is ∙ ap letter_in c.in-FetchRequest.is) k))

pub returns-in_err-answer-in-FetchRequest-clause-acts : goal.returns-in_err-answer-in-FetchRequest-clause-acts
returns-in_err-answer-in-FetchRequest-clause-acts c = λ m is k under of.
    let refusal = c.in_err-answer-in-FetchRequest.field-0.0 in
    let p = err_from_is_err_and c.from_residual.result c.from_residual.ensures.1 in
    let old = node_at c.args.self.now in
    let new = node_at c.serve_fetch.new.self in
    in_other_words k old new m c.from_residual.result (Err refusal) (p.1 ∙ ap Err p.2)
    (refusing k old new (Receive m) refusal (c.in_err-answer-in-FetchRequest.ensures.refused m (is ∙ ap letter_in c.in-FetchRequest.is) k))

pub returns-in_ok-answer-in-FetchRequest-clause-acts : goal.returns-in_ok-answer-in-FetchRequest-clause-acts
returns-in_ok-answer-in-FetchRequest-clause-acts c = λ m is k under of.
    let old = node_at c.args.self.now in
    let new = node_at c.serve_fetch.new.self in
    let answer = c.in_ok-answer-in-FetchRequest.answer in
    sending k old new (Receive m) (bodies.FetchAnswer answer)
    (request_came k old new c.in-FetchRequest.request (Fetching (fetch_answer answer)) m (is ∙ ap letter_in c.in-FetchRequest.is) of c.in_ok-answer-in-FetchRequest.ensures.served)

-- ---- answers

-- the letter of an answer by what it gives
letter_by : (r : FetchRequest) → Answered → Letter
letter_by r given = Fetching (record (fetch_request r) { answering = Some (answering_in given) })

pub returns-in-Batches-clause-acts : goal.returns-in-Batches-clause-acts
unfolding letter_by
returns-in-Batches-clause-acts c = λ m is k under of.
    let old = node_at c.args.self.now in
    let new = node_at c.take.new.self in
    let r = c.in-FetchAnswer.answer.request in
    let f = c.in-Batches.fetched in
    let same : letter_of m ≡ Fetching (carrying r f) = is ∙ ap letter_in c.in-FetchAnswer.is ∙ ap (letter_by r) c.in-Batches.is in
    wrapped Taken answers.Took taken_reply k old new (Receive m) c.take.result c.map-took.result c.map.result (λ x. refl) (λ e. refl) c.map-took.ensures.cases c.map.ensures.cases
    (batches_came k old new r f m c.take.result same of c.take.ensures)

pub returns-in-Batches-clause-refused : goal.returns-in-Batches-clause-refused
unfolding letter_by
returns-in-Batches-clause-refused c = λ m is k under why held.
    let old = node_at c.args.self.now in
    let new = node_at c.take.new.self in
    let r = c.in-FetchAnswer.answer.request in
    let f = c.in-Batches.fetched in
    let same : letter_of m ≡ Fetching (carrying r f) = is ∙ ap letter_in c.in-FetchAnswer.is ∙ ap (letter_by r) c.in-Batches.is in
    let refused = batches_refused k old new r f m why c.take.result same held c.take.ensures in
    wrapped Taken answers.Took taken_reply k old new (Receive m) c.take.result c.map-took.result c.map.result (λ x. refl) (λ e. refl) c.map-took.ensures.cases c.map.ensures.cases
    (subst (λ (t : Result Taken Refusal). DoesUnder k old new (Receive m) (taken_reply t)) (sym refused.0) refused.1)

pub returns-in-Diverging-clause-acts : goal.returns-in-Diverging-clause-acts
unfolding letter_by
returns-in-Diverging-clause-acts c = λ m is k under of.
    let old = node_at c.args.self.now in
    let new = node_at c.cut.new.self in
    let r = c.in-FetchAnswer.answer.request in
    let end = c.end.result in
    let same : letter_of m ≡ Fetching (diverging r end) = is ∙ ap letter_in c.in-FetchAnswer.is ∙ ap (letter_by r) (c.in-Diverging.is ∙ ap Diverging (sym c.end.ensures)) in
    wrapped CutBack answers.Cut cut_reply k old new (Receive m) c.cut.result c.map-cut.result c.map-in-Diverging.result (λ x. refl) (λ e. refl) c.map-cut.ensures.cases c.map-in-Diverging.ensures.cases
    (diverging_came k (record_of c.args.controller.now) old new r end m c.cut.result same under of c.cut.ensures)

pub returns-in-Diverging-clause-refused : goal.returns-in-Diverging-clause-refused
unfolding letter_by
returns-in-Diverging-clause-refused c = λ m is k under why held.
    let old = node_at c.args.self.now in
    let new = node_at c.cut.new.self in
    let r = c.in-FetchAnswer.answer.request in
    let end = c.end.result in
    let same : letter_of m ≡ Fetching (diverging r end) = is ∙ ap letter_in c.in-FetchAnswer.is ∙ ap (letter_by r) (c.in-Diverging.is ∙ ap Diverging (sym c.end.ensures)) in
    let refused = diverging_refused k (record_of c.args.controller.now) old new r end m why c.cut.result same under held c.cut.ensures in
    wrapped CutBack answers.Cut cut_reply k old new (Receive m) c.cut.result c.map-cut.result c.map-in-Diverging.result (λ x. refl) (λ e. refl) c.map-cut.ensures.cases c.map-in-Diverging.ensures.cases
    (subst (λ (t : Result CutBack Refusal). DoesUnder k old new (Receive m) (cut_reply t)) (sym refused.0) refused.1)

-- ---- decisions

pub returns-in-Decision-clause-acts : goal.returns-in-Decision-clause-acts
returns-in-Decision-clause-acts c = λ m is k under of.
    let old = node_at c.args.self.now in
    let new = node_at c.learn.new.self in
    wrapped Learned answers.Learned learned_reply k old new (Receive m) c.learn.result c.map-learned.result c.map-in-Decision.result (λ x. refl) (λ e. refl) c.map-learned.ensures.cases c.map-in-Decision.ensures.cases
    (learned_came k old new (decision_of c.in-Decision.decision) m c.learn.result (is ∙ ap letter_in c.in-Decision.is) c.learn.ensures.event)

pub returns-in-Decision-clause-refused : goal.returns-in-Decision-clause-refused
returns-in-Decision-clause-refused c = λ m is k under why held.
    let old = node_at c.args.self.now in
    let new = node_at c.learn.new.self in
    wrapped Learned answers.Learned learned_reply k old new (Receive m) c.learn.result c.map-learned.result c.map-in-Decision.result (λ x. refl) (λ e. refl) c.map-learned.ensures.cases c.map-in-Decision.ensures.cases
    (learned_came k old new (decision_of c.in-Decision.decision) m c.learn.result (is ∙ ap letter_in c.in-Decision.is) c.learn.ensures.event)

-- ---- proposals

pub returns-in_err-up-in-Proposal-clause-acts : goal.returns-in_err-up-in-Proposal-clause-acts
returns-in_err-up-in-Proposal-clause-acts c = λ m is k under of.
    let refusal = c.in_err-up-in-Proposal.field-0.0 in
    let p = err_from_is_err_and c.from_residual-in_err-up-in-Proposal.result c.from_residual-in_err-up-in-Proposal.ensures.1 in
    let x = node_at c.args.self.now in
    let down = c.in_err-up-in-Proposal.ensures.down in
    in_other_words k x x m c.from_residual-in_err-up-in-Proposal.result (Err refusal) (p.1 ∙ ap Err p.2)
    (refusing k x x (Receive m) refusal (refuses_message k x m refusal down.1 down.0))

pub returns-in_err-up-in-Proposal-clause-refused : goal.returns-in_err-up-in-Proposal-clause-refused
returns-in_err-up-in-Proposal-clause-refused c = λ m is k under why held.
    let refusal = c.in_err-up-in-Proposal.field-0.0 in
    let p = err_from_is_err_and c.from_residual-in_err-up-in-Proposal.result c.from_residual-in_err-up-in-Proposal.ensures.1 in
    let x = node_at c.args.self.now in
    let down = c.in_err-up-in-Proposal.ensures.down in
    in_other_words k x x m c.from_residual-in_err-up-in-Proposal.result (Err refusal) (p.1 ∙ ap Err p.2)
    (refusing k x x (Receive m) refusal (refuses_message k x m refusal down.1 down.0))

pub returns-in_ok-up-in-Proposal-clause-acts : goal.returns-in_ok-up-in-Proposal-clause-acts
returns-in_ok-up-in-Proposal-clause-acts c = λ m is k under of.
    let x = node_at c.args.self.now in
    refusing k x x (Receive m) StaleAnswer (proposal_came k x _ m (is ∙ ap letter_in c.in-Proposal.is) c.in_ok-up-in-Proposal.ensures.up)

pub returns-in_ok-up-in-Proposal-clause-refused : goal.returns-in_ok-up-in-Proposal-clause-refused
returns-in_ok-up-in-Proposal-clause-refused c = λ m is k under why held.
    let x = node_at c.args.self.now in
    refusing k x x (Receive m) StaleAnswer (proposal_came k x _ m (is ∙ ap letter_in c.in-Proposal.is) c.in_ok-up-in-Proposal.ensures.up)
