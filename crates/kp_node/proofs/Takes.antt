-- A follower takes batches of its run.
use Rattle.std.proofs.Common.{◌≡◌, ℕ, [], ◌∷◌, Result, refl, sym, subst}
use Rattle.kp_types.specs.declared.refusal.Refusal.{Refusal}
use Rattle.kp_model.specs.Log.{IsKin}
use Rattle.kp_model.specs.World.{Node, Message, Answers, IsSent}
use Rattle.kp_model.specs.Event.{Receive}
use Rattle.kp_model.specs.Letter.{Fetching, answered_letter, letter_of}
use Rattle.kp_model.specs.Effect.{becomes}
use Rattle.kp_model.specs.Local.{Local}
use Rattle.kp_model.specs.Run.{Run, last}
use Rattle.kp_model.specs.declared.message.FetchRequest.{FetchRequest}
use Rattle.kp_model.specs.declared.message.Fetched.{Fetched}
use Rattle.kp_replica.specs.NumberedNode.{NumberedNode, Does}
use Rattle.kp_replica.specs.Hearing.{IsTaken}
use Rattle.kp_replica.specs.Replies.{taken_reply}
use Rattle.kp_replica.specs.Taking.{carrying}
use Rattle.kp_replica.specs.declared.taking.Taken.{Taken}
use Rattle.kp_board.specs.Views.{NodeView}
use Rattle.kp_board.specs.Rule.{AreSent}
use Rattle.kp_board.specs.Premises.{MayStep, Shows, ShowsAWorld}
use Rattle.kp_node.proofs.Heard.{fetched, answer_in, answered_well}

-- batches come to a node whose pass is p, and who was told of them last
module _ (p : NodeView) (m m' : NumberedNode) (sent : Message) (r : FetchRequest) (f : Fetched) (taken : Result Taken Refusal) (state : p.state ≡ m.state) (number : p.number ≡ m.number)
    (told : p.told ≡ sent ∷ []) (by_letter : letter_of sent ≡ Fetching (carrying r f)) (done : IsTaken r f m m' taken) where
  takes : (n : ℕ) (run : Run n) → Shows run p → Does m m' (Receive sent) (taken_reply taken)
  takes n run shows =
      let b = answer_in sent (carrying r f) _ refl by_letter in
      let same : answered_letter b.answer ≡ carrying r f = fetched (subst (λ (z : Message). letter_of z ≡ Fetching (carrying r f)) b.is by_letter) in
      let known : IsSent (last run).messages (Answers b.answer) = subst (IsSent (last run).messages) b.is (subst (AreSent (last run).messages) told shows.told).0 in
      let well = answered_well n run p.number p.state shows.state b.answer known in
      let does = done.event b.answer same well.log well.asked (subst (λ (y : Node). IsKin b.answer.request.log y.log) state well.own) well.kin in
      subst (λ (z : Message). Does m m' (Receive z) (taken_reply taken)) (sym b.is) does

  pub take_may : MayStep p (Receive sent) m'.state []
  take_may = record {
    reply = taken_reply taken;
    given = λ messages known. (subst (AreSent messages) told known).0;
    local = λ n run shows.
        let c = (last run).controller in
        subst (λ (z : ℕ × Node). Local c z.0 z.1 (Receive sent) (becomes m'.state (taken_reply taken))) (λ i. (sym number i, sym state i)) (takes n run shows c).0;
  }

  -- after the step, by the run in which it happened
  pub was_taken : ShowsAWorld p → Does m m' (Receive sent) (taken_reply taken)
  was_taken world = takes world.0 world.1 world.2
