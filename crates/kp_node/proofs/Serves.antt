-- A leader serves a request of its run: what it sends is named before the run is known.
use Rattle.std.proofs.Common.{◌≡◌, ℕ, List, [], ◌∷◌, Option, Some, None, refl, sym, ap, subst, ◌∙◌, inl, inr}
use Rattle.kp_types.specs.declared.refusal.Refusal.{Refusal}
use Rattle.kp_model.specs.Log.{IsKin}
use Rattle.kp_model.specs.World.{LeaderAndIsr, Leading, Node, Request, Message, Asks, Answers, IsSent, initial}
use Rattle.kp_model.specs.Event.{Receive, Reply}
use Rattle.kp_model.specs.Letter.{Letter, Fetching, letter_of, fetch_request}
use Rattle.kp_model.specs.Effect.{Effect, sends}
use Rattle.kp_model.specs.Fetching.{Serves, answer}
use Rattle.kp_model.specs.Local.{Local, LocalBy, cause}
use Rattle.kp_model.specs.Calls.{ForRequest, sent_reply}
use Rattle.kp_model.specs.Run.{Run, last}
use Rattle.kp_model.specs.declared.message.FetchRequest.{FetchRequest}
use Rattle.kp_model.proofs.OneStep.Steps.{where_leads}
use Rattle.kp_replica.specs.NumberedNode.{NumberedNode, IsSameNode}
use Rattle.kp_replica.specs.Sending.{DoesSending}
use Rattle.kp_board.specs.Views.{NodeView, no_message}
use Rattle.kp_board.specs.Rule.{AreSent}
use Rattle.kp_board.specs.Premises.{MayStep, Shows, ShowsAWorld}
use Rattle.kp_node.specs.Calls.{Sent, SentBy}
use Rattle.kp_node.proofs.Heard.{fetched, first_told, request_in, asked_well}

-- the answer of a leader, which is x
abbrev pub answer_to : Node → Message → Message
answer_to x (Asks r) = Answers (answer x r)
answer_to x _ = no_message

-- ---- it is the one that is sent

HasOne : List Message → Type 0
HasOne [] = ⊥
HasOne (m ∷ ms) = Unit {0}

pub none_sent : (m : Message) (ms : List Message) → m ∷ ms ≡ [] → ⊥
unfolding HasOne
none_sent m ms e = subst HasOne e tt

module _ (c : LeaderAndIsr) (n : ℕ) (x y : Node) (r : Request) (m : Message) (reply : Reply) where
  sent_so : (o : Option Refusal) → LocalBy o c n x (Receive (Asks r)) (sends y m reply) → m ≡ Answers (answer x r)
  sent_so (Some refusal) h = absurd (none_sent m [] (ap (λ (e : Effect). e.sent) h))
  sent_so None (inl h) =
      let at = where_leads x.mode (λ (l : Leading). Serves x r l (sends y m reply)) h in
      elim at.2 [
        | inl lifts ↦ ap (λ (e : Effect). first_told e.sent) lifts.1
        | inr diverges ↦ ap (λ (e : Effect). first_told e.sent) diverges.1
      ]
  sent_so None (inr h) = absurd (none_sent m [] (ap (λ (e : Effect). e.sent) h))

  sends_it : Local c n x (Receive (Asks r)) (sends y m reply) → m ≡ Answers (answer x r)
  unfolding Local
  sends_it h = sent_so (cause c n x (Receive (Asks r))) h

-- ---- a request comes to a node whose pass is p, and who was told of it last

module _ (p : NodeView) (m m' : NumberedNode) (asked : Message) (request : FetchRequest) (letter : Letter) (state : p.state ≡ m.state) (number : p.number ≡ m.number) (told : p.told ≡ asked ∷ [])
    (by_letter : letter_of asked ≡ Fetching (fetch_request request)) (served : ForRequest (fetch_request request) m.state.log (λ (z : Message). DoesSending m m' (Receive z) letter)) where
  serves : (n : ℕ) (r : Run n) → Shows r p → SentBy p.number p.state m'.state (Receive asked) (answer_to p.state asked) letter × IsSameNode m m'
  serves n r shows =
      let q = request_in asked (fetch_request request) refl by_letter in
      let known : IsSent (last r).messages (Asks q.request) = subst (IsSent (last r).messages) q.is (subst (AreSent (last r).messages) told shows.told).0 in
      let well = asked_well n r p.number p.state shows.state q.request known in
      let does = served q.request (fetched (subst (λ (z : Message). letter_of z ≡ Fetching (fetch_request request)) q.is by_letter)) well.log (subst (λ (y : Node). IsKin q.request.log y.log) state well.kin) in
      let is = sends_it (initial 0) m.number m.state m'.state q.request does.0.message (sent_reply letter) (does.0.local (initial 0)) in
      let sent : SentBy m.number m.state m'.state (Receive (Asks q.request)) (Answers (answer m.state q.request)) letter =
      subst (λ (z : Message). SentBy m.number m.state m'.state (Receive (Asks q.request)) z letter) is (does.0.letter_is, does.0.local) in (
        subst (λ (z : ℕ × Node × Message). SentBy z.0 z.1 m'.state (Receive z.2) (answer_to z.1 z.2) letter) (λ i. (sym number i, sym state i, sym q.is i)) sent,
        does.1,
      )

  pub serve_may : MayStep p (Receive asked) m'.state (answer_to p.state asked ∷ [])
  serve_may = record {
    reply = sent_reply letter;
    given = λ messages known. (subst (AreSent messages) told known).0;
    local = λ n r shows. (serves n r shows).0.1 (last r).controller;
  }

  pub answers_it : answer_to p.state asked ≡ answer_to p.state (first_told p.told)
  answers_it = ap (λ (ms : List Message). answer_to p.state (first_told ms)) (sym told)

  -- after the step, by the run in which it happened
  pub was_served : ShowsAWorld p → (message : Message) → message ≡ answer_to p.state (first_told p.told) → Sent m m' (Receive asked) message letter
  was_served world message is =
      let done = serves world.0 world.1 world.2 in
      let same : answer_to p.state asked ≡ message = answers_it ∙ sym is in
      (subst (λ (z : ℕ × Node × Message). SentBy z.0 z.1 m'.state (Receive asked) z.2 letter) (λ i. (number i, state i, same i)) done.0, done.1)
