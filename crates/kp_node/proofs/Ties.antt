-- A node and its pass stay tied.
use Rattle.std.proofs.Common.{◌≡◌, ℕ, ◌+◌, ◌*◌, ◌<◌, ◌≤◌, max, List, [], ◌∷◌, Option, Some, None, refl, sym, ap, subst, ◌∙◌, inl, inr, arith}
use Rattle.kp_types.specs.declared.refusal.Refusal.{Refusal}
use Rattle.kp_model.specs.World.{LeaderAndIsr, Node, Message, initial}
use Rattle.kp_model.specs.Event.{Act, Receive, Restart, Reply}
use Rattle.kp_model.specs.Letter.{Letter}
use Rattle.kp_model.specs.Effect.{Effect, becomes, sends}
use Rattle.kp_model.specs.Local.{Local, LocalBy, cause}
use Rattle.kp_model.specs.Laws.{KeepsMark}
use Rattle.kp_model.specs.Calls.{sent_reply}
use Rattle.kp_model.specs.Run.{last}
use Rattle.kp_model.specs.Step.{IsGiven}
use Rattle.kp_model.proofs.Marks.NodeMarks.{marks_stay}
use Rattle.kp_replica.specs.NumberedNode.{NumberedNode, Does, IsSameNode}
use Rattle.kp_replica.specs.Sending.{DoesSending}
use Rattle.kp_board.specs.Views.{NodeView}
use Rattle.kp_board.specs.Rule.{AreSent}
use Rattle.kp_board.specs.Premises.{MayStep}
use Rattle.kp_node.specs.Calls.{Sent, SentBy}

-- the pass shows the node, and its mark word is the greatest watermark
abbrev pub Tied : ℕ → NodeView → NumberedNode → Type 0
Tied words p m = (p.state ≡ m.state) × (p.number ≡ m.number) × (m.state.watermark ≤ p.published) × (2 * p.number + 2 < words)

-- the node has become another, and its pass shows it
pub tied_on : (words : ℕ) (p p' : NodeView) (m m' : NumberedNode) → Tied words p m → m'.number ≡ m.number → m'.state.watermark ≤ p.published → p' ≡ record p { state = m'.state } → Tied words p' m'
tied_on words p p' m m' t number mark e =
    subst (λ (q : NodeView). Tied words q m') (sym e) (refl, t.1 ∙ sym number, mark, t.3)

pub tied_at : (words mark : ℕ) (p p' : NodeView) (m m' : NumberedNode) → Tied words p m → m'.number ≡ m.number → mark ≡ m'.state.watermark
    → p' ≡ record p { state = m'.state; published = max p.published mark } → Tied words p' m'
tied_at words mark p p' m m' t number is e =
    subst (λ (q : NodeView). Tied words q m') (sym e) (refl, t.1 ∙ sym number, omega arith, t.3)

-- what an act that keeps the watermark leaves of it
pub kept_low : (m m' : NumberedNode) (act : Act) (reply : Reply) (published : ℕ) → KeepsMark act → Does m m' act reply → m.state.watermark ≤ published → m'.state.watermark ≤ published
kept_low m m' act reply published keeps does low =
    let same = marks_stay (initial 0) m.number m.state act (becomes m'.state reply) keeps (does (initial 0)).0 in omega arith

pub sent_low : (m m' : NumberedNode) (act : Act) (message : Message) (letter : Letter) (published : ℕ) → KeepsMark act → Sent m m' act message letter → m.state.watermark ≤ published → m'.state.watermark ≤ published
sent_low m m' act message letter published keeps sent low =
    let same = marks_stay (initial 0) m.number m.state act (sends m'.state message (sent_reply letter)) keeps (sent.0.1 (initial 0)) in omega arith

-- a restart takes the watermark back to the checkpoint
restart_by : (o : Option Refusal) (c : LeaderAndIsr) (n : ℕ) (x : Node) (e : Effect) → LocalBy o c n x Restart e → x.checkpoint ≤ x.watermark → e.node.watermark ≤ x.watermark
restart_by (Some r) c n x e h low = let f = ap (λ (f : Effect). f.node.watermark) h in omega arith
restart_by None c n x e (inl h) low = let f = ap (λ (f : Effect). f.node.watermark) h in omega arith
restart_by None c n x e (inr h) low = let f = ap (λ (f : Effect). f.node.watermark) h in omega arith

restart_local : (c : LeaderAndIsr) (n : ℕ) (x : Node) (e : Effect) → Local c n x Restart e → x.checkpoint ≤ x.watermark → e.node.watermark ≤ x.watermark
unfolding Local
restart_local c n x e h low = restart_by (cause c n x Restart) c n x e h low

pub restart_low : (m m' : NumberedNode) (reply : Reply) → Does m m' Restart reply → m.state.checkpoint ≤ m.state.watermark → m'.state.watermark ≤ m.state.watermark
restart_low m m' reply does low = restart_local (initial 0) m.number m.state (becomes m'.state reply) (does (initial 0)).0 low

-- what a node's call does, its pass may go along with
pub may_go : (p : NodeView) (m m' : NumberedNode) (act : Act) (reply : Reply) → p.state ≡ m.state → p.number ≡ m.number → ((messages : List Message) → AreSent messages p.told → IsGiven messages act)
    → Does m m' act reply → MayStep p act m'.state []
may_go p m m' act reply state number given does = record {
  reply = reply;
  given = given;
  local = λ n r shows.
      subst (λ (z : ℕ × Node). Local (last r).controller z.0 z.1 act (becomes m'.state reply)) (λ j. (sym number j, sym state j)) (does (last r).controller).0;
}

pub may_send : (p : NodeView) (m m' : NumberedNode) (act : Act) (letter : Letter) → p.state ≡ m.state → p.number ≡ m.number → ((messages : List Message) → AreSent messages p.told → IsGiven messages act)
    → (does : DoesSending m m' act letter) → MayStep p act m'.state (does.0.message ∷ [])
may_send p m m' act letter state number given does = record {
  reply = sent_reply letter;
  given = given;
  local = λ n r shows.
      subst (λ (z : ℕ × Node). Local (last r).controller z.0 z.1 act (sends m'.state does.0.message (sent_reply letter))) (λ j. (sym number j, sym state j)) (does.0.local (last r).controller);
}

-- a node got a message
pub received : (words : ℕ) (p q : NodeView) (m : NumberedNode) (message : Message) → Tied words p m → q ≡ record p { told = message ∷ [] } → Tied words q m
received words p q m message t e = subst (λ (z : NodeView). Tied words z m) (sym e) t

pub was_told : (p q : NodeView) (message : Message) → q ≡ record p { told = message ∷ [] } → q.told ≡ message ∷ []
was_told p q message e = ap (λ (z : NodeView). z.told) e

pub gives : (p q : NodeView) (message : Message) → q ≡ record p { told = message ∷ [] } → (messages : List Message) → AreSent messages q.told → IsGiven messages (Receive message)
gives p q message e messages told = (subst (AreSent messages) (was_told p q message e) told).0

-- the node has become another and messages were told of besides
pub tied_sent : (words : ℕ) (p p' : NodeView) (m m' : NumberedNode) (told : List Message) → Tied words p m → m'.number ≡ m.number → m'.state.watermark ≤ p.published → p' ≡ record p { state = m'.state; told = told } → Tied words p' m'
tied_sent words p p' m m' told t number mark e =
    subst (λ (q : NodeView). Tied words q m') (sym e) (refl, t.1 ∙ sym number, mark, t.3)

-- and then its mark word followed
pub tied_marked : (words mark : ℕ) (p p' p'' : NodeView) (m m' : NumberedNode) (told : List Message) → Tied words p m → m'.number ≡ m.number → mark ≡ m'.state.watermark
    → p' ≡ record p { state = m'.state; told = told } → p'' ≡ record p' { published = max p'.published mark } → Tied words p'' m'
tied_marked words mark p p' p'' m m' told t number is e f =
    let whole : p'' ≡ record p { state = m'.state; told = told; published = max p.published mark } = f ∙ ap (λ (q : NodeView). record q { published = max q.published mark }) e in
    subst (λ (q : NodeView). Tied words q m') (sym whole) (refl, t.1 ∙ sym number, omega arith, t.3)

-- what a pass shows, by its fields
pub shows_as : (p' old : NodeView) (y : Node) → p'.count ≡ old.count → p'.number ≡ old.number → p'.published ≡ old.published → p'.state ≡ y → p' ≡ record old { state = y; shown = p'.shown; told = p'.told }
shows_as p' old y count number published state = λ i. record { count = count i; number = number i; state = state i; shown = p'.shown; published = published i; told = p'.told }

-- ---- the very message that was sent

pub sent_by : (p : NodeView) (m m' : NumberedNode) (act : Act) (letter : Letter) → p.state ≡ m.state → p.number ≡ m.number → (does : DoesSending m m' act letter)
    → SentBy p.number p.state m'.state act does.0.message letter
sent_by p m m' act letter state number does =
    subst (λ (z : ℕ × Node). SentBy z.0 z.1 m'.state act does.0.message letter) (λ j. (sym number j, sym state j)) (does.0.letter_is, does.0.local)

pub was_sent : (p : NodeView) (m m' : NumberedNode) (act : Act) (message : Message) (letter : Letter) → p.state ≡ m.state → p.number ≡ m.number → IsSameNode m m'
    → SentBy p.number p.state m'.state act message letter → Sent m m' act message letter
was_sent p m m' act message letter state number same sent = (subst (λ (z : ℕ × Node). SentBy z.0 z.1 m'.state act message letter) (λ j. (number j, state j)) sent, same)
