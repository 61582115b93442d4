-- What a node owes at a step that is an event of its own (own rule). The node's code sees neither the record nor the other
-- nodes, so it is owed for every run that ends in a world which the node's pass shows.
use Rattle.std.specs.Prelude.{◌≡◌, ◌⊎◌, ℕ, ◌<◌, ◌≤◌, max, List, []}
use Rattle.kp_model.specs.World.{LeaderAndIsr, Node, Message}
use Rattle.kp_model.specs.Event.{Act, Reply}
use Rattle.kp_model.specs.Effect.{Effect}
use Rattle.kp_model.specs.Local.{Local}
use Rattle.kp_model.specs.Step.{IsGiven}
use Rattle.kp_model.specs.Run.{Run, last}
use Rattle.kp_board.specs.Views.{NodeView}
use Rattle.kp_board.specs.Rule.{AreSent, WasRecord}

-- the run ends in a world that this node's pass shows
pub record Shows {n : ℕ} (r : Run n) (p : NodeView) : Type 0 where
  pub count : p.count ≡ n
  pub inside : p.number < n
  pub state : (last r).nodes p.number ≡ p.state
  pub shown : WasRecord r p.shown
  pub told : AreSent (last r).messages p.told

-- some run ends so
abbrev pub ShowsAWorld : NodeView → Type 0
ShowsAWorld p = (n : ℕ) × (r : Run n) × Shows r p

-- what an act leaves
abbrev pub leaves : Node → List Message → Reply → Effect
leaves y sent reply = record { node = y; sent = sent; reply = reply }

-- By this act the node becomes y and sends these messages, at the end of any run that its pass shows.
pub record MayStep (p : NodeView) (act : Act) (y : Node) (sent : List Message) : Type 0 where
  pub reply : Reply
  pub given : (messages : List Message) → AreSent messages p.told → IsGiven messages act
  pub local : (n : ℕ) (r : Run n) → Shows r p → Local (last r).controller p.number p.state act (leaves y sent reply)

-- The same under the record that the node finds, or it stays as it was; and this is known of that record.
pub record MayStepUnder (p : NodeView) (act : Act) (y : LeaderAndIsr → Node) (knows : LeaderAndIsr → Type 0) : Type 0 where
  pub given : (messages : List Message) → AreSent messages p.told → IsGiven messages act
  pub local :
      (n : ℕ) (r : Run n) → Shows r p
      → (y (last r).controller ≡ p.state) ⊎ ((reply : Reply) × Local (last r).controller p.number p.state act (leaves (y (last r).controller) [] reply))
  pub mark : (c : LeaderAndIsr) → p.state.watermark ≤ max p.published (y c).watermark
  pub known : (n : ℕ) (r : Run n) → Shows r p → knows (last r).controller
