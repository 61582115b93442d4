-- What each call of a node that sends a message or takes one does to the node and its pass, which were `old` and are `new` then (own rule).
use Rattle.std.specs.Prelude.{◌≡◌, ◌≢◌, ◌∷◌, ◌≤◌, max, Option, Result, IfOk, IfErr, IfSome, IfNone, OnErr}
use Rattle.kp_types.specs.Causes.{IsRefusedOnlyBy}
use Rattle.kp_types.specs.declared.refusal.Refusal.{Refusal}
use Rattle.kp_types.specs.declared.refusal.Refusal.TheVariants.{Memory}
use Rattle.kp_model.specs.Event.{Ask, Receive, Refused}
use Rattle.kp_model.specs.Letter.{letter}
use Rattle.kp_model.specs.Local.{cause}
use Rattle.kp_model.specs.World.{LeaderAndIsr}
use Rattle.kp_replica.specs.Altering.{change_act, IsProposal}
use Rattle.kp_replica.specs.NumberedNode.{Does, DoesUnder}
use Rattle.kp_replica.specs.declared.altering.IsrChange.{IsrChange}
use Rattle.kp_board.specs.Posts.{Posted}
use Rattle.kp_node.specs.Calls.{CutsTo, Sent, WantsMemory, WasTaken}
use Rattle.kp_node.specs.Seated.{SeatedNode}

-- It asked its leader, by a message that was sent, or refused to, for which it wants no memory.
pub record Asks (old new : SeatedNode) (result : Result Posted Refusal) : Type 0 where
  pub sent : IfOk result (λ m. Sent old.node new.node Ask m.pass (letter m.body))
  pub refused : IfErr result (λ refusal. Does old.node new.node Ask (Refused refusal))
  pub spared : IfErr result (λ refusal. refusal ≢ Memory)
  pub node : new.node ≡ old.node
  pub pass : IfOk result (λ m. new.pass ≡ record old.pass { told = m.pass ∷ old.pass.told })
  pub same : OnErr result (new ≡ old)

-- It proposed this change of the in-sync replicas, by a message that was sent, or refused to for a cause that its state has.
pub record Alters (change : IsrChange) (old new : SeatedNode) (result : Result Posted Refusal) : Type 0 where
  pub sent : IfOk result (λ m. Sent old.node new.node (change_act change) m.pass (letter m.body))
  pub proposed : IfOk result (λ m. IsProposal old.node change (letter m.body))
  pub refused : IfErr result (λ refusal. Does old.node new.node (change_act change) (Refused refusal))
  pub causes : (c : LeaderAndIsr) → IsRefusedOnlyBy (cause c old.node.number old.node.state (change_act change)) result
  pub pass : IfOk result (λ m. new.pass ≡ record old.pass { state = new.node.state; told = m.pass ∷ old.pass.told })
  pub same : OnErr result (new ≡ old)

-- A message came to it, and was answered by one that was sent, taken in, or refused, under the record that its pass shows then.
pub record Steps (came : Posted) (old new : SeatedNode) (result : Result (Option Posted) Refusal) : Type 0 where
  pub served : IfOk result (λ o. IfSome o (λ m. Sent old.node new.node (Receive came.pass) m.pass (letter m.body)))
  pub taken : IfOk result (λ o. IfNone o (WasTaken came.body new.pass.shown old.node new.node (Receive came.pass)))
  pub refused : IfErr result (λ refusal. DoesUnder new.pass.shown old.node new.node (Receive came.pass) (Refused refusal))
  pub spared : IfErr result (λ refusal. refusal ≡ Memory → WantsMemory came.body old.node)
  pub place : CutsTo came.body new.pass.shown old.node new.node
  pub later : old.pass.shown.version ≤ new.pass.shown.version
  pub pass : new.pass ≡ record old.pass {
    state = new.node.state;
    shown = new.pass.shown;
    published = max old.pass.published new.node.state.watermark;
    told = new.pass.told;
  }
