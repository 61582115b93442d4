-- How a run goes on from what the process of another one has left (own rule; 'a node that fails stops and keeps its log': Kafka
-- replication design).
use Rattle.std.specs.Prelude.{◌≡◌, ◌⊎◌, ℕ, ◌+◌, ◌<◌, ◌≤◌, ◌^◌, List, [], ◌++◌, length, map, slice_index_or, Result}
use Rattle.std.specs.List.{AllByRecursion}
use Rattle.kp_types.specs.declared.limits.Limits.{Limits}
use Rattle.kp_types.specs.declared.refusal.Refusal.{Refusal}
use Rattle.kp_model.specs.Event.{Event, Acts, Restart, Stop}
use Rattle.kp_model.specs.Left.{LeftBehind, LeftNode, again, left_node}
use Rattle.kp_model.specs.World.{Node}
use Rattle.kp_replica.specs.NumberedNode.{NumberedNode}
use Rattle.kp_world.specs.Plays.{IsReached}
use Rattle.kp_world.specs.Shown.{Stage, next_number}
use Rattle.kp_world.specs.declared.event.EventAnswer.{EventAnswer}

-- This is what is kept of the node, up or down: its log, its checkpoint, the leader epoch that it took up last, and its life or a later one.
pub record IsKept (x : LeftNode) (y : Node) : Type 0 where
  pub log : y.log ≡ x.log
  pub checkpoint : y.checkpoint ≡ x.checkpoint
  pub life : y.life ≤ x.life
  pub kept : y.kept ≡ x.kept

-- This is what is kept of a process whose run has come to this stage, and so many messages were sent.
pub record IsLeftAt (x : LeftBehind) (sent : ℕ) (stage : Stage) : Type 0 where
  pub controller_is : stage.controller ≡ x.controller
  pub count : length stage.nodes ≡ length x.nodes
  pub nodes : (k : ℕ) (m : NumberedNode) → k < length x.nodes → IsKept (left_node x k) (slice_index_or stage.nodes k m).state
  pub sent_is : next_number stage ≡ sent

-- A new process begins with it: each node is down, in its next life, with its high watermark at its checkpoint; the messages are gone, but
-- their numbers go on.
pub record BeginsAgain (limits : Limits) (x : LeftBehind) (sent : ℕ) (stage : Stage) : Type 0 where
  pub controller_is : stage.controller ≡ x.controller
  pub count : length stage.nodes ≡ length x.nodes
  pub nodes :
      (k : ℕ) (m : NumberedNode) → k < length x.nodes
      → slice_index_or stage.nodes k m ≡ record { number = k; limits = limits; state = again (left_node x k) }
  pub first_is : stage.first ≡ sent
  pub no_letters : stage.letters ≡ []

-- a restart or a stop of some node
abbrev pub IsPause : Event → Type 0
IsPause e = (n : ℕ) × ((e ≡ Acts n Restart) ⊎ (e ≡ Acts n Stop))

-- To whatever stage the old process came, its run goes on, by restarts and stops of nodes alone, to the stage with which the new one begins.
abbrev pub LeftStagesGoOn : Type 0
LeftStagesGoOn =
    (count : ℕ) (old_limits limits : Limits) (events : List Event) (outcomes : List (Result EventAnswer Refusal)) (old new : Stage) (x : LeftBehind) (sent : ℕ)
    → IsReached count old_limits events outcomes old → IsLeftAt x sent old → ((k : ℕ) → k < length x.nodes → (left_node x k).life + 1 < 2 ^ 64)
    → BeginsAgain limits x sent new
    → (more : List (Event × Result EventAnswer Refusal)) × AllByRecursion (λ happened. IsPause happened.0) more
    × IsReached count limits (events ++ map (λ happened. happened.0) more) (outcomes ++ map (λ happened. happened.1) more) new
