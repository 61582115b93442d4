-- What the program's record, nodes and messages show of a world.
use Rattle.std.specs.Prelude.{◌≡◌, ℕ, ◌+◌, ◌<◌, ◌≤◌, List, ◌++◌, drop, length, map, slice_get, slice_index_or, slice_set, Option, Result, Ok, Err}
use Rattle.std.specs.Option.{option_and_then}
use Rattle.kp_types.specs.declared.limits.Limits.{Limits}
use Rattle.kp_types.specs.declared.refusal.Refusal.{Refusal}
use Rattle.kp_log.specs.Partition.{Partition}
use Rattle.kp_model.specs.Log.{Batch}
use Rattle.kp_model.specs.World.{LeaderAndIsr, Node, World}
use Rattle.kp_model.specs.Event.{Event, Elect, Acts, Deliver}
use Rattle.kp_model.specs.Letter.{Letter, goes_to, letter_of}
use Rattle.kp_replica.specs.NumberedNode.{NumberedNode}
use Rattle.kp_replica.specs.Acts.{NamesIn, letters_in}
use Rattle.kp_replica.specs.declared.act.Effect.{Effect}
use Rattle.kp_replica.specs.declared.act.Effect.TheVariants.{Answers}
use Rattle.kp_world.specs.declared.event.EventAnswer.{EventAnswer}
use Rattle.kp_world.specs.declared.event.EventAnswer.TheVariants.{Answered}

-- a node's log, which is settled up to its watermark
abbrev pub log_of : NumberedNode → Partition
log_of m = record { limits = m.limits; log = m.state.log; settled = m.state.watermark }

-- The controller's record, the nodes by their numbers, and the letters of the messages that were sent, by theirs: from this first number on,
-- as those before were sent by processes that have ended, and nobody has them.
pub record Stage : Type 0 where
  pub controller : LeaderAndIsr
  pub nodes : List NumberedNode
  pub first : ℕ
  pub letters : List Letter

-- the number of the next message
abbrev pub next_number : Stage → ℕ
next_number stage = stage.first + length stage.letters

-- to which node the letter at a place goes; none where it goes to the controller, or there is none
abbrev pub addressee_at : List Letter → ℕ → Option ℕ
addressee_at letters place = option_and_then goes_to (slice_get letters place)

-- what is left where the node at a place came to be this one, with this outcome
abbrev pub next : Stage → ℕ → NumberedNode → Result Effect Refusal → Stage
next stage place node outcome =
    record {
      controller = stage.controller;
      nodes = slice_set stage.nodes place node;
      first = stage.first;
      letters = stage.letters ++ letters_in outcome;
    }

-- the node of this number, whose log has these limits
pub record IsNode (limits : Limits) (number : ℕ) (m : NumberedNode) (x : Node) : Type 0 where
  pub number_is : m.number ≡ number
  pub limits_are : m.limits ≡ limits
  pub state : x ≡ m.state

-- the world has this record, these nodes, each at the place of its number, and from the first number on messages with these letters
pub record IsShown (limits : Limits) (stage : Stage) (w : World) : Type 0 where
  pub controller_is : w.controller ≡ stage.controller
  pub count : w.count ≡ length stage.nodes
  pub nodes_are : (n : ℕ) (d : NumberedNode) → n < length stage.nodes → IsNode limits n (slice_index_or stage.nodes n d) (w.nodes n)
  pub earlier : stage.first ≤ length w.messages
  pub letters_are : drop stage.first (map letter_of w.messages) ≡ stage.letters

-- a receipt that is told names a batch that stands in this log
abbrev pub KeepsReceipt : List Batch → Result EventAnswer Refusal → Type 0
KeepsReceipt log (Ok (Answered answer)) = NamesIn log (Ok (Answers answer))
KeepsReceipt log (Ok _) = Unit {0}
KeepsReceipt log (Err refusal) = Unit {0}

-- in the log of the node that answers
abbrev pub HasReceipt : Event → World → Result EventAnswer Refusal → Type 0
HasReceipt (Elect n) w outcome = Unit {0}
HasReceipt (Acts n act) w outcome = KeepsReceipt (w.nodes n).log outcome
HasReceipt (Deliver number) w outcome = Unit {0}
