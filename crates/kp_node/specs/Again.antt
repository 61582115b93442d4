-- What a host hands over that opens again what a process has left (own rule).
use Rattle.std.specs.Prelude.{◌≡◌, ℕ, ◌+◌, ◌<◌, ◌≤◌, ◌^◌, List, map, length}
use Rattle.kp_model.specs.Log.{Batch}
use Rattle.kp_model.specs.World.{LeaderAndIsr, Node}
use Rattle.kp_model.specs.Run.{BeginsHeld, Run}
use Rattle.kp_replica.specs.NumberedNode.{NumberedNode}
use Rattle.kp_model.specs.Left.{LeftBehind, Opening, WasLeft, again, left_node}

-- Some run left this record and these nodes, which are in their next lives, and had held what is promised.
pub record WereLeft (c : LeaderAndIsr) (nodes : List NumberedNode) (promised : List Batch) : Type 0 where
  pub left : LeftBehind
  pub run : Run (length left.nodes)
  pub was : WasLeft left run
  pub lives : (k : ℕ) → k < length left.nodes → (left_node left k).life + 1 < 2 ^ 64
  pub held : BeginsHeld run promised
  pub record_is : c ≡ left.controller
  pub nodes_are : map (λ m. m.state) nodes ≡ map again left.nodes

-- what a board opens with then
abbrev pub opening_of : LeaderAndIsr → List NumberedNode → List Batch → Opening
opening_of c nodes promised = record { count = length nodes; controller = c; nodes = map (λ m. m.state) nodes; promised = promised }
