-- A node with its pass (own rule).
use Rattle.kp_replica.specs.NumberedNode.{NumberedNode}
use Rattle.kp_board.specs.Views.{NodeView}

-- the node, up or down, and what its pass shows
pub record SeatedNode : Type 0 where
  pub node : NumberedNode
  pub pass : NodeView
