-- What is left of a board's nodes when it is closed (own rule).
use Rattle.std.specs.Prelude.{◌≡◌, ℕ, ◌+◌, ◌-◌, ◌<◌, ◌^◌, nat_le, if◌then◌else◌, List, [], ◌∷◌}
use Rattle.kp_types.specs.declared.refusal.Refusal.{Refusal}
use Rattle.kp_types.specs.declared.refusal.Refusal.TheVariants.{Memory, RecordFull}
use Rattle.kp_model.specs.World.{Down}
use Rattle.kp_model.specs.Left.{again, left_of}
use Rattle.kp_replica.specs.NumberedNode.{NumberedNode}
use Rattle.kp_node.specs.Seated.{SeatedNode}

-- the node down, with all else that it has
abbrev pub stopped_node : NumberedNode → NumberedNode
stopped_node x = record x { state = record x.state { mode = Down } }

-- and its pass shows it so
abbrev pub stopped : SeatedNode → SeatedNode
stopped s = record { node = stopped_node s.node; pass = record s.pass { state = (stopped_node s.node).state } }

-- the node as a new process has it: down, in its next life, with its high watermark at its checkpoint
abbrev pub next_life : NumberedNode → NumberedNode
next_life x = record x { state = again (left_of x.state) }

-- The new node is the old one, in its next life, and it has one.
abbrev pub IsNext : NumberedNode → NumberedNode → Type 0
IsNext old new = (new ≡ next_life old) × (old.state.life + 1 < 2 ^ 64)

-- Why a node has no next life: it is in the greatest one. Else memory was refused.
abbrev pub IsNoNextLife : ℕ → Refusal → Type 0
IsNoNextLife life refusal = refusal ≡ (if nat_le (2 ^ 64 - 1) life then RecordFull else Memory)

-- The node is that of the pass, in its next life.
pub record IsReady (s : SeatedNode) : Type 0 where
  pub state : s.node.state ≡ again (left_of s.pass.state)
  pub number : s.node.number ≡ s.pass.number
  pub life : s.pass.state.life + 1 < 2 ^ 64

abbrev pub AreReady : List SeatedNode → Type 0
AreReady [] = Unit {0}
AreReady (s ∷ ss) = IsReady s × AreReady ss
