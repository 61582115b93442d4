-- The nodes of a board that is opened, each with its pass (own rule).
use Rattle.std.specs.Prelude.{◌≡◌, ℕ, ◌+◌, List, [], ◌∷◌}
use Rattle.kp_types.specs.declared.limits.Limits.{Limits}
use Rattle.kp_model.specs.Left.{Opening}
use Rattle.kp_model.specs.World.{fresh}
use Rattle.kp_board.specs.Views.{NodeView, new_node, opened_node}
use Rattle.kp_replica.specs.NumberedNode.{NumberedNode}
use Rattle.kp_node.specs.Seated.{SeatedNode}

-- a node as at the start, with an empty log, and its pass
abbrev pub fresh_seat : Limits → NodeView → SeatedNode
fresh_seat limits p = record { node = record { number = p.number; limits = limits; state = fresh }; pass = p }

-- node k of a new board of n nodes
abbrev pub new_seat : Limits → (n k : ℕ) → SeatedNode
new_seat limits n k = fresh_seat limits (new_node n k)

-- the nodes have the numbers from k on, in their order
abbrev pub AreNumbered : (k : ℕ) → List NumberedNode → Type 0
AreNumbered k [] = Unit {0}
AreNumbered k (x ∷ xs) = (x.number ≡ k) × AreNumbered (k + 1) xs

-- the nodes from k on, as the board opened with them
abbrev pub left_seats : Opening → (k : ℕ) → List NumberedNode → List SeatedNode
left_seats o k [] = []
left_seats o k (x ∷ xs) = record { node = x; pass = opened_node o k } ∷ left_seats o (k + 1) xs

-- ---- what two lists come to

-- each pass is its node's
abbrev pub AreSeats : List NodeView → List NumberedNode → Type 0
AreSeats [] [] = Unit {0}
AreSeats (p ∷ ps) (x ∷ xs) = (x.number ≡ p.number) × (x.state ≡ p.state) × AreSeats ps xs
AreSeats _ _ = ⊥

abbrev pub seated : List NodeView → List NumberedNode → List SeatedNode
seated [] xs = []
seated (p ∷ ps) [] = []
seated (p ∷ ps) (x ∷ xs) = record { node = x; pass = p } ∷ seated ps xs
