-- What a board leaves that is closed (own rule).
use Rattle.std.specs.Prelude.{◌≡◌, ℕ, ◌+◌, List, [], ◌∷◌, length, map}
use Rattle.kp_model.specs.Log.{Batch}
use Rattle.kp_model.specs.World.{LeaderAndIsr}
use Rattle.kp_model.specs.Run.{BeginsHeld, Run}
use Rattle.kp_model.specs.Left.{LeftBehind, WasLeft, left_of}
use Rattle.kp_board.specs.Views.{NodeView}

-- the passes of the nodes from k on, in their order
abbrev pub AreFrom : ℕ → List NodeView → Type 0
AreFrom k [] = Unit {0}
AreFrom k (p ∷ ps) = (p.number ≡ k) × AreFrom (k + 1) ps

-- this record, and what these passes show of their nodes
abbrev pub left_behind : LeaderAndIsr → List NodeView → LeftBehind
left_behind c ps = record { controller = c; nodes = map (λ p. left_of p.state) ps }

-- Some run left this record and these nodes, and some node of it held what a caller has seen.
pub record WasClosed (c : LeaderAndIsr) (seen : List Batch) (ps : List NodeView) : Type 0 where
  pub run : Run (length (left_behind c ps).nodes)
  pub was : WasLeft (left_behind c ps) run
  pub held : BeginsHeld run seen
