use Rattle.std.proofs.Common.{◌≡◌, ℕ, ◌<◌, [], length, map, Some}
use Rattle.std.specs.Prelude.{slice_get}
use Rattle.kp_board.specs.Views.{founder, opened_node}
use Rattle.kp_board.proofs.board.Board.again.Given as goal

abbrev pub invariant-loop-node : goal.invariant-loop-node
invariant-loop-node g l =
    (l.first.table_id ≡ l.table.shared.table_id) × (l.first.me ≡ (founder l.node l.table.shared.key 0, []))
    × (length l.passes.items ≡ l.node)
    × ((k : ℕ) → k < l.node → slice_get (map (λ f. f.pass) l.passes.items) k ≡ Some (opened_node l.table.shared.key k))
