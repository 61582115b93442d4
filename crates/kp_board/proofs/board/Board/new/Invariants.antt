use Rattle.std.proofs.Common.{◌≡◌, ℕ, ◌<◌, [], length, map, Some}
use Rattle.std.specs.Prelude.{slice_get}
use Rattle.kp_board.specs.Views.{founder, new_node}
use Rattle.kp_board.proofs.board.Board.new.Given as goal

abbrev pub invariant-loop-number : goal.invariant-loop-number
invariant-loop-number g l =
    (l.first.table_id ≡ l.table.shared.table_id) × (l.first.me ≡ (founder l.number l.table.shared.key 0, []))
    × (length l.passes.items ≡ l.number)
    × ((k : ℕ) → k < l.number → slice_get (map (λ f. f.pass) l.passes.items) k ≡ Some (new_node l.nodes k))
