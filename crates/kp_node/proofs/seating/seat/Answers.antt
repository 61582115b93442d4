use Rattle.std.proofs.Common.{arith, ◌≡◌, ◌∙◌, ℕ, Some, length, sym, ap}
use Rattle.std.specs.Prelude.{slice_get}
use Rattle.std.proofs.lemmas.List.{length-map}
use Rattle.kp_board.specs.Views.{new_node}
use Rattle.kp_node.specs.Seats.{fresh_seat, new_seat}
use Rattle.kp_node.proofs.SeatFacts.{mapped_at}
use Rattle.kp_node.proofs.seating.seat.Goals as goal

pub returns-clause-nodes : goal.returns-clause-nodes
returns-clause-nodes g c =
    let limits = c.args.limits.now in
    let n : ℕ = c.in_ok-board.board in
    let at : c.in_ok-board-2.board.value ≡ n = c.in_ok-board-2.ensures.ok in
    let is = c.in_ok-nodes.ensures.nodes in
    let passes = c.in_ok-board.passes.items in
    let p = c.in_ok-board.ensures.passes in (
      ap length is ∙ length-map passes (λ f. fresh_seat limits f.pass) ∙ p.0 ∙ sym at,
      λ k l. ap (λ xs. slice_get xs k) is ∙ mapped_at (λ f. f.pass) (fresh_seat limits) passes k (new_node n k) (p.1 k (omega arith))
          ∙ ap (λ (m : ℕ). Some (new_seat limits m k)) (sym at),
    )
