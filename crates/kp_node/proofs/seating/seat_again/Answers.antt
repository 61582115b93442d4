use Rattle.std.proofs.Common.{arith, ◌≡◌, ◌∙◌, ◌<◌, ℕ, length, map, sym}
use Rattle.std.proofs.lemmas.List.{length-map}
use Rattle.kp_node.proofs.SeatFacts.{opened_seats}
use Rattle.kp_node.proofs.seating.seat_again.Goals as goal

pub nodes_again-requires : goal.nodes_again-requires
nodes_again-requires g c =
    let passes = c.in_ok-board.passes.items in
    let p = c.in_ok-board.ensures.passes in
    let n = c.in_ok-board.ensures.nodes in
    let wide = length-map passes (λ f. f.pass) in
    record {
      seats = (opened_seats c.args.opened.opening (map (λ f. f.pass) passes) c.args.kept.items (wide ∙ p.0 ∙ n.1 ∙ c.requires.count)
          (λ i l. p.1 i (omega arith)) c.requires.nodes c.requires.numbers).0;
    }

pub returns-clause-nodes : goal.returns-clause-nodes
returns-clause-nodes g c =
    let passes = c.in_ok-board.passes.items in
    let p = c.in_ok-board.ensures.passes in
    let n = c.in_ok-board.ensures.nodes in
    let wide = length-map passes (λ f. f.pass) in
    c.in_ok-nodes.ensures.nodes
    ∙ (opened_seats c.args.opened.opening (map (λ f. f.pass) passes) c.args.kept.items (wide ∙ p.0 ∙ n.1 ∙ c.requires.count)
    (λ i l. p.1 i (omega arith)) c.requires.nodes c.requires.numbers).1
