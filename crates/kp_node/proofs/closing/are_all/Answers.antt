use Rattle.std.proofs.Common.{◌≡◌, arith}
use Rattle.kp_node.proofs.NextLives.{at_its_number, numbered_on}
use Rattle.kp_node.proofs.closing.are_all.Goals as goal

pub loop-index-preserved : goal.loop-index-preserved
loop-index-preserved g c =
    numbered_on c.args.nodes.now c.loop-index.index c.index-nodes-index.result c.loop-index-test.true c.index-nodes-index.is
    (omega (arith, c.number.ensures, c.from.ensures, c.if-from-index.false)) c.loop-index.invariant

pub returns-then-from-index-clause-all : goal.returns-then-from-index-clause-all
returns-then-from-index-clause-all g c = λ long are.
    let at = at_its_number c.args.nodes.now 0 c.loop-index.index c.index-nodes-index.result are (omega (arith, c.loop-index-test.true)) c.index-nodes-index.is in
    absurd (omega (arith, at, c.number.ensures, c.from.ensures, c.if-from-index.true))
