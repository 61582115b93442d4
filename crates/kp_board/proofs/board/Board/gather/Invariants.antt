use Rattle.std.proofs.Common.{◌≡◌}
use Rattle.kp_board.proofs.board.Board.gather.Given as goal

abbrev pub invariant-loop-node : goal.invariant-loop-node
invariant-loop-node g l = l.closing ≡ record { seen = l.fn.pass.seen; nodes = l.yielded }
