use Rattle.std.proofs.Common.{rules}
use Rattle.kp_embed.proofs.OpenedAgain.{opened_again}
use Rattle.kp_embed.proofs.again.open_board_again.Goals as goal

pub returns-in-Ok : goal.returns-in-Ok
returns-in-Ok c =
    opened_again c.args.known.now c.args.promise.now c.args.left.now.object c.take_left.new.handle.object c.args.cluster.now.object c.open_left.new.handle.object
    c.open_left.new.handle.table c.in-Ok.opened c.in_ok-nodes.nodes c.in-Some.record c.open_left.result c.in_ok-nodes.ensures.taken.0 c.in_ok-nodes.ensures.taken.1 (search rules)
    c.in-Some.ensures.found c.in-Ok.ensures.opened c.open_left.ensures.made c.open_left.ensures.table (search rules) c.open_left.ensures.only
