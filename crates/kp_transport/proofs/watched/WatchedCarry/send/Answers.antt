use Rattle.std.proofs.Common.{rules}
use Rattle.kp_transport.proofs.watched.WatchedCarry.send.Goals as goal

pub returns-then-is_err : goal.returns-then-is_err
returns-then-is_err c = search rules
