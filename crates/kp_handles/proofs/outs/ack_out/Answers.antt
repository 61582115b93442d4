use Rattle.std.proofs.Common.{rules}
use Rattle.kp_handles.proofs.outs.ack_out.Goals as goal

pub returns-in-Lost : goal.returns-in-Lost
returns-in-Lost c = search rules
