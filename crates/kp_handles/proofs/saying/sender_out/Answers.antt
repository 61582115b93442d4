use Rattle.std.proofs.Common.{rules}
use Rattle.kp_handles.proofs.saying.sender_out.Goals as goal

pub returns-in-FetchAnswer : goal.returns-in-FetchAnswer
returns-in-FetchAnswer c = search rules
