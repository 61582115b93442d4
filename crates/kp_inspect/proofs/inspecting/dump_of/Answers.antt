use Rattle.std.proofs.Common.{rules}
use Rattle.kp_inspect.proofs.inspecting.dump_of.Goals as goal

pub returns-clause-told : goal.returns-clause-told
returns-clause-told c = search rules

pub text_of-requires : goal.text_of-requires
text_of-requires c = search rules
