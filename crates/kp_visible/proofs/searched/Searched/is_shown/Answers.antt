use Rattle.std.proofs.Common.{rules}
use Rattle.kp_visible.proofs.searched.Searched.is_shown.Goals as goal

pub returns-in_default-clause-shown : goal.returns-in_default-clause-shown
returns-in_default-clause-shown c = search rules
