use Rattle.kp_handles.proofs.Names.{of_misuse}
use Rattle.kp_handles.proofs.numbers.name_of.Goals as goal

pub returns-in-Some-misuse_of : goal.returns-in-Some-misuse_of
returns-in-Some-misuse_of c = of_misuse _ _ c.in-Some-misuse_of.misuse c.in-Some-misuse_of.ensures.some c.misuse_name.ensures
