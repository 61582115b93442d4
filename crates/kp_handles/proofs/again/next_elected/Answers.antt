use Rattle.kp_handles.proofs.Elected.{next_of}
use Rattle.kp_handles.proofs.again.next_elected.Goals as goal

pub returns-in-Some : goal.returns-in-Some
returns-in-Some c = next_of c.args.known.now c.args.node c.in-Some.record c.in-Some.ensures.found c.elected.result c.elected.ensures.refused c.elected.ensures.elected
