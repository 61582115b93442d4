use Rattle.std.proofs.Common.{rules}
use Rattle.kp_handles.proofs.Elected.{next_decided}
use Rattle.kp_handles.proofs.again.next_decided.Goals as goal

pub returns-clause-decided : goal.returns-clause-decided
returns-clause-decided g c =
    next_decided c.args.known.now c.args.letter.now.object c.in-Some.record c.deref.result.now c.decided_by-next.result c.in-Some.ensures.found (search rules)
    c.decided_by-next.ensures.next c.decided_by-next.ensures.only
