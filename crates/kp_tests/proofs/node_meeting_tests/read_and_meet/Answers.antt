use Rattle.std.proofs.Common.{subst}
use Rattle.kp_model.specs.Beginning.{Begins}
use Rattle.kp_model.specs.Run.{held}
use Rattle.kp_model.proofs.Plain.Beginnings.{Begins-trans}
use Rattle.kp_tests.proofs.node_meeting_tests.read_and_meet.Goals as goal

pub returns-clause-zero : goal.returns-clause-zero
returns-clause-zero g c =
    let told = c.in_ok-of_zero.ensures.saw.1.told in
    let own = subst (λ (x : _). Begins (held x) c.read.new.caller.seen) c.log-first.ensures.shown told in
    (Begins-trans own c.meet.ensures.left.0, Begins-trans own c.meet.ensures.right.0)

pub returns-clause-one : goal.returns-clause-one
returns-clause-one g c =
    let told = c.in_ok-of_one.ensures.saw.1.told in
    let own = subst (λ (x : _). Begins (held x) c.read-2.new.caller.seen) c.log-second.ensures.shown told in
    (Begins-trans own c.meet.ensures.left.1, Begins-trans own c.meet.ensures.right.1)
