use Rattle.std.proofs.Common.{Option, Bor, sym, ap, ◌∙◌}
use Rattle.std.specs.Option.{option_copied}
use Rattle.kp_model.specs.Raising.{least_end}
use Rattle.kp_model.specs.Set.{members_of}
use Rattle.kp_model.specs.declared.record.NodeSet.{NodeSet}
use Rattle.kp_insync.specs.Reports.{ends_over, members_in}
use Rattle.kp_insync.proofs.Least.{both_known}
use Rattle.kp_insync.proofs.positions.Positions.least_end.Goals as goal

pub returns-in-Some-clause-least : goal.returns-in-Some-clause-least
returns-in-Some-clause-least c =
    let reported = c.args.self.now in
    let own = c.args.own in
    let known = c.args.known.now in
    c.least_with-in-Some.ensures.least
    ∙ both_known reported own c.args.end (members_of known) (members_of c.in-Some.pending.now) c.in_ok-least.least c.in_ok-least.ensures.least
    ∙ ap (λ (o : Option (Bor NodeSet)). least_end (ends_over (members_in known (option_copied o)) own c.args.end reported)) (sym c.in-Some.is)
