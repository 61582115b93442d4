use Rattle.std.proofs.Common.{◌≡◌, map, subst, sym, true}
use Rattle.clap.specs.Faults.{is_simple_and_free}
use Rattle.clap.specs.Words.{App, FailsBy, fault_of}
use Rattle.kp_cli.proofs.Taken.{kpart_is_free}
use Rattle.kp_cli.proofs.line.matches_of.Goals as goal

pub returns-clause-kinds : goal.returns-clause-kinds
returns-clause-kinds g c =
    subst (λ (app : App). FailsBy (fault_of app (map g.S.AsStr.text c.args.words.now)) c.try_get_matches_from.result) c.in_ok-command.ensures
    (c.try_get_matches_from.ensures.kinds (subst (λ (app : App). is_simple_and_free app ≡ true) (sym c.in_ok-command.ensures) kpart_is_free))
