use Rattle.std.proofs.Common.{map, subst, sym}
use Rattle.kp_cli.specs.Line.{NamesCall}
use Rattle.kp_cli.proofs.Taken.{taken}
use Rattle.kp_cli.proofs.line.call_of.Goals as goal

pub call_in-requires : goal.call_in-requires
call_in-requires g c =
    subst NamesCall (sym c.in_ok-matches.ensures.matches)
    (taken (map g.S.AsStr.text c.args.words.now) c.in_ok-matches.ensures.kinds)
