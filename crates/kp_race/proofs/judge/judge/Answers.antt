use Rattle.std.proofs.Common.{map, subst, sym}
use Rattle.kp_race.specs.Agreement.{AllAgree, committed_as}
use Rattle.kp_race.proofs.Longest.{agree_within}
use Rattle.kp_race.proofs.judge.judge.Goals as goal

pub returns-clause-agree : goal.returns-clause-agree
returns-clause-agree g c =
    c.do_agree-agree.ensures.1 (subst (λ (lists : _). AllAgree (map (λ list. list.items) lists)) (sym c.deref.ensures.value)
    (agree_within (λ list. list.items) c.in_ok-lists.lists.items (map committed_as c.lists_of.new.pass.seen) c.in_ok-lists.ensures.seen))
