use Rattle.std.proofs.Common.{◌++◌, ap, subst, map, ◌∙◌, refl}
use Rattle.kp_model.specs.Beginning.{Begins}
use Rattle.kp_model.specs.Log.{IsLog}
use Rattle.kp_model.specs.Run.{held}
use Rattle.kp_model.proofs.Plain.Beginnings.{Begins-refl, Begins-trans}
use Rattle.kp_log.specs.Logged.{reaching}
use Rattle.kp_race.specs.Agreement.{committed_as}
use Rattle.kp_race.proofs.Pieces.{all_held}
use Rattle.kp_race.proofs.held.held_by.Goals as goal

pub loop-list-init : goal.loop-list-init
loop-list-init g c =
    let x = c.args.node.now.node.state in
    let lawful = subst (λ (l : _). IsLog l.log) c.log.ensures.value c.end_offset-end.ensures.lawful in
    record {
      same = refl;
      read = ap (λ (s : _). s ++ map committed_as (reaching 0 (held x))) c.new-list.ensures.items ∙ ap (map committed_as) (all_held x lawful);
      seen = Begins-refl c.args.pass.now.seen;
    }

pub returns-clause-seen : goal.returns-clause-seen
returns-clause-seen g c =
    let saw = c.in_ok-next.ensures.saw in
    let old = c.loop-list.invariant.seen in
    let same = c.loop-list.invariant.same in (
      subst (λ (x : _). Begins (held x) c.read_on.new.pass.seen) (ap (λ (n : _). n.pass.state) same ∙ c.log.ensures.shown) saw.1.told,
      Begins-trans old saw.1.seen,
    )
