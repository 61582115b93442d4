use Rattle.std.proofs.Common.{◌<◌, length, subst, sym, arith, ◌∙◌, refl}
use Rattle.std.specs.Prelude.{All}
use Rattle.std.proofs.lemmas.Bool.{false≢true}
use Rattle.std.proofs.lemmas.List.Elements.{AllWithin-more, at_read}
use Rattle.kp_model.specs.Beginning.{Begins}
use Rattle.kp_race.proofs.Longest.{agree_within, begin_longest}
use Rattle.kp_race.proofs.agreement.do_agree.Goals as goal

pub returns-then-not-begins : goal.returns-then-not-begins
returns-then-not-begins c =
    let whole = c.longest_of-longest.result.now in
    let within : c.loop-list.list-index < length c.args.lists.now = omega arith in (
      λ e. absurd (false≢true e),
      λ agree.
          let each = begin_longest (λ list. list.items) c.args.lists.now whole c.longest_of-longest.ensures.among c.longest_of-longest.ensures.longest agree in
          let here = subst (λ (list : _). Begins list.items whole) (sym c.list-item.is) (each c.loop-list.list-index c.list-item.result within) in
          let test = c.begins.ensures.1 (subst (λ (s : _). Begins s whole) (sym c.as_slice.ensures.value) here) in
          absurd (false≢true (sym c.if-not-begins.true ∙ test)),
    )

pub loop-list-preserved : goal.loop-list-preserved
loop-list-preserved c =
    let whole = c.longest_of-longest.result.now in
    let within : c.loop-list.list-index < length c.args.lists.now = omega arith in
    let test = c.begins.ensures.0 c.if-not-begins.false in
    let here = subst (λ (s : _). Begins s whole) c.as_slice.ensures.value test in
    AllWithin-more (λ list. Begins list.items whole) c.args.lists.now 0 c.loop-list.list-index c.loop-list.invariant
    (at_read c.args.lists.now (λ list. Begins list.items whole) c.loop-list.list-index c.list-item.result within c.list-item.is here)

pub returns : goal.returns
returns c =
    let whole = c.longest_of-longest.result.now in
    let each : All (λ list. Begins list.items whole) c.args.lists.now = λ k d within. c.loop-list.invariant k d (omega arith) (omega (arith, c.loop-list-test.false)) in
    (λ e. agree_within (λ list. list.items) c.args.lists.now whole each, λ agree. refl)
