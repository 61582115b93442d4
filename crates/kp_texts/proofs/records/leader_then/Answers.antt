use Rattle.std.proofs.Common.{codes, arith}
use Rattle.kp_words.proofs.Numbers.{same_between}
use Rattle.kp_texts.proofs.Fronts.{space}
use Rattle.kp_texts.proofs.RecordFronts.{not_leader}
use Rattle.kp_texts.proofs.records.leader_then.Goals as goal

pub returns-in_default-number_between-clause-none : goal.returns-in_default-number_between-clause-none
returns-in_default-number_between-clause-none c = not_leader c.args.nodes c.args.bytes.now c.in_default.ensures.none (λ l rest range e.
    c.in_default-number_between.ensures.none l.node _ (omega (arith, range.0, c.from-greatest.ensures)) e)

pub returns-in_default-number_between-2-clause-none : goal.returns-in_default-number_between-2-clause-none
returns-in_default-number_between-2-clause-none c = not_leader c.args.nodes c.args.bytes.now c.in_default.ensures.none (λ l rest range e.
    let node = c.in-Some-number_between in
    let first = same_between (codes "leader ") c.args.bytes.now 32 node.node l.node node.rest.now _ space (omega (arith, node.ensures.found.1, c.from-greatest.ensures)) (omega (arith, range.0)) node.ensures.found.0 e in
    c.in_default-number_between-2.ensures.none l.epoch _ (omega (arith, range.1, c.from.ensures)) first.1)

pub returns-in-None-clause-none : goal.returns-in-None-clause-none
returns-in-None-clause-none c = not_leader c.args.nodes c.args.bytes.now c.in_default.ensures.none (λ l rest range e.
    let node = c.in-Some-number_between in
    let epoch = c.in-Some-number_between-2 in
    let first = same_between (codes "leader ") c.args.bytes.now 32 node.node l.node node.rest.now _ space (omega (arith, node.ensures.found.1, c.from-greatest.ensures)) (omega (arith, range.0)) node.ensures.found.0 e in
    let second = same_between (codes "epoch ") node.rest.now 32 epoch.epoch l.epoch epoch.rest.now _ space (omega (arith, epoch.ensures.found.1, c.from.ensures)) (omega (arith, range.1)) epoch.ensures.found.0 first.1 in
    c.in-None.ensures.none rest second.1)
