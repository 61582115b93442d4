use Rattle.std.proofs.Common.{arith}
use Rattle.kp_texts.proofs.Fronts.{after_checkpoint, after_end, after_kept, after_life, end_front}
use Rattle.kp_texts.proofs.states.numbers_of.Goals as goal

pub returns-in_default-clause-none : goal.returns-in_default-clause-none
returns-in_default-clause-none c = λ numbers rest range e.
    c.in_default.ensures.none numbers.checkpoint _ range.checkpoint e

pub returns-in_default-number_between-clause-none : goal.returns-in_default-number_between-clause-none
returns-in_default-number_between-clause-none c = λ numbers rest range e.
    let found = c.in-Some.ensures.found in
    let first = after_checkpoint c.args.lines.now c.in-Some.rest.now c.in-Some.checkpoint numbers rest found.1 range found.0 e in
    c.in_default-number_between.ensures.none numbers.life _ (omega (arith, range.life)) first.1

pub returns-in_default-kept_then-clause-none : goal.returns-in_default-kept_then-clause-none
returns-in_default-kept_then-clause-none c = λ numbers rest range e.
    let found = c.in-Some.ensures.found in
    let life = c.in-Some-number_between.ensures.found in
    let first = after_checkpoint c.args.lines.now c.in-Some.rest.now c.in-Some.checkpoint numbers rest found.1 range found.0 e in
    let second = after_life c.in-Some.rest.now c.in-Some-number_between.rest.now c.in-Some-number_between.life numbers rest (omega (arith, life.1)) range life.0 first.1 in
    c.in_default-kept_then.ensures.none numbers.kept (end_front numbers rest) range.kept second.1

pub returns-in_default-number_between-2-clause-none : goal.returns-in_default-number_between-2-clause-none
returns-in_default-number_between-2-clause-none c = λ numbers rest range e.
    let found = c.in-Some.ensures.found in
    let life = c.in-Some-number_between.ensures.found in
    let kept = c.in-Some-kept_then.ensures.found in
    let first = after_checkpoint c.args.lines.now c.in-Some.rest.now c.in-Some.checkpoint numbers rest found.1 range found.0 e in
    let second = after_life c.in-Some.rest.now c.in-Some-number_between.rest.now c.in-Some-number_between.life numbers rest (omega (arith, life.1)) range life.0 first.1 in
    let third = after_kept c.in-Some-kept_then.kept numbers.kept c.in-Some-number_between.rest.now c.in-Some-kept_then.rest.now (end_front numbers rest) kept.1 range.kept kept.0 second.1 in
    c.in_default-number_between-2.ensures.none numbers.end _ range.end third.1

pub returns-in_default-after-clause-none : goal.returns-in_default-after-clause-none
returns-in_default-after-clause-none c = λ numbers rest range e.
    let found = c.in-Some.ensures.found in
    let life = c.in-Some-number_between.ensures.found in
    let kept = c.in-Some-kept_then.ensures.found in
    let end = c.in-Some-number_between-2.ensures.found in
    let first = after_checkpoint c.args.lines.now c.in-Some.rest.now c.in-Some.checkpoint numbers rest found.1 range found.0 e in
    let second = after_life c.in-Some.rest.now c.in-Some-number_between.rest.now c.in-Some-number_between.life numbers rest (omega (arith, life.1)) range life.0 first.1 in
    let third = after_kept c.in-Some-kept_then.kept numbers.kept c.in-Some-number_between.rest.now c.in-Some-kept_then.rest.now (end_front numbers rest) kept.1 range.kept kept.0 second.1 in
    let fourth = after_end c.in-Some-kept_then.rest.now c.in-Some-number_between-2.rest.now c.in-Some-number_between-2.end numbers rest end.1 range end.0 third.1 in
    c.in_default-after.ensures.none rest fourth.1
