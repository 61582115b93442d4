use Rattle.std.proofs.Common.{◌≤◌, arith, codes}
use Rattle.kp_words.proofs.Numbers.{same_field}
use Rattle.kp_script.proofs.call.header_of.Goals as goal

pub returns-then-count-eq0-clause-none : goal.returns-then-count-eq0-clause-none
returns-then-count-eq0-clause-none c = λ header range e.
    let found = c.in-Some.ensures.found in
    let some : 1 ≤ header.count = range.least_count in
    let count : header.count ≤ 7 = range.greatest_count in
    let first = same_field (codes "nodes ") c.args.line.now c.in-Some.count header.count c.in-Some.rest.now _ (omega arith) (omega arith) found.0 e in
    omega (arith, c.if-count-eq0.true, first.0)

pub returns-in_default-field_then-clause-none : goal.returns-in_default-field_then-clause-none
returns-in_default-field_then-clause-none c = λ header range e.
    let found = c.in-Some.ensures.found in
    let count : header.count ≤ 7 = range.greatest_count in
    let most : header.segment ≤ 1073741824 = range.greatest_segment in
    let first = same_field (codes "nodes ") c.args.line.now c.in-Some.count header.count c.in-Some.rest.now _ (omega arith) (omega arith) found.0 e in
    c.in_default-field_then.ensures.none header.segment _ (omega arith) first.1

pub returns-then-segment-from-clause-none : goal.returns-then-segment-from-clause-none
returns-then-segment-from-clause-none c = λ header range e.
    let found = c.in-Some.ensures.found in
    let count : header.count ≤ 7 = range.greatest_count in
    let least : 1024 ≤ header.segment = range.least_segment in
    let most : header.segment ≤ 1073741824 = range.greatest_segment in
    let first = same_field (codes "nodes ") c.args.line.now c.in-Some.count header.count c.in-Some.rest.now _ (omega arith) (omega arith) found.0 e in
    let next = c.in-Some-field_then.ensures.found in
    let second = same_field (codes "segment ") c.in-Some.rest.now c.in-Some-field_then.segment header.segment c.in-Some-field_then.rest.now _ (omega arith) (omega arith) next.0 first.1 in
    omega (arith, second.0)

pub returns-in_default-last_field-clause-none : goal.returns-in_default-last_field-clause-none
returns-in_default-last_field-clause-none c = λ header range e.
    let found = c.in-Some.ensures.found in
    let count : header.count ≤ 7 = range.greatest_count in
    let most : header.segment ≤ 1073741824 = range.greatest_segment in
    let interval : header.interval ≤ 1048576 = range.interval in
    let first = same_field (codes "nodes ") c.args.line.now c.in-Some.count header.count c.in-Some.rest.now _ (omega arith) (omega arith) found.0 e in
    let next = c.in-Some-field_then.ensures.found in
    let second = same_field (codes "segment ") c.in-Some.rest.now c.in-Some-field_then.segment header.segment c.in-Some-field_then.rest.now _ (omega arith) (omega arith) next.0 first.1 in
    c.in_default-last_field.ensures.none header.interval (omega arith) second.1
