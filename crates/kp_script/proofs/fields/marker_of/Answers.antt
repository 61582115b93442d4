use Rattle.std.proofs.Common.{[], arith}
use Rattle.kp_marker.specs.Marker.{commits}
use Rattle.kp_words.proofs.Numbers.{same_field}
use Rattle.kp_script.proofs.fields.marker_of.Goals as goal

pub returns-in_default-number_then-clause-none : goal.returns-in_default-number_then-clause-none
returns-in_default-number_then-clause-none c = λ handed e.
    let first = same_field [] c.args.bytes.now c.in-Some.timestamp handed.marker.timestamp c.in-Some.rest.now _ (omega (arith, c.in-Some.ensures.found.1)) (omega (arith, handed.time)) c.in-Some.ensures.found.0 e in
    c.in_default-number_then.ensures.none handed.marker.producer_id _ handed.producer first.1

pub returns-in_default-number_then-2-clause-none : goal.returns-in_default-number_then-2-clause-none
returns-in_default-number_then-2-clause-none c = λ handed e.
    let first = same_field [] c.args.bytes.now c.in-Some.timestamp handed.marker.timestamp c.in-Some.rest.now _ (omega (arith, c.in-Some.ensures.found.1)) (omega (arith, handed.time)) c.in-Some.ensures.found.0 e in
    let second = same_field [] c.in-Some.rest.now c.in-Some-number_then.producer_id handed.marker.producer_id c.in-Some-number_then.rest.now _ (omega (arith, c.in-Some-number_then.ensures.found.1)) (omega (arith, handed.producer)) c.in-Some-number_then.ensures.found.0 first.1 in
    c.in_default-number_then-2.ensures.none handed.marker.producer_epoch _ handed.epoch second.1

pub returns-in_default-number_then-3-clause-none : goal.returns-in_default-number_then-3-clause-none
returns-in_default-number_then-3-clause-none c = λ handed e.
    let first = same_field [] c.args.bytes.now c.in-Some.timestamp handed.marker.timestamp c.in-Some.rest.now _ (omega (arith, c.in-Some.ensures.found.1)) (omega (arith, handed.time)) c.in-Some.ensures.found.0 e in
    let second = same_field [] c.in-Some.rest.now c.in-Some-number_then.producer_id handed.marker.producer_id c.in-Some-number_then.rest.now _ (omega (arith, c.in-Some-number_then.ensures.found.1)) (omega (arith, handed.producer)) c.in-Some-number_then.ensures.found.0 first.1 in
    let third = same_field [] c.in-Some-number_then.rest.now c.in-Some-number_then-2.producer_epoch handed.marker.producer_epoch c.in-Some-number_then-2.rest.now _ (omega (arith, c.in-Some-number_then-2.ensures.found.1)) (omega (arith, handed.epoch)) c.in-Some-number_then-2.ensures.found.0 second.1 in
    c.in_default-number_then-3.ensures.none handed.marker.coordinator_epoch _ handed.coordinator third.1

pub returns-in_default-ending_of-clause-none : goal.returns-in_default-ending_of-clause-none
returns-in_default-ending_of-clause-none c = λ handed e.
    let first = same_field [] c.args.bytes.now c.in-Some.timestamp handed.marker.timestamp c.in-Some.rest.now _ (omega (arith, c.in-Some.ensures.found.1)) (omega (arith, handed.time)) c.in-Some.ensures.found.0 e in
    let second = same_field [] c.in-Some.rest.now c.in-Some-number_then.producer_id handed.marker.producer_id c.in-Some-number_then.rest.now _ (omega (arith, c.in-Some-number_then.ensures.found.1)) (omega (arith, handed.producer)) c.in-Some-number_then.ensures.found.0 first.1 in
    let third = same_field [] c.in-Some-number_then.rest.now c.in-Some-number_then-2.producer_epoch handed.marker.producer_epoch c.in-Some-number_then-2.rest.now _ (omega (arith, c.in-Some-number_then-2.ensures.found.1)) (omega (arith, handed.epoch)) c.in-Some-number_then-2.ensures.found.0 second.1 in
    let fourth = same_field [] c.in-Some-number_then-2.rest.now c.in-Some-number_then-3.coordinator_epoch handed.marker.coordinator_epoch c.in-Some-number_then-3.rest.now _ (omega (arith, c.in-Some-number_then-3.ensures.found.1)) (omega (arith, handed.coordinator)) c.in-Some-number_then-3.ensures.found.0 third.1 in
    c.in_default-ending_of.ensures.none (commits handed.marker.kind) fourth.1
