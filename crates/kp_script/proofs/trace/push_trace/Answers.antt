use Rattle.std.proofs.Common.{rules, ℕ, ◌≡◌, ◌∙◌, ◌++◌, length, ap}
use Rattle.kp_world.specs.Answers.{outcome_of}
use Rattle.kp_script.specs.Trace.{trace_line}
use Rattle.kp_script.proofs.Tracing.{grown, traced_more}
use Rattle.kp_script.proofs.trace.push_trace.Goals as goal
use Rattle.std.proofs.lemmas.Slice.Zip.{zip_turn}
use Rattle.kp_script.specs.Call.{node_of}
use Rattle.kp_script.specs.Seen.{seen_call}
use Rattle.kp_script.specs.declared.script.Line.{Line}
use Rattle.std.specs.Slice.Iter.{iter_rest}
use Rattle.std.specs.Iterator.Adapters.{zip_first, zip_second}
use Rattle.std.proofs.lemmas.List.{length_push}

pub loop-line-preserved : goal.loop-line-preserved
loop-line-preserved c =
    let first : iter_rest (zip_first c.into_iter-line-iterator.result) ≡ c.args.lines.now = search rules in
    let second : iter_rest (zip_second c.into_iter-line-iterator.result) ≡ c.args.outcomes.now = search rules in
    let turn = zip_turn c.args.lines.now c.args.outcomes.now c.loop-line.yielded c.into_iter-line-iterator.result c.loop-line.line-iterator c.next.new.self c.next.result
    first second c.loop-line.yielded_by (c.in-Some.line, c.in-Some.outcome) c.in-Some.is c.next.ensures.steps in
    let more = traced_more (λ (l : Line). (l.number, node_of (seen_call l.call))) outcome_of c.args.lines.now c.args.outcomes.now (length c.loop-line.yielded)
    c.in-Some.line.now c.in-Some.outcome.now turn.0 turn.1 (turn.2 c.in-Some.line.now) (turn.3 c.in-Some.outcome.now) in
    let line : c.push_event.new.text.items ≡ c.loop-line.text.items ++ trace_line c.in-Some.line.now.number (node_of (seen_call c.in-Some.line.now.call)) (outcome_of c.in-Some.outcome.now) =
    c.in_ok-push_event.ensures
    ∙ ap (λ (node : ℕ). c.loop-line.text.items ++ trace_line c.in-Some.line.now.number node (outcome_of c.in-Some.outcome.now)) c.node.ensures
    in
    rw length_push (grown _ _ _ _ _ _ line c.loop-line.invariant more)
