use Rattle.std.proofs.Common.{◌≡◌, take, map, length, ◌++◌}
use Rattle.kp_world.specs.Answers.{outcome_of}
use Rattle.kp_script.specs.Call.{node_of}
use Rattle.kp_script.specs.Seen.{seen_call}
use Rattle.kp_script.specs.Trace.{trace_text}
use Rattle.kp_script.proofs.trace.push_trace.Given as goal

abbrev pub invariant-loop-line : goal.invariant-loop-line
invariant-loop-line l =
    l.text.items
    ≡ l.fn.text.items ++ trace_text (map (λ x. (x.number, node_of (seen_call x.call))) (take (length l.yielded) l.lines)) (map outcome_of (take (length l.yielded) l.outcomes))
