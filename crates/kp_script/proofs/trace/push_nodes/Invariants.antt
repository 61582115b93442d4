use Rattle.std.proofs.Common.{◌≡◌, ◌++◌, take}
use Rattle.kp_model.specs.Set.{numbers_of}
use Rattle.kp_script.specs.Trace.{nodes_text}
use Rattle.kp_script.proofs.Tracing.{is_none}
use Rattle.kp_script.proofs.trace.push_nodes.Given as goal

abbrev pub invariant-loop-node : goal.invariant-loop-node
invariant-loop-node l = record {
  text : l.text.items ≡ l.initial.text.items ++ nodes_text (numbers_of 0 (take l.node l.set.members));
  first : l.first ≡ is_none (numbers_of 0 (take l.node l.set.members));
}
