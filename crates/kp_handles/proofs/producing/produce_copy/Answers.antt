use Rattle.std.proofs.Common.{ℕ, List, subst}
use Rattle.kp_node.specs.CallerCalls.{Produces}
use Rattle.kp_handles.proofs.producing.produce_copy.Goals as goal

pub returns-in-Ok-clause-made : goal.returns-in-Ok-clause-made
returns-in-Ok-clause-made g c =
    let e = c.produce.ensures in
    subst (λ (bytes : List ℕ). Produces bytes c.args.node.now c.produce.new.self c.args.caller.now.pass c.produce.new.caller c.produce.result) c.in-Ok.ensures.copied e
