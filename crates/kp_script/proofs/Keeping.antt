-- What is kept of a stage that has nodes.
use Rattle.std.proofs.Common.{◌<◌, List, [], ◌∷◌, length, Option, arith}
use Rattle.kp_types.specs.Folders.{Entry}
use Rattle.kp_folder.specs.Kept.{KeepsRun, KeepsRunFront}
use Rattle.kp_replica.specs.NumberedNode.{NumberedNode}
use Rattle.kp_world.specs.Shown.{Stage}
use Rattle.kp_script.specs.Kept.{KeepsNodes, KeepsNodesFront, messages_kept}

pub keeps_some : (ms : List NumberedNode) (stage : Stage) (a b : Option (List Entry)) → 0 < length ms → KeepsRun stage.controller stage.nodes (messages_kept stage) a b → KeepsNodes ms stage a b
keeps_some [] stage a b some k = absurd (omega (arith, some))
keeps_some (m ∷ ms) stage a b some k = k

pub keeps_some_front : (ms : List NumberedNode) (stage : Stage) (a b : Option (List Entry)) → 0 < length ms → KeepsRunFront stage.controller stage.nodes (messages_kept stage) a b
    → KeepsNodesFront ms stage a b
keeps_some_front [] stage a b some k = absurd (omega (arith, some))
keeps_some_front (m ∷ ms) stage a b some k = k
