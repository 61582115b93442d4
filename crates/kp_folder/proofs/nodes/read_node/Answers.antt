use Rattle.std.proofs.Common.{rules, ◌⊎◌, ◌+◌, ◌<◌, ◌^◌, List, Option, sym, subst}
use Rattle.std.specs.Prelude.{IfSome}
use Rattle.kp_batch.specs.Batch.{Written}
use Rattle.kp_texts.specs.Seen.{seen_state}
use Rattle.kp_folder.specs.Bad.{IsStop, NoBatches, NoNode}
use Rattle.kp_folder.specs.Files.{Files}
use Rattle.kp_folder.specs.Left.{HasBatches}
use Rattle.kp_folder.proofs.Known.{fault_on, still}
use Rattle.kp_folder.proofs.NodeFacts.{batches_not_there, node_differs, node_there}
use Rattle.kp_folder.proofs.nodes.read_node.Goals as goal

pub returns-clause-node : goal.returns-clause-node
returns-clause-node g c =
    let known = g.F.ReadFolder.files c.args.folder.now in
    let s = seen_state c.in_ok-state.state in
    let max = c.args.limits.now.max_batch in
    let ws = c.deref.result.now in
    let low : c.in_ok-state.state.life + 1 < 2 ^ 64 = search rules in
    let then = g.F.ReadFolder.files c.read_state.new.folder in
    let kept = still known then (λ files. HasBatches files max c.args.node s.end ws) c.read_state.ensures.same
    (subst (λ (l : List Written). IfSome then (λ files. HasBatches files max c.args.node s.end l)) (sym c.deref.ensures.value) c.in_ok-batches.ensures.found) in
    node_there known c.args.limits.now c.args.node s ws c.node_of.result c.in_ok-state.ensures.found kept low c.node_of.ensures.node c.node_of.ensures.stands c.node_of.ensures.epochs

pub returns-clause-fault : goal.returns-clause-fault
returns-clause-fault g c =
    let known = g.F.ReadFolder.files c.args.folder.now in
    let s = seen_state c.in_ok-state.state in
    let max = c.args.limits.now.max_batch in
    let ws = c.deref.result.now in
    let then = g.F.ReadFolder.files c.read_state.new.folder in
    let kept = still known then (λ files. HasBatches files max c.args.node s.end ws) c.read_state.ensures.same
    (subst (λ (l : List Written). IfSome then (λ files. HasBatches files max c.args.node s.end l)) (sym c.deref.ensures.value) c.in_ok-batches.ensures.found) in
    let low : c.in_ok-state.state.life + 1 < 2 ^ 64 = search rules in
    node_differs known max c.args.node s ws c.node_of.result c.in_ok-state.ensures.found kept low c.node_of.ensures.fault

pub returns-in_err-batches-clause-fault : goal.returns-in_err-batches-clause-fault
returns-in_err-batches-clause-fault g c =
    let known = g.F.ReadFolder.files c.args.folder.now in
    let s = seen_state c.in_ok-state.state in
    let max = c.args.limits.now.max_batch in
    let fault = c.in_err-batches.field-0.0 in
    let low : c.in_ok-state.state.life + 1 < 2 ^ 64 = search rules in
    let bad = subst (λ (o : Option Files). IsStop fault ⊎ IfSome o (λ files. NoBatches files max c.args.node s.end fault)) c.read_state.ensures.same c.in_err-batches.ensures.fault in
    fault_on c.from_residual-in_err-batches.result fault known (λ files f. NoNode files max c.args.node f) (λ files f. NoNode files max c.args.node f)
    c.from_residual-in_err-batches.ensures.1 (λ files no. no) (batches_not_there known max c.args.node s fault c.in_ok-state.ensures.found low bad)
