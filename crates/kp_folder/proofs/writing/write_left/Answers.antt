use Rattle.std.proofs.Common.{◌≡◌, ◌∙◌, ◌<◌, ℕ, List, [], ◌∷◌, length, map, get_or, ap, refl, sym, subst, arith}
use Rattle.std.proofs.lemmas.List.{get_or-map, length-map}
use Rattle.kp_types.specs.Devices.{device_of}
use Rattle.kp_types.specs.Folders.{PutsFront, file_entry}
use Rattle.kp_types.proofs.Causes.{always}
use Rattle.kp_model.specs.Set.{record_of}
use Rattle.kp_replica.specs.Broker.{node_at}
use Rattle.kp_replica.specs.declared.broker.Broker.{Broker}
use Rattle.kp_folder.specs.Files.{record_name}
use Rattle.kp_folder.specs.Kept.{kept_record}
use Rattle.kp_folder.proofs.KeptNodes.{kept_front, kept_more}
use Rattle.kp_folder.proofs.writing.write_left.Goals as goal

pub returns-in_err-write_record-clause-err : goal.returns-in_err-write_record-clause-err
returns-in_err-write_record-clause-err g c =
    let long : length c.args.nodes.now ≡ length (map node_at c.args.nodes.now) = sym (length-map c.args.nodes.now node_at) in
    let old = g.F.Folder.entries (device_of c.args.folder.now) in
    let now = g.F.Folder.entries (device_of c.write_record.new.folder) in
    always c.from_residual.result (
      0,
      [],
      refl,
      subst (λ (n : ℕ). PutsFront old now (file_entry record_name (kept_record (record_of c.args.controller.now) n c.args.messages) ∷ [])) long c.in_err-write_record.ensures.err,
    )

-- the node at a place
stands : (nodes : List Broker) (n : ℕ) (node : Broker) → n < length nodes → node ≡ get_or nodes n node → node_at node ≡ get_or (map node_at nodes) n (node_at node)
stands nodes n node within is = ap node_at is ∙ sym (get_or-map node_at nodes n node (node_at node) within)

pub returns-in_err-write_node-clause-err : goal.returns-in_err-write_node-clause-err
returns-in_err-write_node-clause-err g c =
    let nodes = c.args.nodes.now in
    let number = c.loop-number.number in
    let node = c.index-nodes-from.result in
    let below : number < length nodes = omega (arith, c.loop-number-test.true) in
    let within : number < length (map node_at nodes) = omega (arith, below, length-map nodes node_at) in
    always c.from_residual-in_err-write_node.result
    (kept_front _ _ _ _ (map node_at nodes) number (node_at node) c.loop-number.invariant.kept within (stands nodes number node below (subst (λ (n : ℕ). node ≡ get_or nodes n node) c.from.ensures c.index-nodes-from.is))
    (record_of c.args.controller.now) c.args.messages refl c.in_err-write_node.ensures.err)

pub loop-number-preserved : goal.loop-number-preserved
loop-number-preserved g c =
    let nodes = c.args.nodes.now in
    let number = c.loop-number.number in
    let node = c.index-nodes-from.result in
    let below : number < length nodes = omega (arith, c.loop-number-test.true) in
    let within : number < length (map node_at nodes) = omega (arith, below, length-map nodes node_at) in
    record {
      kept = kept_more _ _ _ _ (map node_at nodes) number (node_at node) c.loop-number.invariant.kept within (stands nodes number node below (subst (λ (n : ℕ). node ≡ get_or nodes n node) c.from.ensures c.index-nodes-from.is)) c.in_ok-write_node.ensures.ok;
      failed = c.in_ok-write_node.ensures.counted ∙ c.loop-number.invariant.failed;
      within = omega (arith, below);
      end = sym (length-map nodes node_at);
    }
