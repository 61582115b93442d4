use Rattle.std.proofs.Common.{◌≡◌, ◌∙◌, ◌<◌, ℕ, List, Option, length, map, ap, subst, arith}
use Rattle.std.proofs.lemmas.Result.{on_err_weaker, on_ok_weaker}
use Rattle.kp_types.specs.Devices.{device_of}
use Rattle.kp_model.specs.Set.{record_of}
use Rattle.kp_model.specs.World.{LeaderAndIsr}
use Rattle.kp_replica.specs.Broker.{node_at}
use Rattle.kp_replica.specs.NumberedNode.{NumberedNode}
use Rattle.kp_folder.specs.Kept.{KeepsRun, KeepsRunFront}
use Rattle.kp_world.specs.Shown.{Stage}
use Rattle.kp_script.specs.Ended.{RunEnd}
use Rattle.kp_script.specs.Kept.{messages_kept}
use Rattle.kp_script.proofs.Keeping.{keeps_some, keeps_some_front}
use Rattle.kp_script.proofs.ended.Ended.write_left.Goals as goal

-- what the parts are, those of the stage are
of_stage : (Keeps : LeaderAndIsr → List NumberedNode → Option ℕ → Type 0) (c : LeaderAndIsr) (ms : List NumberedNode) (sent : Option ℕ) (w s : Stage) → w ≡ s → c ≡ w.controller → ms ≡ w.nodes
    → sent ≡ messages_kept s → Keeps c ms sent → Keeps s.controller s.nodes (messages_kept s)
of_stage Keeps c ms sent w s same c_is ms_are sent_is k =
    subst (λ (r : LeaderAndIsr). Keeps r s.nodes (messages_kept s)) (c_is ∙ ap (λ (t : Stage). t.controller) same)
    (subst (λ (xs : List NumberedNode). Keeps c xs (messages_kept s)) (ms_are ∙ ap (λ (t : Stage). t.nodes) same)
    (subst (Keeps c ms) sent_is k))

pub returns-clause-ok : goal.returns-clause-ok
returns-clause-ok g c =
    let w = c.self.inside.world in
    let s = c.args.self.now.stage in
    let same : w ≡ s = ap (λ (e : RunEnd). e.stage) c.self.view_is in
    let some : 0 < length s.nodes = omega (arith, c.self.invariant.0, c.self.invariant.1, ap (λ (t : Stage). length t.nodes) same) in
    let old = g.F.Folder.entries (device_of c.args.folder.now) in
    let now = g.F.Folder.entries (device_of c.write_left.new.folder) in
    on_ok_weaker c.write_left.result
    (λ k. keeps_some s.nodes s old now some
    (of_stage (λ r ms sent. KeepsRun r ms sent old now) (record_of c.controller.result.now) (map node_at c.nodes.result.now) c.messages.result w s same
    c.controller.ensures c.nodes.ensures c.messages.ensures k)) c.write_left.ensures.ok

pub returns-clause-err : goal.returns-clause-err
returns-clause-err g c =
    let w = c.self.inside.world in
    let s = c.args.self.now.stage in
    let same : w ≡ s = ap (λ (e : RunEnd). e.stage) c.self.view_is in
    let some : 0 < length s.nodes = omega (arith, c.self.invariant.0, c.self.invariant.1, ap (λ (t : Stage). length t.nodes) same) in
    let old = g.F.Folder.entries (device_of c.args.folder.now) in
    let now = g.F.Folder.entries (device_of c.write_left.new.folder) in
    on_err_weaker c.write_left.result
    (λ k. keeps_some_front s.nodes s old now some
    (of_stage (λ r ms sent. KeepsRunFront r ms sent old now) (record_of c.controller.result.now) (map node_at c.nodes.result.now) c.messages.result w s same
    c.controller.ensures c.nodes.ensures c.messages.ensures k)) c.write_left.ensures.err
