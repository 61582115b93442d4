use Rattle.std.proofs.Common.{◌≡◌, ◌∙◌, ℕ, List, [], ◌∷◌, subst}
use Rattle.std.proofs.lemmas.Result.{on_err_weaker, on_ok_weaker}
use Rattle.kp_types.specs.Devices.{device_of}
use Rattle.kp_types.specs.Folders.{Entry, Puts, PutsFront, file_entry}
use Rattle.kp_types.proofs.Causes.{always}
use Rattle.kp_log.specs.Files.{AreFilesOf}
use Rattle.kp_log.specs.Partition.{Partition}
use Rattle.kp_replica.specs.Broker.{node_at}
use Rattle.kp_folder.specs.Files.{node_folder}
use Rattle.kp_folder.proofs.KeptNodes.{log_front, state_front, state_of, whole_node}
use Rattle.kp_folder.proofs.writing.write_node.Goals as goal

pub returns-in_err-write_segments-clause-err : goal.returns-in_err-write_segments-clause-err
returns-in_err-write_segments-clause-err g c =
    let m = node_at c.args.node.now in
    let files = c.in_err-write_segments.ensures.err in
    let named = subst (λ (n : List ℕ). AreFilesOf n c.log.result.now.limits c.log.result.now.log files.0) (c.deref.ensures ∙ c.in_ok-name.ensures.name) files.1 in
    let own = subst (λ (p : Partition). AreFilesOf (node_folder c.args.number) p.limits p.log files.0) c.log.ensures.value named in
    always c.from_residual-in_err-write_segments.result
    (log_front (g.F.Folder.entries (device_of c.args.folder.now)) (g.F.Folder.entries (device_of c.args.folder.now)) (g.F.Folder.entries (device_of c.write_segments.new.folder))
    c.args.number m files.0 own files.2)

pub returns-clause-ok : goal.returns-clause-ok
returns-clause-ok g c =
    let m = node_at c.args.node.now in
    let files = c.in_ok-write_segments.ensures.ok in
    let named = subst (λ (n : List ℕ). AreFilesOf n c.log.result.now.limits c.log.result.now.log files.0) (c.deref.ensures ∙ c.in_ok-name.ensures.name) files.1 in
    let own = subst (λ (p : Partition). AreFilesOf (node_folder c.args.number) p.limits p.log files.0) c.log.ensures.value named in
    let path = c.deref-2.ensures ∙ c.in_ok-path.ensures.name in
    let text = c.deref-3.ensures.value ∙ c.in_ok-text.ensures in
    let entry : file_entry c.deref-2.result.now c.deref-3.result.now ≡ state_of c.args.number m = (λ i. file_entry (path i) (text i)) in
    let mid = g.F.Folder.entries (device_of c.write_segments.new.folder) in
    let now = g.F.Folder.entries (device_of c.put_file.new.folder) in
    on_ok_weaker c.put_file.result
    (λ put. whole_node _ mid now c.args.number m files.0 own files.2 (subst (λ (e : Entry). Puts mid now (e ∷ [])) entry put)) c.put_file.ensures.ok

pub returns-clause-err : goal.returns-clause-err
returns-clause-err g c =
    let m = node_at c.args.node.now in
    let files = c.in_ok-write_segments.ensures.ok in
    let named = subst (λ (n : List ℕ). AreFilesOf n c.log.result.now.limits c.log.result.now.log files.0) (c.deref.ensures ∙ c.in_ok-name.ensures.name) files.1 in
    let own = subst (λ (p : Partition). AreFilesOf (node_folder c.args.number) p.limits p.log files.0) c.log.ensures.value named in
    let path = c.deref-2.ensures ∙ c.in_ok-path.ensures.name in
    let text = c.deref-3.ensures.value ∙ c.in_ok-text.ensures in
    let entry : file_entry c.deref-2.result.now c.deref-3.result.now ≡ state_of c.args.number m = (λ i. file_entry (path i) (text i)) in
    let mid = g.F.Folder.entries (device_of c.write_segments.new.folder) in
    let now = g.F.Folder.entries (device_of c.put_file.new.folder) in
    on_err_weaker c.put_file.result
    (λ front. state_front _ mid now c.args.number m files.0 own files.2 (subst (λ (e : Entry). PutsFront mid now (e ∷ [])) entry front)) c.put_file.ensures.err
