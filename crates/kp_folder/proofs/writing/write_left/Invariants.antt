use Rattle.std.proofs.Common.{◌≡◌, ◌≤◌, length, map}
use Rattle.kp_model.specs.Set.{record_of}
use Rattle.kp_replica.specs.Broker.{node_at}
use Rattle.kp_types.specs.Folders.{file_entry}
use Rattle.kp_folder.specs.Files.{record_name}
use Rattle.kp_folder.specs.Kept.{kept_record}
use Rattle.kp_folder.proofs.KeptNodes.{HaveKept}
use Rattle.kp_folder.proofs.writing.write_left.Given as goal

abbrev pub invariant-loop-number : goal.invariant-loop-number
invariant-loop-number g l = record {
  kept :
      HaveKept (file_entry record_name (kept_record (record_of l.controller) (length (map node_at l.nodes)) l.fn.messages)) (g.F.Folder.entries l.fn.folder.inner) (g.F.Folder.entries l.folder.inner)
      (map node_at l.nodes) l.number;
  failed : l.folder.failed ≡ l.fn.folder.failed;
  within : l.number ≤ l.count;
  end : l.count ≡ length (map node_at l.nodes);
}
