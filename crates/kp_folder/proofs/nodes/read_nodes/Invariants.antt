use Rattle.std.proofs.Common.{◌≡◌, length}
use Rattle.std.specs.Prelude.{IfSome}
use Rattle.kp_folder.proofs.NodeRows.{SomeNodes}
use Rattle.kp_folder.proofs.nodes.read_nodes.Given as goal

abbrev pub invariant-loop-node : goal.invariant-loop-node
invariant-loop-node g l = record {
  same : g.F.ReadFolder.files l.folder ≡ g.F.ReadFolder.files l.fn.folder;
  some : IfSome (g.F.ReadFolder.files l.fn.folder) (λ files. SomeNodes files l.limits l.node l.nodes.items);
  count : length l.nodes.items ≡ l.node;
}
