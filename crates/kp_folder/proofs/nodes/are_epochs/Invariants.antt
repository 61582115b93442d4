use Rattle.std.proofs.Common.{◌≡◌, length, map}
use Rattle.kp_folder.specs.Left.{start_pair}
use Rattle.kp_folder.proofs.nodes.are_epochs.Given as goal

abbrev pub invariant-loop-start : goal.invariant-loop-start
invariant-loop-start l =
    (map start_pair l.left ≡ l.entries → map start_pair l.starts ≡ l.epochs)
    × (map start_pair l.starts ≡ l.epochs → map start_pair l.left ≡ l.entries)

abbrev pub decreases-loop-start : goal.decreases-loop-start
decreases-loop-start l = length l.left
