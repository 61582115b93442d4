use Rattle.std.proofs.Common.{◌≡◌, ◌++◌, map, length}
use Rattle.std.specs.Fmt.{decimal}
use Rattle.kp_model.specs.Set.{members_of}
use Rattle.kp_model.specs.Step.{Rise}
use Rattle.kp_words.specs.Words.{pieces}
use Rattle.kp_texts.proofs.RisingNodes.{next_after}
use Rattle.kp_texts.proofs.members.members_in.Given as goal

-- the nodes so far, and the pieces that are left
abbrev pub invariant-loop-piece : goal.invariant-loop-piece
invariant-loop-piece l = record {
  told : map decimal (members_of l.set) ++ pieces l.rest ≡ pieces l.word;
  range : Rise 0 l.nodes (members_of l.set);
  least : l.least ≡ next_after 0 (members_of l.set);
}

abbrev pub decreases-loop-piece : goal.decreases-loop-piece
decreases-loop-piece l = length l.rest
