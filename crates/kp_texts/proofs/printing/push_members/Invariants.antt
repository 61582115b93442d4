use Rattle.std.proofs.Common.{◌≡◌, ◌+◌, ◌++◌, length, map, string_bytes}
use Rattle.std.specs.Fmt.{decimal}
use Rattle.kp_model.specs.Set.{members_of, numbers_of}
use Rattle.kp_texts.specs.Texts.{listed}
use Rattle.kp_texts.proofs.Joined.{behind}
use Rattle.kp_texts.proofs.printing.push_members.Given as goal

abbrev pub invariant-loop-member : goal.invariant-loop-member
invariant-loop-member l = record {
  text : string_bytes l.text ++ behind l.first (numbers_of l.node l.places) ≡ string_bytes l.fn.text ++ listed (map decimal (members_of l.set));
  count : l.node + length l.places ≡ 7;
}

abbrev pub decreases-loop-member : goal.decreases-loop-member
decreases-loop-member l = length l.places
