use Rattle.std.proofs.Common.{◌≡◌, ◌++◌, map, length}
use Rattle.std.specs.List.{AllByRecursion}
use Rattle.kp_words.specs.Words.{pieces}
use Rattle.kp_texts.specs.Texts.{start_text, IsStart}
use Rattle.kp_texts.proofs.starts.starts_in.Given as goal

-- the starts so far, and the pieces that are left
abbrev pub invariant-loop-piece : goal.invariant-loop-piece
invariant-loop-piece l = record {
  told : map start_text l.starts.items ++ pieces l.rest ≡ pieces l.word;
  range : AllByRecursion IsStart l.starts.items;
}

abbrev pub decreases-loop-piece : goal.decreases-loop-piece
decreases-loop-piece l = length l.rest
