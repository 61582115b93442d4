use Rattle.std.proofs.Common.{length, ◌-◌, ◌≡◌, ℕ, ◌≤◌, ◌<◌}
use Rattle.std.specs.Prelude.{slice_index}
use Rattle.kp_model.specs.Set.{record_of}
use Rattle.kp_control.specs.Word.{packed}
use Rattle.kp_board.specs.Rule.{mark_word}
use Rattle.kp_board.proofs.board.words_of.Given as goal

abbrev pub invariant-loop-number : goal.invariant-loop-number
invariant-loop-number l =
    (slice_index l.words 0 ≡ packed (record_of l.controller)) × (l.number ≤ length l.marks) × (length l.words ≡ 15)
    × ((k : ℕ) → k < l.number → slice_index l.words (mark_word k) ≡ slice_index l.marks k)

abbrev pub decreases-loop-number : goal.decreases-loop-number
decreases-loop-number l = length l.marks - l.number
