use Rattle.std.proofs.Common.{arith, ◌≡◌, ℕ, ◌+◌, ◌*◌, ◌<◌, length, get_or, set, sym, ap, subst, ◌∙◌, get_or-set_other, get_or-set_same, length-set}
use mathlib.Core.Logic.{dite}
use native.Mathlib.Decide.{ℕ_discrete}
use Rattle.kp_board.specs.Rule.{mark_word}
use Rattle.kp_board.proofs.board.words_of.Goals as goal

pub loop-number-preserved : goal.loop-number-preserved
loop-number-preserved c =
    let l = c.loop-number.invariant in
    let n = c.loop-number.number in
    let words = c.loop-number.words in
    let x : ℕ = get_or c.args.marks.now n 0 in
    let i : ℕ = 2 * n + 2 in
    let long : length words ≡ 15 = l.2 in
    let small = c.requires in
    let inside : i < length words = (let t = c.loop-number-test.true in omega arith) in (
      get_or-set_other words i 0 x 0 (λ e. omega arith) ∙ l.0,
      (let t = c.loop-number-test.true in omega arith),
      length-set words i x ∙ long,
      λ k h. dite (ℕ_discrete k n)
          (λ e. subst (λ (z : ℕ). get_or (set words i x) (mark_word z) 0 ≡ get_or c.args.marks.now z 0) (sym e) (get_or-set_same words i x 0 inside))
          (λ ne. get_or-set_other words i (mark_word k) x 0 (λ e. ne (omega arith)) ∙ l.3 k (omega arith)),
    )
