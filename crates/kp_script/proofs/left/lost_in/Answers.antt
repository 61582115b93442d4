use Rattle.std.proofs.Common.{◌∙◌, ℕ, ◌+◌, List, drop, sym, ap, arith}
use Rattle.kp_script.specs.Call.{Call}
use Rattle.kp_script.specs.Left.{lost_line}
use Rattle.kp_script.specs.Seen.{seen_line}
use Rattle.kp_script.proofs.Leftover.{item_dropped, lost_here, lost_later}
use Rattle.kp_script.proofs.left.lost_in.Goals as goal

pub returns-then-is_before : goal.returns-then-is_before
returns-then-is_before c =
    let x : ℕ × Call = seen_line c.line-line.result in
    let rest : List (ℕ × Call) = drop (c.loop-at.at + 1) c.args.section.now in
    let dropped = item_dropped c.args.section.now c.loop-at.at x (omega (arith, c.loop-at-test.true, c.len-at-end.ensures)) (c.line-line.ensures x) in
    sym (lost_here c.args.first x rest (sym c.is_before.ensures ∙ c.if-is_before.true)) ∙ ap (lost_line c.args.first) (sym dropped) ∙ c.loop-at.invariant

pub loop-at-preserved : goal.loop-at-preserved
loop-at-preserved c =
    let x : ℕ × Call = seen_line c.line-line.result in
    let rest : List (ℕ × Call) = drop (c.loop-at.at + 1) c.args.section.now in
    let dropped = item_dropped c.args.section.now c.loop-at.at x (omega (arith, c.loop-at-test.true, c.len-at-end.ensures)) (c.line-line.ensures x) in
    sym (lost_later c.args.first x rest (sym c.is_before.ensures ∙ c.if-is_before.false)) ∙ ap (lost_line c.args.first) (sym dropped) ∙ c.loop-at.invariant
