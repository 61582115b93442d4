use Rattle.std.proofs.Common.{◌∙◌, ℕ, ◌+◌, List, drop, sym, ap, arith}
use Rattle.kp_script.specs.Call.{Call}
use Rattle.kp_script.specs.Left.{lost_line}
use Rattle.kp_script.specs.Parsed.{calls_in}
use Rattle.kp_script.proofs.Leftover.{item_dropped, lost_behind, lost_first}
use Rattle.kp_script.proofs.left.lost.Goals as goal

pub returns-in-Some-lost_in : goal.returns-in-Some-lost_in
returns-in-Some-lost_in c =
    let sections = c.args.sections.now.items in
    let section : List (ℕ × Call) = c.in-Some.section.now in
    let others : List (List (ℕ × Call)) = drop (c.loop-section.at + 1) sections in
    let dropped = item_dropped sections c.loop-section.at section (omega (arith, c.in-Some.ensures.item)) c.in-Some.ensures.lookup in
    sym (lost_first c.args.first c.in-Some-lost_in.line section (calls_in others) (sym c.lost_in.ensures ∙ c.in-Some-lost_in.is))
    ∙ ap (λ (all : List (List (ℕ × Call))). lost_line c.args.first (calls_in all)) (sym dropped) ∙ c.loop-section.invariant

pub loop-section-preserved : goal.loop-section-preserved
loop-section-preserved c =
    let sections = c.args.sections.now.items in
    let section : List (ℕ × Call) = c.in-Some.section.now in
    let others : List (List (ℕ × Call)) = drop (c.loop-section.at + 1) sections in
    let dropped = item_dropped sections c.loop-section.at section (omega (arith, c.in-Some.ensures.item)) c.in-Some.ensures.lookup in
    sym (lost_behind c.args.first section (calls_in others) (sym c.lost_in.ensures ∙ c.in_default-lost_in.is))
    ∙ ap (λ (all : List (List (ℕ × Call))). lost_line c.args.first (calls_in all)) (sym dropped) ∙ c.loop-section.invariant
