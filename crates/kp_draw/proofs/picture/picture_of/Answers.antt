use Rattle.std.proofs.Common.{List, ℕ, [], ◌∷◌, append-nil, refl, subst}
use Rattle.std.specs.Fmt.{decimal}
use Rattle.kp_draw.specs.Drawing.{IsSvg}
use Rattle.kp_draw.specs.Rows.{titles_kept}
use Rattle.kp_draw.specs.declared.svg.Key.{Key}
use Rattle.kp_draw.specs.declared.svg.Key.TheVariants.{Width, Height}
use Rattle.kp_draw.proofs.Growing.{draws_more, whole_svg}
use Rattle.kp_draw.proofs.picture.picture_of.Goals as goal

pub returns : goal.returns
returns c =
    let others : List (Key × List ℕ) = (Width, decimal c.whole_width.result) ∷ (Height, decimal c.whole_height.result) ∷ [] in
    let within =
    draws_more c.in_ok-push_style.ensures (draws_more c.in_ok-push_tip.ensures (draws_more c.in_ok-push_lanes.ensures (draws_more c.in_ok-push_events.ensures c.in_ok-push_words.ensures))) in
    subst (λ (titles : List (List ℕ)). IsSvg titles c.push_end.new.text.items) (append-nil (titles_kept c.args.kept.now.rows.items))
    (whole_svg others c.new-text.ensures.items refl c.in_ok-push_start.ensures within c.in_ok-push_end.ensures)
