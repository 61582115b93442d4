use Rattle.std.proofs.Common.{◌≡◌, ◌∙◌, ◌+◌, ◌<◌, get_or, length, List, ℕ, [], ◌∷◌, ◌++◌, take, sym, ap, subst}
use Rattle.std.proofs.lemmas.List.{map-append, take_more}
use Rattle.kp_draw.specs.Drawing.{Draws}
use Rattle.kp_draw.specs.Rows.{titles_kept}
use Rattle.kp_draw.specs.declared.rows.Row.{Row}
use Rattle.kp_draw.proofs.Growing.{draws_more, draws_none}
use Rattle.kp_draw.proofs.picture.push_events.Goals as goal

pub loop-place-init : goal.loop-place-init
loop-place-init c = draws_none c.args.text.now.items

pub loop-place-preserved : goal.loop-place-preserved
loop-place-preserved c =
    let rows : List Row = c.args.kept.now.rows.items in
    let row : Row = c.row-item.result in
    let so_far : List Row = take c.loop-place.place rows in
    let place : ℕ = c.loop-place.place in
    let lent : c.deref-row-items.result.now ≡ rows = c.deref-row-items.ensures.value in
    let within : place < length rows = subst (λ (xs : List Row). place < length xs) lent c.loop-place-test.true in
    let is : row ≡ get_or rows place row = subst (λ (xs : List Row). row ≡ get_or xs place row) lent c.row-item.is in
    let next : take (place + 1) rows ≡ so_far ++ row ∷ [] = take_more rows place row within ∙ ap (λ (one : Row). so_far ++ one ∷ []) (sym is) in
    subst (λ (titles : List (List ℕ)). Draws titles c.args.text.now.items c.push_event.new.text.items)
    (sym (ap titles_kept next ∙ map-append (λ (one : Row). one.title.items) so_far (row ∷ [])))
    (draws_more c.loop-place.invariant c.in_ok-push_event.ensures)
