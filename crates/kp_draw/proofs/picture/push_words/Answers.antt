use Rattle.kp_draw.proofs.Growing.{draws_more, draws_none}
use Rattle.kp_draw.proofs.picture.push_words.Goals as goal

pub loop-place-init : goal.loop-place-init
loop-place-init c = draws_none c.args.text.now.items

pub loop-place-preserved : goal.loop-place-preserved
loop-place-preserved c = draws_more c.loop-place.invariant c.in_ok-push_row_words.ensures
