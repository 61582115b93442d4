use Rattle.std.proofs.lemmas.Result.{on_ok_weaker}
use Rattle.kp_draw.proofs.Growing.{draws_element, draws_more}
use Rattle.kp_draw.proofs.shapes.push_label.Goals as goal

pub returns : goal.returns
returns c = on_ok_weaker c.push_end.result (draws_element c.in_ok-push_start.ensures (draws_more c.in_ok-push_words.ensures c.in_ok-push_tail.ensures)) c.push_end.ensures
