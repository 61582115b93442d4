use Rattle.std.proofs.lemmas.Result.{on_ok_weaker}
use Rattle.kp_draw.proofs.Growing.{draws_element, draws_none}
use Rattle.kp_draw.proofs.shapes.push_element.Goals as goal

pub returns : goal.returns
returns c = on_ok_weaker c.push_end.result (draws_element c.in_ok-push_start.ensures (draws_none c.push_start.new.text.items)) c.push_end.ensures
