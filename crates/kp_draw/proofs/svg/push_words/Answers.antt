use Rattle.std.proofs.lemmas.Result.{on_ok_weaker}
use Rattle.kp_draw.proofs.Growing.{draws_words}
use Rattle.kp_draw.proofs.svg.push_words.Goals as goal

pub returns : goal.returns
returns c = on_ok_weaker c.push_escaped.result (draws_words c.args.words.now c.args.text.now.items c.push_escaped.new.text.items) c.push_escaped.ensures
