use Rattle.std.proofs.lemmas.Result.{on_ok_weaker}
use Rattle.std.specs.Fmt.{decimal}
use Rattle.kp_draw.proofs.Growing.{draws_words}
use Rattle.kp_draw.proofs.svg.push_digits.Goals as goal

pub returns : goal.returns
returns c = on_ok_weaker c.push_number.result (draws_words (decimal c.args.number) c.args.text.now.items c.push_number.new.text.items) c.push_number.ensures
