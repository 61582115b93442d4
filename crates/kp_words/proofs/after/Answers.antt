use Rattle.std.proofs.lemmas.Slice.Eq.{strip_prefix_is}
use Rattle.std.proofs.lemmas.Bool.Decides.{Decides-eqb}
use Rattle.kp_words.proofs.Options.{some_part, none_part}
use Rattle.kp_words.proofs.after.Goals as goal

pub returns : goal.returns
returns c =
    let cases = strip_prefix_is Decides-eqb c.args.bytes.now c.args.text.now c.strip_prefix.result c.strip_prefix.ensures.cases in
    record {
      found = some_part c.strip_prefix.result _ _ cases;
      none = none_part c.strip_prefix.result _ _ cases;
    }
