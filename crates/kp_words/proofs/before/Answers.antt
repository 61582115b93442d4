use Rattle.std.proofs.lemmas.Slice.Eq.{strip_suffix_is}
use Rattle.std.proofs.lemmas.Bool.Decides.{Decides-eqb}
use Rattle.kp_words.proofs.Options.{some_part, none_part}
use Rattle.kp_words.proofs.before.Goals as goal

pub returns : goal.returns
returns c =
    let cases = strip_suffix_is Decides-eqb c.args.bytes.now c.args.text.now c.strip_suffix.result c.strip_suffix.ensures.cases in
    record {
      found = some_part c.strip_suffix.result _ _ cases;
      none = none_part c.strip_suffix.result _ _ cases;
    }
