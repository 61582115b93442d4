use Rattle.std.proofs.Common.{◌≡◌, arith, codes, rules}
use Rattle.std.proofs.lemmas.Slice.Eq.{text_from_reads}
use Rattle.kp_words.proofs.Options.{none_weaker}
use Rattle.kp_script.proofs.call.numbers_call.Goals as goal

pub returns-in-committed-clause-found : goal.returns-in-committed-clause-found
returns-in-committed-clause-found c =
    let verb : c.args.verb.now ≡ codes "committed" = text_from_reads c.args.verb.now (codes "committed") (omega arith) (search rules) in
    search (rules, verb)

pub returns-in_default-clause-none : goal.returns-in_default-clause-none
returns-in_default-clause-none c =
    none_weaker c.named_call.result _ _ (λ fits append raw mark. fits (record {
      append = append;
      raw = raw;
      mark = mark;
      join = λ same. grind arith;
      leave = λ same. grind arith;
      deliver = λ same. grind arith;
      read = λ same. grind arith;
      committed = λ same. grind arith;
    })) c.named_call.ensures.none
