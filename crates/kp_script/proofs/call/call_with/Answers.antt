use Rattle.std.proofs.Common.{arith}
use Rattle.kp_words.proofs.Options.{none_weaker}
use Rattle.kp_script.proofs.call.call_with.Goals as goal

pub returns-in_default-clause-none : goal.returns-in_default-clause-none
returns-in_default-clause-none c =
    none_weaker c.numbers_call.result _ _ (λ none. none (λ same. grind arith) (λ same. grind arith) (λ same. grind arith)) c.numbers_call.ensures.none
