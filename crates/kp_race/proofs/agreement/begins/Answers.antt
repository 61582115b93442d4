use Rattle.std.proofs.Common.{◌≡◌, rules, sym}
use Rattle.std.specs.Prelude.{Decides}
use Rattle.std.proofs.lemmas.Slice.Eq.{starts_is}
use Rattle.kp_race.specs.declared.agreement.Committed.{Committed}
use Rattle.kp_race.specs.contracts.agreement.CommittedPartialEq.TheImpl.{eq-value}
use Rattle.kp_race.proofs.agreement.begins.Goals as goal

same : (a b : Committed) → Decides (eq-value.it a b) (a ≡ b)
same a b = search rules

pub returns : goal.returns
returns c =
    let test = starts_is same c.args.whole.now c.args.list.now c.starts_with.result c.starts_with.ensures.value in
    (λ e. record { rest = _; is = sym (test.0 e) }, λ p. test.1 p.rest (sym p.is))
