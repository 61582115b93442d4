use Rattle.std.proofs.Common.{◌∙◌, sym, refl}
use Rattle.std.proofs.lemmas.Option.{IfSome_then}
use Rattle.kp_script.proofs.Values.{values_from, lone_is}
use Rattle.kp_script.proofs.fields.are_lone.Goals as goal

pub loop-eight-init : goal.loop-eight-init
loop-eight-init c = record { values = sym (values_from c.args.values.now); commas = refl }

pub returns-clause-lone : goal.returns-clause-lone
returns-clause-lone c =
    IfSome_then c.go_on.result c.go_on.ensures.lone (λ lone is. lone_is lone c.args.values.now (is ∙ sym c.loop-eight.invariant.commas))
