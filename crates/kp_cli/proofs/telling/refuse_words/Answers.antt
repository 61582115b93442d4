use Rattle.std.proofs.Common.{◌∙◌, ap, subst, sym}
use Rattle.kp_types.specs.Devices.{Tells}
use Rattle.kp_cli.specs.Program.{words_complaint}
use Rattle.kp_cli.specs.Told.{complaint, lone_reason, status_of_refusal}
use Rattle.kp_cli.specs.declared.fault.Fault.{Fault}
use Rattle.kp_cli.specs.declared.fault.Fault.TheVariants as faults
use Rattle.kp_cli.proofs.Lines.{other_refusal, other_status, other_words, tells}
use Rattle.kp_cli.proofs.telling.refuse_words.Goals as goal

pub returns-in-NotText-clause-told : goal.returns-in-NotText-clause-told
returns-in-NotText-clause-told g c =
    subst (λ (f : Fault). Tells g.E.Write.contents c.args.err.now c.complain_alone.new.err (words_complaint f)) (sym c.in-NotText.is)
    (tells g.E.Write.contents c.args.err.now c.complain_alone.new.err (lone_reason faults.NotText) c.complain_alone.result
    c.complain_alone.ensures.ok c.complain_alone.ensures.err)

pub returns-in_default : goal.returns-in_default
returns-in_default g c = record {
  told =
      subst (Tells g.E.Write.contents c.args.err.now c.refuse.new.err)
      (ap complaint c.refusal.ensures ∙ sym (other_words c.args.fault c.in_default.not-NotText)) c.refuse.ensures.told;
  status =
      c.refuse.ensures.status ∙ ap status_of_refusal c.refusal.ensures ∙ other_refusal c.args.fault
      ∙ sym (other_status c.args.fault c.in_default.not-NotText);
}
