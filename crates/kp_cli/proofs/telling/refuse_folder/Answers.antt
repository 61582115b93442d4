use Rattle.std.proofs.Common.{◌∙◌, List, ℕ, ap, subst, sym}
use Rattle.kp_types.specs.Devices.{Tells}
use Rattle.kp_cli.specs.Told.{status_of_refusal}
use Rattle.kp_cli.proofs.Lines.{other_fault, tells}
use Rattle.kp_cli.proofs.telling.refuse_folder.Goals as goal

pub returns-in_default : goal.returns-in_default
returns-in_default g c = record {
  told = subst (λ (text : List ℕ). Tells g.E.Write.contents c.args.err.now c.complain_within.new.err text)
      (sym (other_fault c.args.path.now c.args.why c.args.fault c.in_default.not-NoMemory))
      (tells g.E.Write.contents c.args.err.now c.complain_within.new.err _ c.complain_within.result c.complain_within.ensures.ok c.complain_within.ensures.err);
  status = c.status_of.ensures ∙ ap status_of_refusal c.refusal.ensures;
}
