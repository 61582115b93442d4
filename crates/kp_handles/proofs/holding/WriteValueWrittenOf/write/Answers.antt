use Rattle.std.proofs.Common.{◌≡◌, ◌<◌, List, ℕ, Some, length, subst}
use Rattle.std.specs.Prelude.{OnOk, IfErr}
use Rattle.kp_visible.specs.Lines.{line_of}
use Rattle.kp_handles.specs.Holding.{Writes, lines_in, value_bytes, value_size}
use Rattle.kp_handles.specs.declared.misuse.Misuse.TheVariants.{BadLength}
use Rattle.kp_handles.proofs.Parts.{not_there, too_long, written}
use Rattle.kp_handles.proofs.holding.WriteValueWrittenOf.write.Goals as goal

pub returns-in-Ok-clause-written : goal.returns-in-Ok-clause-written
returns-in-Ok-clause-written g c =
    written lines_in c.args.self.index (Some c.args.object.now) (line_of c.in-Ok.read) c.in-Ok.ensures.found (λ l. Writes (value_bytes l) c.args.to.now c.copy_front.new.to) c.copy_front.result
    (subst (λ (bytes : List ℕ). OnOk c.copy_front.result (Writes bytes c.args.to.now c.copy_front.new.to)) c.value_of.ensures c.copy_front.ensures.written)

pub returns-in-Ok-clause-only : goal.returns-in-Ok-clause-only
returns-in-Ok-clause-only g c =
    too_long lines_in c.args.self.index (Some c.args.object.now) (line_of c.in-Ok.read) c.in-Ok.ensures.found value_size (length c.args.to.now) c.copy_front.result
    (subst (λ (bytes : List ℕ). IfErr c.copy_front.result (λ why. (why ≡ BadLength) × (length c.args.to.now < length bytes))) c.value_of.ensures c.copy_front.ensures.only)

pub returns-in-Err-clause-only : goal.returns-in-Err-clause-only
returns-in-Err-clause-only g c = not_there lines_in c.args.self.index value_size (length c.args.to.now) (Some c.args.object.now) c.in-Err.misuse c.in-Err.ensures.only
