use Rattle.std.proofs.Common.{◌≡◌, Some}
use Rattle.kp_visible.specs.Lines.{line_of}
use Rattle.kp_handles.specs.Holding.{lines_in, value_out}
use Rattle.kp_handles.proofs.Parts.{part_as}
use Rattle.kp_handles.proofs.holding.ValueAtSeenOfValueOut.look.Goals as goal

pub returns-in-Ok-clause-found : goal.returns-in-Ok-clause-found
returns-in-Ok-clause-found g c =
    part_as lines_in c.args.self.index (Some c.args.object.now) (line_of c.in-Ok.read) c.in-Ok.ensures.found (λ l. c.of.result ≡ value_out l) c.of.ensures
