use Rattle.std.proofs.Common.{◌∙◌, sym, subst}
use Rattle.kp_model.specs.Log.{IsLog}
use Rattle.kp_log.specs.Partition.{Partition}
use Rattle.kp_log.proofs.Boundaries.{boundary_from_test}
use Rattle.kp_draw.proofs.looking.stable_of.Goals as goal

pub stable_offset-requires-clause-boundary : goal.stable_offset-requires-clause-boundary
stable_offset-requires-clause-boundary c =
    boundary_from_test c.args.log.now.log c.settled_offset-watermark.result (subst (λ (p : Partition). IsLog p.log) c.tables.ensures c.settled_offset-watermark.ensures.lawful)
    (sym c.is_boundary.ensures ∙ c.if-is_boundary.true)
