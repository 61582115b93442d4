use Rattle.std.proofs.Common.{refl, ap, ◌∙◌}
use Rattle.kp_model.specs.Log.{end_of}
use Rattle.kp_log.specs.Partition.{Partition}
use Rattle.kp_replica.proofs.ReadingFacts.{showed}
use Rattle.kp_replica.proofs.replica.Replica.show.Goals as goal

pub returns : goal.returns
returns c = λ r.
    let x = c.args.self.now in (
      showed r x.number x.state c.life.result c.end_offset.result c.watermark.result c.stable_offset.result c.log.ensures.up c.life.ensures
          (c.end_offset.ensures.value ∙ ap (λ (p : Partition). end_of p.log) c.log.ensures.value) c.watermark.ensures.value c.stable_offset.ensures,
      (refl, refl),
    )
