-- What a replica keeps of its fields.
use Rattle.std.specs.Prelude.{◌≡◌, ◌≤◌}
use Rattle.kp_model.specs.Log.{IsBoundary}
use Rattle.kp_log.specs.Entries.{AreEntriesOf}
use Rattle.kp_replica.specs.NumberedNode.{NumberedNode, HasEpochs, HasReports, IsOfRecord}
use Rattle.kp_replica.specs.Modes.{mode_of}
use Rattle.kp_model.specs.World.{Down as IsDown}
use Rattle.kp_replica.specs.declared.replica.Replica.TheInside.{Inside}
use Rattle.kp_replica.specs.declared.kept.KeptNode.TheInside.{Inside as Down}

abbrev pub node_of : Inside → NumberedNode
node_of r =
    record {
      number = r.number;
      limits = r.log.limits;
      state =
          record {
            log = r.log.log;
            watermark = r.watermark;
            checkpoint = r.checkpoint;
            life = r.life;
            kept = r.kept_epoch;
            mode = mode_of r.mode;
          };
    }

-- The undo entries are those of the log's last batches, from the watermark on, up to which the log is settled. The watermark is
-- a boundary of the log, as is each reported end, and the checkpoint, which the watermark has passed.
pub record IsKept (r : Inside) : Type 0 where
  pub entries : AreEntriesOf r.log r.entries
  pub epochs : HasEpochs r.log.log (mode_of r.mode)
  pub reports : HasReports r.log.log (mode_of r.mode)
  pub recorded : IsOfRecord r.number (mode_of r.mode)
  pub boundary : IsBoundary r.log.log r.watermark
  pub settled : r.log.settled ≡ r.watermark
  pub checkpoint : IsBoundary r.log.log r.checkpoint
  pub passed : r.checkpoint ≤ r.watermark

-- What is left of a node that is down.
abbrev pub kept_node : Down → NumberedNode
kept_node r =
    record {
      number = r.number;
      limits = r.kept.of.limits;
      state =
          record {
            log = r.kept.of.log;
            watermark = r.watermark;
            checkpoint = r.kept.from;
            life = r.life;
            kept = r.kept_epoch;
            mode = IsDown;
          };
    }

-- The watermark is a boundary of its log, up to which the log is settled, and has passed the checkpoint.
pub record IsKeptWhole (r : Down) : Type 0 where
  pub boundary : IsBoundary r.kept.of.log r.watermark
  pub settled : r.kept.of.settled ≡ r.watermark
  pub passed : r.kept.from ≤ r.watermark
