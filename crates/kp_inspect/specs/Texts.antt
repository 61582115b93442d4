-- Texts of the code's own values.
use Rattle.std.specs.Prelude.{◌≡◌, ℕ, List, ◌++◌, codes}
use Rattle.std.specs.Fmt.{decimal}
use Rattle.kp_marker.specs.Marker.{commits}
use Rattle.kp_model.specs.Tables.{Segment, AreSegmentsOf}
use Rattle.kp_producers.specs.Table.{Table, AreProducersOf}
use Rattle.kp_segment.specs.Shown.{Shown}
use Rattle.kp_log.specs.Partition.{Partition}
use Rattle.kp_inspect.specs.Dump.{table_lines, segment_text, ending_text}
use Rattle.kp_inspect.specs.declared.text.Contents.{Contents}
use Rattle.kp_inspect.specs.declared.text.Contents.TheVariants.{Data, Transactional, Ending}

-- the lines of a segment, by what it shows
abbrev pub shown_lines : Shown → List ℕ
shown_lines s = segment_text s.base s.size s.offsets s.times

abbrev pub contents_text : Contents → List ℕ
contents_text Data = codes "data"
contents_text Transactional = codes "txn"
contents_text (Ending marker) = ending_text (commits marker.kind) ++ decimal marker.coordinator_epoch

-- the text grew by the lines of the log's tables
pub record TellsTables (s : Partition) (before after : List ℕ) : Type 0 where
  pub segments : List Segment
  pub tables : AreSegmentsOf s.limits s.log segments
  pub producers : Table
  pub kept : AreProducersOf s.log producers
  pub grown : after ≡ before ++ table_lines segments producers s.log
