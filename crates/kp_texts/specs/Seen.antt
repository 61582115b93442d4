-- What the code keeps, as the definitions see it.
use Rattle.kp_model.specs.Set.{record_of}
use Rattle.kp_texts.specs.Texts.{StateText as SpelledState, RecordText as SpelledRecord}
use Rattle.kp_texts.specs.declared.texts.StateText.{StateText}
use Rattle.kp_texts.specs.declared.texts.RecordText.{RecordText}

abbrev pub seen_state : StateText → SpelledState
seen_state s = record { checkpoint = s.checkpoint; life = s.life; kept = s.kept; end = s.end; starts = s.starts.items }

abbrev pub seen_record : RecordText → SpelledRecord
seen_record r = record { nodes = r.nodes; controller = record_of r.controller; messages = r.messages }
