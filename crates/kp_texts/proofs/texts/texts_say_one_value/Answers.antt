use Rattle.kp_texts.proofs.OneText.{one_record, one_state}
use Rattle.kp_texts.proofs.texts.texts_say_one_value.Goals as goal

pub returns-clause-states : goal.returns-clause-states
returns-clause-states c = one_state

pub returns-clause-records : goal.returns-clause-records
returns-clause-records c = one_record
