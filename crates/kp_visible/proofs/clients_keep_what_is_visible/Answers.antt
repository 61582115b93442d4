use Rattle.kp_visible.proofs.Clients.{clients_keep, clients_keep_records}
use Rattle.kp_visible.proofs.Onward.{clients_read_on}
use Rattle.kp_visible.proofs.Going.{clients_go_over}
use Rattle.kp_visible.proofs.clients_keep_what_is_visible.Goals as goal

pub returns-clause-batches : goal.returns-clause-batches
returns-clause-batches c = clients_keep

pub returns-clause-records : goal.returns-clause-records
returns-clause-records c = clients_keep_records

pub returns-clause-programmed : goal.returns-clause-programmed
returns-clause-programmed c = λ log batches high_watermark entries lawful piece moved. clients_go_over log batches high_watermark entries lawful piece moved

pub returns-clause-onward : goal.returns-clause-onward
returns-clause-onward c = clients_read_on
