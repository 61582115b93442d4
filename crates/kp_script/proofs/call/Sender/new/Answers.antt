use Rattle.std.proofs.Common.{◌^◌, arith}
use Rattle.kp_script.specs.Seen.{seen_sender}
use Rattle.kp_script.proofs.Senders.{held, same_fields}
use Rattle.kp_script.proofs.call.Sender.new.Goals as goal

pub returns : goal.returns
returns c =
    same_fields (seen_sender (record { epoch = c.unwrap_or.result; sequence = c.unwrap_or-2.result; producer = c.unwrap_or-3.result })) (record { producer = c.args.producer; epoch = c.args.epoch; sequence = c.args.sequence })
    (held 18446744073709551615 (2 ^ 63) c.unwrap_or-3.result c.args.producer (omega arith) c.requires.producer c.unwrap_or-3.ensures)
    (held 65535 (2 ^ 15) c.unwrap_or.result c.args.epoch (omega arith) c.requires.epoch c.unwrap_or.ensures)
    (held 4294967295 (2 ^ 31) c.unwrap_or-2.result c.args.sequence (omega arith) c.requires.sequence c.unwrap_or-2.ensures)
