use Rattle.std.specs.Option.{option_map}
use Rattle.kp_model.specs.Set.{leader_of}
use Rattle.kp_texts.specs.Reading.{isr_front}
use Rattle.kp_texts.proofs.RecordFronts.{after_leader, leader_range}
use Rattle.kp_texts.proofs.records.controller_then.Goals as goal

pub returns-in_default-isr_then-clause-none : goal.returns-in_default-isr_then-clause-none
returns-in_default-isr_then-clause-none c = λ controller rest range e.
    let found = c.in-Some.ensures.found in
    let same = after_leader c.args.nodes (option_map leader_of c.in-Some.leader) controller.leader c.args.bytes.now c.in-Some.rest.now (isr_front controller.isr controller.version rest) c.requires.most
    found.1 (leader_range c.args.nodes controller.leader range.leader) found.0 e in
    c.in_default-isr_then.ensures.none controller.isr controller.version rest range.isr range.version same.1
