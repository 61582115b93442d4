use Rattle.std.proofs.Common.{sym, ◌∙◌, arith}
use Rattle.kp_control.proofs.Words.{fields, set_one, told, without_leader, with_leader, no_other}
use Rattle.kp_control.proofs.word.unpack.Goals as goal

pub returns-then-bits-ge128-clause-read : goal.returns-then-bits-ge128-clause-read
returns-then-bits-ge128-clause-read c = λ r range is.
    let f = fields r c.args.word range is in
    absurd (omega (arith, f.set, f.small, c.if-bits-ge128.true))

pub returns-then-after-eq0-clause-read : goal.returns-then-after-eq0-clause-read
returns-then-after-eq0-clause-read c = λ r range is.
    let f = fields r c.args.word range is in
    told r _ (sym (without_leader r c.args.word range f c.if-node-eq-NO_LEADER.true))
    (set_one c.of_bits-isr.result.members r.isr c.of_bits-isr.ensures.places range.isr (c.of_bits-isr.ensures.value ∙ f.set)) f.version

pub returns-then-node-clause-read : goal.returns-then-node-clause-read
returns-then-node-clause-read c = λ r range is.
    let f = fields r c.args.word range is in
    no_other r c.args.word range f c.else-node-eq-NO_LEADER.either c.then-node.either

pub returns-clause-read : goal.returns-clause-read
returns-clause-read c = λ r range is.
    let f = fields r c.args.word range is in
    told r _ (sym (with_leader r c.args.word f (omega (arith, c.if-node.false))))
    (set_one c.of_bits-isr.result.members r.isr c.of_bits-isr.ensures.places range.isr (c.of_bits-isr.ensures.value ∙ f.set)) f.version
