use Rattle.std.proofs.Common.{arith}
use Rattle.kp_script.proofs.DigitPairs.{pair_at, two_more}
use Rattle.kp_script.proofs.text.put_pair.Goals as goal

pub returns-clause-items : goal.returns-clause-items
returns-clause-items c =
    let at = pair_at c.args.pair (omega (arith, c.requires.small)) in
    two_more c.args.text.now.items c.push_reserved.new.self.items c.push_reserved-2.new.self.items _ _ _ _ c.push_reserved.ensures.items c.push_reserved-2.ensures.items at.0 at.1
