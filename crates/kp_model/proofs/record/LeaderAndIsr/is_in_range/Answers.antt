use Rattle.kp_model.proofs.Plain.InRange.{code_in_range}
use Rattle.kp_model.proofs.record.LeaderAndIsr.is_in_range.Goals as goal

pub returns : goal.returns
returns c = let r = c.args.self.now in code_in_range r c.places.ensures r.lawful r.numbered r.counted
