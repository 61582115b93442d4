use Rattle.std.proofs.Common.{rules}
use Rattle.kp_handles.proofs.Bad.{segment_called}
use Rattle.kp_handles.proofs.segments.segment.Goals as goal

pub returns-clause-called : goal.returns-clause-called
returns-clause-called g c =
    segment_called c.args.index c.deref.result.now c.args.to.now c.segment_object-answer.new.to c.args.handle.now.object c.args.out.now.object c.put_made.new.out.object c.segment_object-answer.result
    c.put_made.result c.segment_object-answer.ensures (search rules) (search rules) c.put_made.ensures.made c.put_made.ensures.done
