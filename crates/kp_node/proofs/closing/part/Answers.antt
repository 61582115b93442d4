use Rattle.std.proofs.Common.{◌≡◌, arith}
use Rattle.kp_node.proofs.NextLives.{map_push, ready_push}
use Rattle.kp_node.proofs.closing.part.Goals as goal

pub loop-node-preserved : goal.loop-node-preserved
loop-node-preserved g c =
    let l = c.loop-node in
    let p = c.into_parts-one.ensures in
    record {
      passes = map_push (λ s. s.pass) l.yielded c.in-Some.node l.passes.items _ _ c.put-in-loop-node.ensures.put l.invariant.passes p.pass;
      kept = map_push (λ s. s.node) l.yielded c.in-Some.node l.kept.items _ _ c.put.ensures.put l.invariant.kept p.node;
      ready = ready_push l.yielded c.in-Some.node l.invariant.ready p.ready;
      room = omega (arith, c.put-in-loop-node.ensures.room, l.invariant.room);
      room_kept = omega (arith, c.put.ensures.room, l.invariant.room_kept);
    }
