use Rattle.std.proofs.Common.{List, ℕ, subst}
use Rattle.std.proofs.lemmas.Result.{on_ok_weaker}
use Rattle.kp_draw.specs.Drawing.{OpensEvent}
use Rattle.kp_draw.proofs.Growing.{draws_event}
use Rattle.kp_draw.proofs.picture.push_event.Goals as goal

pub returns : goal.returns
returns c =
    on_ok_weaker c.push_event_end.result
    (draws_event (subst (λ (title : List ℕ). OpensEvent title c.args.text.now.items c.push_event_front.new.text.items) c.deref.ensures.value c.in_ok-push_event_front.ensures) c.in_ok-push_shapes.ensures)
    c.push_event_end.ensures
