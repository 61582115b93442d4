-- A cluster that is opened with what was read back.
use Rattle.std.proofs.Common.{◌≡◌, Option, Some, None, Result, Ok, Err, IfErr, OnErr, OnOk, length, sym, ap, ◌∙◌}
use Rattle.kp_types.specs.declared.refusal.Refusal.{Refusal}
use Rattle.kp_types.specs.declared.refusal.Refusal.TheVariants.{Memory}
use Rattle.kp_model.specs.Set.{record_of}
use Rattle.kp_model.specs.declared.record.LeaderAndIsr.{LeaderAndIsr}
use Rattle.kp_board.specs.Opening.{BoardId}
use Rattle.kp_node.specs.Again.{opening_of}
use Rattle.kp_node.specs.Seats.{left_seats}
use Rattle.kp_handles.specs.Again.{AgainCalled}
use Rattle.kp_handles.specs.Left.{LeftView, promised_of}
use Rattle.kp_handles.specs.Objects.{ObjectView, cluster, left}
use Rattle.kp_handles.specs.Outs.{leadership_out}
use Rattle.kp_handles.specs.declared.left.PromiseIn.{PromiseIn}
use Rattle.kp_handles.specs.declared.outs.LeadershipOut.{LeadershipOut}

pub opened_again : (known : LeadershipOut) (p : PromiseIn) (old new out opened : Option ObjectView) (table b : BoardId) (x : LeftView) (r : LeaderAndIsr) (answer : Result (Unit {0}) Refusal)
    → old ≡ Some (left x) → new ≡ None → out ≡ None → known ≡ leadership_out r → b.opening ≡ opening_of (record_of r) x.nodes (promised_of p x.nodes)
    → OnOk answer (opened ≡ Some (cluster (length x.nodes) (left_seats b.opening 0 x.nodes) 0)) → OnOk answer (table ≡ b) → OnErr answer (opened ≡ out) → IfErr answer (λ why. why ≡ Memory)
    → AgainCalled known p old new out opened table (Ok answer)
opened_again known p old new out opened table b x r (Ok done) was taken closed is opening made named same only = (
  x,
  was,
  taken,
  closed,
  (
    r,
    is,
    ap (λ (t : BoardId). t.opening) named ∙ opening,
    made ∙ ap (λ (t : BoardId). Some (cluster (length x.nodes) (left_seats t.opening 0 x.nodes) 0)) (sym named),
  ),
)
opened_again known p old new out opened table b x r (Err why) was taken closed is opening made named same only = (x, was, taken, same, only)
