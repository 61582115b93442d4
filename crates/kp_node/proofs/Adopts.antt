-- A node adopts under the record that it finds.
use Rattle.std.proofs.Common.{◌≡◌, ℕ, [], Option, Some, None, refl, sym, ap, subst, ◌∙◌, inr, arith}
use Rattle.kp_types.specs.declared.refusal.Refusal.{Refusal}
use Rattle.kp_model.specs.World.{Leader, LeaderAndIsr, Node}
use Rattle.kp_model.specs.Event.{Adopt, Reply}
use Rattle.kp_model.specs.Effect.{Effect, becomes}
use Rattle.kp_model.specs.Local.{Local, cause}
use Rattle.kp_model.specs.Calls.{adopted, adopted_by}
use Rattle.kp_model.specs.Run.{last}
use Rattle.kp_model.proofs.OneStep.Adopting.{adopting_is_one}
use Rattle.kp_model.proofs.InRuns.LogEpochs.{epochs_are_elected}
use Rattle.kp_model.proofs.Marks.NodeMarks.{marks_stay}
use Rattle.kp_replica.specs.Adopting.{IsWithin}
use Rattle.kp_replica.proofs.Within.{within}
use Rattle.kp_replica.specs.NumberedNode.{NumberedNode, DoesUnder}
use Rattle.kp_board.specs.Views.{NodeView}
use Rattle.kp_board.specs.Premises.{MayStepUnder, leaves}
use Rattle.kp_node.proofs.Ties.{Tied}

leaves_by : (o : Option Refusal) (leader : Option Leader) (c : LeaderAndIsr) (n : ℕ) (x : Node) → adopted_by o leader c n x ≡ leaves (adopted_by o leader c n x).node [] (adopted_by o leader c n x).reply
leaves_by (Some r) leader c n x = refl
leaves_by None None c n x = refl
leaves_by None (Some l) c n x = refl

pub adopt_may : (words : ℕ) (p : NodeView) (m : NumberedNode) → Tied words p m → MayStepUnder p Adopt (λ c. (adopted c p.number p.state).node) (λ c. IsWithin c p.state.log)
adopt_may words p m t = record {
  given = λ messages told. tt;
  local = λ n r shows.
      let c = (last r).controller in
      let e = adopted c p.number p.state in
      inr (e.reply, subst (λ (f : Effect). Local c p.number p.state Adopt f) (leaves_by (cause c p.number p.state Adopt) c.leader c p.number p.state) (adopting_is_one c p.number p.state).0);
  mark = λ c. let low = t.2 in let same = ap (λ (x : Node). x.watermark) t.0 in omega arith;
  known = λ n r shows. subst (λ (x : Node). IsWithin (last r).controller x.log) shows.state (within epochs_are_elected n r p.number);
}

pub adopt_tied : (words : ℕ) (c : LeaderAndIsr) (p p' : NodeView) (m m' : NumberedNode) (reply : Reply) → Tied words p m → IsWithin c p.state.log → (IsWithin c m.state.log → DoesUnder c m m' Adopt reply)
    → p' ≡ record p { state = (adopted c p.number p.state).node; shown = c } → Tied words p' m'
adopt_tied words c p p' m m' reply t known does e =
    let did = does (subst (λ (x : Node). IsWithin c x.log) t.0 known) in
    let one = (adopting_is_one c m.number m.state).1 (becomes m'.state reply) did.0 in
    let state : (adopted c p.number p.state).node ≡ m'.state = (λ i. (adopted c (t.1 i) (t.0 i)).node) ∙ sym (ap (λ (f : Effect). f.node) one) in
    let mark = marks_stay c m.number m.state Adopt (becomes m'.state reply) tt did.0 in
    let low = t.2 in
    subst (λ (q : NodeView). Tied words q m') (sym e) (state, t.1 ∙ sym did.1.0, omega arith, t.3)

pub adopt_event : (words : ℕ) (c : LeaderAndIsr) (p : NodeView) (m m' : NumberedNode) (reply : Reply) → Tied words p m → IsWithin c p.state.log → (IsWithin c m.state.log → DoesUnder c m m' Adopt reply) → DoesUnder c m m' Adopt reply
adopt_event words c p m m' reply t known does = does (subst (λ (x : Node). IsWithin c x.log) t.0 known)

-- what a pass shows after a step under a record
pub pass_is : (p p' q : NodeView) (x y : Node) (c : LeaderAndIsr) → p' ≡ record p { state = x; shown = c } → p'.state ≡ y → p ≡ q → p' ≡ record q { state = y; shown = p'.shown }
pass_is p p' q x y c e state same =
    let shown : p'.shown ≡ c = ap (λ (z : NodeView). z.shown) e in
    let from : p'.state ≡ x = ap (λ (z : NodeView). z.state) e in
    e ∙ (λ i. record (same i) { state = (sym from ∙ state) i; shown = sym shown i })
