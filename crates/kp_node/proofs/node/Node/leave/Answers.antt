use Rattle.std.proofs.Common.{◌≡◌, ◌∙◌, ap, subst, sym}
use Rattle.std.proofs.lemmas.Result.{IfErr-weaker, IfOk-weaker}
use Rattle.kp_node.specs.Closes.{IsNext, IsNoNextLife, stopped}
use Rattle.kp_node.specs.Seated.{SeatedNode}
use Rattle.kp_node.proofs.NextLives.{stops_to}
use Rattle.kp_node.proofs.node.Node.leave.Goals as goal

pub leave_down-requires : goal.leave_down-requires
leave_down-requires g c = ap (λ (s : SeatedNode). s.node.state.mode) (stops_to _ _ _ c.stop-stopped.ensures)

pub returns-clause-left : goal.returns-clause-left
returns-clause-left g c =
    IfOk-weaker c.leave_down.result (λ l. IsNext c.stop-stopped.new.self.node l.node) (λ l. IsNext c.args.self.node l.node)
    (λ l is. subst (λ (s : SeatedNode). IsNext s.node l.node) (stops_to _ _ _ c.stop-stopped.ensures) is) c.leave_down.ensures.left

pub returns-clause-back : goal.returns-clause-back
returns-clause-back g c =
    IfErr-weaker c.leave_down.result (λ back. back.0 ≡ c.stop-stopped.new.self) (λ back. back.0 ≡ stopped c.args.self)
    (λ back is. is ∙ stops_to _ _ _ c.stop-stopped.ensures) c.leave_down.ensures.back

pub returns-clause-refused : goal.returns-clause-refused
returns-clause-refused g c =
    IfErr-weaker c.leave_down.result (λ back. IsNoNextLife c.stop-stopped.new.self.node.state.life back.1) (λ back. IsNoNextLife c.args.self.node.state.life back.1)
    (λ back is. subst (λ (s : SeatedNode). IsNoNextLife s.node.state.life back.1) (stops_to _ _ _ c.stop-stopped.ensures) is) c.leave_down.ensures.refused
