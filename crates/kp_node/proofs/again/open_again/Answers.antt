use Rattle.std.proofs.Common.{◌≡◌, ℕ, zero, suc, List, [], ◌∷◌, length, map, get_or, refl, sym, ap, subst, ◌∙◌}
use Rattle.std.proofs.lemmas.List.{length-map}
use Rattle.kp_model.specs.World.{Node, fresh}
use Rattle.kp_model.specs.Run.{Run}
use Rattle.kp_replica.specs.NumberedNode.{NumberedNode}
use Rattle.kp_model.specs.Left.{IsOpening, Opening, again}
use Rattle.kp_node.proofs.again.open_again.Goals as goal

marks : (nodes : List NumberedNode) (k : ℕ) → get_or (map (λ m. m.state.watermark) nodes) k 0 ≡ (get_or (map (λ m. m.state) nodes) k fresh).watermark
marks [] zero = refl
marks [] (suc k) = refl
marks (x ∷ xs) zero = refl
marks (x ∷ xs) (suc k) = marks xs k

pub new-requires-clause-left : goal.new-requires-clause-left
new-requires-clause-left g c =
    let w = c.requires.left in
    let nodes : List NumberedNode = c.args.nodes.now in
    let on = c.left_ones_go_on.ensures w.left w.run g.E.Promise.list w.was w.lives w.held in
    let count : length w.left.nodes ≡ length nodes = sym (length-map w.left.nodes again) ∙ ap (λ (l : List Node). length l) (sym w.nodes_are) ∙ length-map nodes (λ m. m.state) in
    subst (λ (o : Opening). (x : Run o.count) × IsOpening o x)
    (λ i. record { count = count i; controller = sym w.record_is i; nodes = sym w.nodes_are i; promised = g.E.Promise.list }) (on.0, on.2)

pub new-requires-clause-marks : goal.new-requires-clause-marks
new-requires-clause-marks g c k l =
    let nodes : List NumberedNode = c.args.nodes.now in
    ap (λ (v : List ℕ). get_or v k 0) (c.deref.ensures.value ∙ c.in_ok-marks.ensures.marks) ∙ marks nodes k
