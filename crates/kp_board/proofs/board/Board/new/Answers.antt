use Rattle.std.proofs.Common.{arith, ◌≡◌, ℕ, ◌/◌, sym, ap, ◌∙◌, rules}
use Rattle.atomic_table.specs.Table.{Me}
use Rattle.kp_model.specs.Left.{Opening}
use Rattle.kp_board.specs.Opening.{BoardId}
use Rattle.kp_board.specs.Views.{NodeView, View, founder, new_node, opened_node, next_founder, founded_node, node_view}
use Rattle.kp_board.proofs.Sharing.{founds_as}
use Rattle.kp_board.proofs.Sits.{pushed_by}
use Rattle.kp_board.proofs.board.Board.new.Goals as goal

pub split_seat-seat-requires : goal.split_seat-seat-requires
split_seat-seat-requires g c =
    let i = c.opened.invariant in
    let l = c.loop-number.invariant in
    let key : Opening = c.opened.inside.table.shared.key in
    let at : c.loop-number.first.me.0 ≡ founder c.loop-number.number key 0 = ap (λ (m : Me ℕ View). m.0) l.1 in
    let count : key.count ≡ c.opened.inside.nodes = ap (λ (o : Opening). o.count) i.2 in
    (l.0, (let w = i.3 in omega arith), founds_as key c.loop-number.first.id c.loop-number.number 0 c.loop-number.first.me.0 at (omega arith))

pub invariant_of-push : goal.invariant_of-push
invariant_of-push g c =
    let v = ap (λ (m : Me ℕ View). m.0) c.loop-number.invariant.1 in
    let here : node_view c.split_seat-seat.result.me.0 ≡ new_node c.opened.inside.nodes c.loop-number.number = ap (λ (m : Me ℕ View). node_view m.0) c.split_seat-seat.ensures.4 ∙ ap (λ (x : View). node_view (founded_node x)) v ∙ ap (λ (o : Opening). opened_node o c.loop-number.number) c.opened.invariant.2 in
    let num = ap (λ (x : NodeView). x.number) here in
    let wide = ap (λ (z : BoardId). z.words) (sym (c.opened.view_is ∙ c.requires)) ∙ c.opened.invariant.3 in
    let half : c.opened.inside.nodes ≡ g.B.BoardName.table.words / 2 = omega arith in
    record { fresh = here ∙ (λ i. new_node (half i) (sym num i)); inside = omega arith }

pub loop-number-preserved : goal.loop-number-preserved
loop-number-preserved g c =
    let l = c.loop-number.invariant in
    let s = c.split_seat-seat.ensures in
    let v = ap (λ (m : Me ℕ View). m.0) l.1 in
    let rest = ap (λ (m : Me ℕ View). m.1) l.1 in
    let here : node_view c.split_seat-seat.result.me.0 ≡ new_node c.opened.inside.nodes c.loop-number.number = ap (λ (m : Me ℕ View). node_view m.0) s.4 ∙ ap (λ (x : View). node_view (founded_node x)) v ∙ ap (λ (o : Opening). opened_node o c.loop-number.number) c.opened.invariant.2 in
    let more = pushed_by (λ f. f.pass) (new_node c.opened.inside.nodes) c.loop-number.number c.loop-number.passes.items _ c.push.new.self.items c.in_ok-push.ensures.items (l.2) l.3 here in
    (s.0 ∙ l.0, s.2 ∙ (λ k. (next_founder (v k), rest k)), more.0, more.1)

pub invariant_of-pass : goal.invariant_of-pass
invariant_of-pass c = search rules
