use Rattle.std.proofs.Common.{◌≡◌, ◌∷◌, ◌++◌, ℕ, ◌+◌, List, [], take, refl, sym, ap, ◌∙◌, arith, append-nil}
use Rattle.std.specs.Global.{Vec}
use Rattle.kp_model.specs.Set.{numbers_of}
use Rattle.kp_script.specs.Trace.{nodes_text}
use Rattle.kp_script.proofs.Tracing.{grown, nodes_more, separator_of, separator_none, separator_some, some_after, is_none, numbers_taken, numbers_passed}
use Rattle.kp_script.proofs.trace.push_nodes.Goals as goal
use Rattle.kp_script.proofs.trace.push_nodes.Goals.{then-member+in_ok-push_number, then-not-first+in_ok-push, else-not-first, else-member}

pub loop-node-preserved : goal.loop-node-preserved
loop-node-preserved c =
    let places = c.args.set.now.members in
    let i = c.loop-node.node in
    let ns = numbers_of 0 (take i places) in
    elim c.if-member.branch [
      | then-member+in_ok-push_number w ↦
          let e : numbers_of 0 (take (i + 1) places) ≡ ns ++ i ∷ [] = numbers_taken places i (omega arith) w.if-member.true in
          let mid : w.if-not-first.text.items ≡ c.loop-node.text.items ++ separator_of ns =
          elim w.if-not-first.branch [
            | then-not-first+in_ok-push w' ↦
                ap (λ (v : Vec ℕ). v.items) w'.text-is ∙ w'.in_ok-push.ensures.items
                ∙ ap (λ (end : List ℕ). c.loop-node.text.items ++ end) (sym (separator_some ns (sym c.loop-node.invariant.first ∙ w'.if-not-first.true)))
            | else-not-first w' ↦
                ap (λ (v : Vec ℕ). v.items) w'.text-is ∙ sym (append-nil (c.loop-node.text.items))
                ∙ ap (λ (end : List ℕ). c.loop-node.text.items ++ end) (sym (separator_none ns (sym c.loop-node.invariant.first ∙ w'.if-not-first.false)))
          ] in
          let before : w.if-not-first.text.items ≡ c.args.text.now.items ++ (nodes_text ns ++ separator_of ns) =
          grown _ _ _ _ _ _ mid c.loop-node.invariant.text refl in
          record {
            text = ap (λ (v : Vec ℕ). v.items) w.text-is ∙ grown _ _ _ _ _ _ w.in_ok-push_number.ensures before (ap nodes_text e ∙ nodes_more ns i);
            first = w.first-is ∙ sym (ap is_none e ∙ some_after ns i);
          }
      | else-member w ↦
          let e : numbers_of 0 (take (i + 1) places) ≡ ns = numbers_passed places i (omega arith) w.if-member.false in
          record {
            text = ap (λ (v : Vec ℕ). v.items) w.text-is ∙ c.loop-node.invariant.text ∙ ap (λ (l : List ℕ). c.args.text.now.items ++ nodes_text l) (sym e);
            first = w.first-is ∙ c.loop-node.invariant.first ∙ ap is_none (sym e);
          }
    ]
