use Rattle.std.proofs.Common.{◌≡◌, ℕ, ◌+◌, ◌<◌, List, [], ◌∷◌, ◌++◌, length, map, get_or, arith, sym, ap, ◌∙◌, subst, inl, inr}
use Rattle.std.proofs.lemmas.Bool.{cases_lt}
use Rattle.std.proofs.lemmas.List.{length-map, map-append, length_push, get_or_append_left, get_or_push}
use Rattle.kp_types.specs.declared.limits.Limits.{Limits}
use Rattle.kp_model.specs.World.{fresh}
use Rattle.kp_replica.specs.NumberedNode.{NumberedNode}
use Rattle.kp_model.specs.Letter.{letter}
use Rattle.kp_world.specs.Shown.{IsNode}
use Rattle.kp_replica.specs.Broker.{node_at}
use Rattle.kp_world.proofs.world.World.start.Goals as goal

pub returns-clause-shown : goal.returns-clause-shown
returns-clause-shown c = record {
  controller_is = sym c.initial.ensures;
  count = omega (arith, length-map c.loop-number.nodes.items node_at, c.loop-number.invariant.count);
  nodes_are = λ n d h. c.loop-number.invariant.nodes n d (omega (arith, length-map c.loop-number.nodes.items node_at, c.loop-number.invariant.count));
  earlier = omega arith;
  letters_are = sym (ap (map letter) c.new-2.ensures.items);
}

-- one node more, of the next number
node_more : (limits : Limits) (number : ℕ) (members : List NumberedNode) (new : NumberedNode) → length members ≡ number → new ≡ record { number = number; limits = limits; state = fresh }
    → ((n : ℕ) (d : NumberedNode) → n < number → IsNode limits n (get_or members n d) fresh) → (n : ℕ) (d : NumberedNode) → n < number + 1 → IsNode limits n (get_or (members ++ new ∷ []) n d) fresh
node_more limits number members new count is nodes n d below =
    elim (cases_lt n number) [
      | inl before ↦
          let same = get_or_append_left members (new ∷ []) d n (omega (arith, count, before)) in
          subst (λ (m : NumberedNode). IsNode limits n m fresh) (sym same) (nodes n d before)
      | inr behind ↦
          let at : n ≡ number = omega (arith, behind, below) in
          let last = get_or_push members new d n (count ∙ sym at) ∙ is in
          record {
            number_is = ap (λ (m : NumberedNode). m.number) last ∙ sym at;
            limits_are = ap (λ (m : NumberedNode). m.limits) last;
            state = sym (ap (λ (m : NumberedNode). m.state) last);
          }
    ]

pub loop-number-preserved : goal.loop-number-preserved
loop-number-preserved c =
    let brokers = c.loop-number.nodes.items in
    let members = map node_at brokers in
    let grown = ap (map node_at) c.in_ok-push.ensures.items ∙ map-append node_at brokers (c.new.result ∷ []) in
    record {
      count = ap length c.in_ok-push.ensures.items ∙ length_push brokers c.new.result ∙ ap (λ (k : ℕ). k + 1) c.loop-number.invariant.count;
      nodes = λ n d below.
          subst (λ (l : List NumberedNode). IsNode c.args.limits.now n (get_or l n d) fresh) (sym grown)
          (node_more c.args.limits.now c.loop-number.number members (node_at c.new.result) (length-map brokers node_at ∙ c.loop-number.invariant.count) c.new.ensures c.loop-number.invariant.nodes n d below);
    }
