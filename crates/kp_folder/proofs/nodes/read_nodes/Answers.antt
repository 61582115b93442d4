use Rattle.std.proofs.Common.{rules, ◌≡◌, ◌∙◌, ◌⊎◌, ◌+◌, ◌<◌, ◌^◌, Option, inl, inr, ⊎_elim, subst}
use Rattle.std.specs.Prelude.{IfSome}
use Rattle.kp_model.specs.Left.{LeftNode, again}
use Rattle.kp_folder.specs.Bad.{IsStop, NoNode, NoNodes}
use Rattle.kp_folder.specs.Files.{Files}
use Rattle.kp_folder.specs.Left.{HasNode}
use Rattle.kp_folder.proofs.Known.{fault_on, known_both, still}
use Rattle.kp_folder.proofs.NodeRows.{SomeNodes, nodes_before, one_node_more}
use Rattle.kp_folder.proofs.nodes.read_nodes.Goals as goal

pub returns-in_err-kept-clause-fault : goal.returns-in_err-kept-clause-fault
returns-in_err-kept-clause-fault g c =
    let l = c.loop-node in
    let known = g.F.ReadFolder.files c.args.folder.now in
    let max = c.args.limits.now.max_batch in
    let fault = c.in_err-kept.field-0.0 in
    let low : l.node < c.args.count = search rules in
    let bad = subst (λ (o : Option Files). IsStop fault ⊎ IfSome o (λ files. NoNode files max l.node fault)) l.invariant.same c.in_err-kept.ensures.fault in
    let all : IsStop fault ⊎ IfSome known (λ files. NoNodes files max c.args.count fault) =
    ⊎_elim (λ stop. inl stop)
    (λ no. inr (known_both known (λ files. SomeNodes files c.args.limits.now l.node l.nodes.items) (λ files. NoNode files max l.node fault) (λ files. NoNodes files max c.args.count fault)
    (λ files some one. nodes_before files c.args.limits.now c.args.count l.node l.nodes.items fault some low one) l.invariant.some no)) bad in
    fault_on c.from_residual.result fault known (λ files f. NoNodes files max c.args.count f) (λ files f. NoNodes files max c.args.count f)
    c.from_residual.ensures.1 (λ files no. no) all

pub loop-node-preserved : goal.loop-node-preserved
loop-node-preserved g c =
    let l = c.loop-node in
    let known = g.F.ReadFolder.files c.args.folder.now in
    let limits = c.args.limits.now in
    let m = c.in_ok-kept.kept in
    let is = λ (files : Files). (x : LeftNode) × HasNode files limits.max_batch l.node x × (x.life + 1 < 2 ^ 64) × (m ≡ record { number = l.node; limits = limits; state = again x }) in
    record {
      same = c.read_node.ensures.same ∙ l.invariant.same;
      some = known_both known (λ files. SomeNodes files limits l.node l.nodes.items) is (λ files. SomeNodes files limits (l.node + 1) c.push.new.self.items)
          (λ files some one. one_node_more files limits l.node l.nodes.items c.push.new.self.items m one.0 some one.1 one.2 one.3 c.in-Ok.ensures.items)
          l.invariant.some (still known (g.F.ReadFolder.files l.folder) is l.invariant.same c.in_ok-kept.ensures.node);
      count = search rules;
    }
