use Rattle.std.proofs.Common.{◌≡◌, ◌⊎◌, List, Option, inl, inr, ⊎_elim, subst}
use Rattle.std.specs.Prelude.{IfSome}
use Rattle.kp_model.specs.Left.{LeftNode}
use Rattle.kp_model.specs.Set.{record_of}
use Rattle.kp_folder.specs.Bad.{IsStop, NoNodes, NoneLeft}
use Rattle.kp_folder.specs.Files.{Files}
use Rattle.kp_folder.specs.Left.{HasRecord, HaveLives, HaveNodes, nodes_again}
use Rattle.kp_folder.proofs.Known.{fault_on, known_both, still}
use Rattle.kp_folder.proofs.NodeRows.{all_left}
use Rattle.kp_folder.proofs.nodes.read_left.Goals as goal

pub returns-clause-left : goal.returns-clause-left
returns-clause-left g c =
    let known = g.F.ReadFolder.files c.args.folder.now in
    let limits = c.args.limits.now in
    let r = c.in_ok-controller in
    let nodes = c.in_ok-nodes.nodes.items in
    let has = λ (files : Files). (xs : List LeftNode) × HaveNodes files limits.max_batch 0 xs × HaveLives xs × (nodes ≡ nodes_again limits 0 xs) in
    known_both known (λ files. HasRecord files c.args.count (record_of r.controller) r.messages) has _
    (λ files said there. all_left files limits c.args.count r.messages (record_of r.controller) nodes said c.in_ok-nodes.ensures.count there)
    r.ensures.found (still known (g.F.ReadFolder.files c.read_record.new.folder) has c.read_record.ensures.same c.in_ok-nodes.ensures.nodes)

pub returns-in_err-nodes-clause-fault : goal.returns-in_err-nodes-clause-fault
returns-in_err-nodes-clause-fault g c =
    let known = g.F.ReadFolder.files c.args.folder.now in
    let max = c.args.limits.now.max_batch in
    let r = c.in_ok-controller in
    let fault = c.in_err-nodes.field-0.0 in
    let bad = subst (λ (o : Option Files). IsStop fault ⊎ IfSome o (λ files. NoNodes files max c.args.count fault)) c.read_record.ensures.same c.in_err-nodes.ensures.fault in
    let all : IsStop fault ⊎ IfSome known (λ files. NoneLeft files max c.args.count fault) =
    ⊎_elim (λ stop. inl stop)
    (λ no. inr (known_both known (λ files. HasRecord files c.args.count (record_of r.controller) r.messages) (λ files. NoNodes files max c.args.count fault)
    (λ files. NoneLeft files max c.args.count fault) (λ files said nodes. inr (record_of r.controller, r.messages, said, nodes)) r.ensures.found no)) bad in
    fault_on c.from_residual-in_err-nodes.result fault known (λ files f. NoneLeft files max c.args.count f) (λ files f. NoneLeft files max c.args.count f)
    c.from_residual-in_err-nodes.ensures.1 (λ files none. none) all
