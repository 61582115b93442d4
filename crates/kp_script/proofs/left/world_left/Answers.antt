use Rattle.std.proofs.Common.{◌≡◌, inr}
use Rattle.kp_folder.specs.declared.fault.FolderFault.TheVariants.{BadFile}
use Rattle.kp_folder.specs.declared.fault.KeptFile.TheVariants.{Record}
use Rattle.kp_model.specs.Set.{record_of}
use Rattle.kp_script.specs.Seen.{seen_header}
use Rattle.kp_script.proofs.Leftover.{either_lacks, no_number, world_begun}
use Rattle.kp_script.proofs.left.world_left.Goals as goal

pub returns-in_default-clause-fault : goal.returns-in_default-clause-fault
returns-in_default-clause-fault g c = λ fault e.
    let same : fault ≡ BadFile Record = cc in
    inr (either_lacks (g.F.ReadFolder.files c.args.folder.now) c.args.header.now.count fault
    (no_number (g.F.ReadFolder.files c.args.folder.now) c.limits_of.result c.args.header.now.count c.in-Ok.left.messages (record_of c.in-Ok.left.controller) c.in-Ok.left.nodes.items fault same
    c.in_default.is c.in-Ok.ensures.count c.in-Ok.ensures.left))

pub returns-in-Ok-again-clause-found : goal.returns-in-Ok-again-clause-found
returns-in-Ok-again-clause-found g c =
    world_begun (g.F.ReadFolder.files c.args.folder.now) c.limits_of.result (seen_header c.args.header.now) c.in-Ok.left.messages c.in-Some.first (record_of c.in-Ok.left.controller)
    c.in-Ok.left.nodes.items c.in-Ok-again.world c.limits_of.ensures c.in-Some.is c.in-Ok.ensures.count c.in-Ok-again.ensures c.in-Ok.ensures.left
