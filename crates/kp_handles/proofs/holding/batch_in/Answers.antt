use Rattle.std.proofs.Common.{refl}
use Rattle.std.proofs.lemmas.Option.{slice_get_read, slice_get_past}
use Rattle.std.specs.Prelude.{length}
use Rattle.kp_handles.specs.Holding.{batches_in}
use Rattle.kp_handles.proofs.Parts.{no_list}
use Rattle.kp_handles.proofs.holding.batch_in.Goals as goal

pub returns-in-Some-clause-found : goal.returns-in-Some-clause-found
returns-in-Some-clause-found g c =
    let ws = c.in-Ok.batches.now in
    let w = c.in-Some.batch.now in
    (c.args.object.now, ws, w, refl, c.in-Ok.ensures.found, slice_get_read ws (length ws) c.args.index w refl c.in-Some.ensures.lookup.3.0 c.in-Some.ensures.lookup.1, refl)

pub returns-in-None-clause-only : goal.returns-in-None-clause-only
returns-in-None-clause-only g c =
    let ws = c.in-Ok.batches.now in
    (c.args.object.now, refl, (ws, c.in-Ok.ensures.found, slice_get_past ws c.args.index c.in-None.ensures.lookup.3))

pub returns-in-Err-clause-only : goal.returns-in-Err-clause-only
returns-in-Err-clause-only g c =
    no_list batches_in c.args.index (λ w. 0) 0 c.args.object.now c.in-Err.misuse c.in-Err.ensures.only.0 c.in-Err.ensures.only.1
