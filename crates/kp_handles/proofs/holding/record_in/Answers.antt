use Rattle.std.proofs.Common.{rules, arith, ◌≡◌, ap, refl}
use Rattle.std.proofs.lemmas.Option.{slice_get_read, slice_get_past}
use Rattle.kp_visible.specs.Lines.{line_of}
use Rattle.kp_handles.specs.Holding.{lines_in}
use Rattle.kp_handles.specs.Objects.{records}
use Rattle.kp_handles.proofs.holding.record_in.Goals as goal

pub returns-then-index-len-clause-found : goal.returns-then-index-len-clause-found
returns-then-index-len-clause-found g c =
    let l = line_of c.get.result in
    let held : c.args.object.now ≡ records c.in-Records.records = search rules in
    (c.args.object.now, c.in-Records.records, l, refl, ap lines_in held, slice_get_read c.in-Records.records c.len.result c.args.index l c.len.ensures c.if-index-len.true (c.get.ensures l), refl)

pub returns-else-index-len-clause-only : goal.returns-else-index-len-clause-only
returns-else-index-len-clause-only g c =
    let held : c.args.object.now ≡ records c.in-Records.records = search rules in
    (c.args.object.now, refl, (c.in-Records.records, ap lines_in held, slice_get_past c.in-Records.records c.args.index (omega (arith, c.len.ensures, c.if-index-len.false))))
