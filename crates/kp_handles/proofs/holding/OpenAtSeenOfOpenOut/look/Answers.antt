use Rattle.std.proofs.Common.{rules, ◌≡◌, ◌∙◌, List, ap, refl, sym}
use Rattle.std.proofs.lemmas.Option.{slice_get_read, slice_get_past}
use Rattle.std.specs.Prelude.{length, slice_get}
use Rattle.kp_model.specs.Transactions.{Open}
use Rattle.kp_handles.specs.Holding.{open_in}
use Rattle.kp_handles.specs.Objects.{transactions}
use Rattle.kp_handles.proofs.holding.OpenAtSeenOfOpenOut.look.Goals as goal

pub returns-in-Some-clause-found : goal.returns-in-Some-clause-found
returns-in-Some-clause-found g c =
    let ts = c.in-Transactions.open.items in
    let t = c.in-Some.transaction.now in
    let ds = c.deref.result.now in
    let same = ap (λ (xs : List Open). slice_get xs c.args.self.index) (sym c.deref.ensures.value) in
    let held : c.args.object.now ≡ transactions ts = search rules in
    (c.args.object.now, ts, t, refl, ap open_in held, same ∙ slice_get_read ds (length ds) c.args.self.index t refl c.in-Some.ensures.lookup.3.0 c.in-Some.ensures.lookup.1, c.of.ensures)

pub returns-in-None-clause-only : goal.returns-in-None-clause-only
returns-in-None-clause-only g c =
    let ts = c.in-Transactions.open.items in
    let ds = c.deref.result.now in
    let same = ap (λ (xs : List Open). slice_get xs c.args.self.index) (sym c.deref.ensures.value) in
    let held : c.args.object.now ≡ transactions ts = search rules in
    (c.args.object.now, refl, (ts, ap open_in held, same ∙ slice_get_past ds c.args.self.index c.in-None.ensures.lookup.3))
