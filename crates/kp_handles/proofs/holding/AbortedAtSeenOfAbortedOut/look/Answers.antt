use Rattle.std.proofs.Common.{rules, ◌≡◌, ◌∙◌, List, ap, refl, sym}
use Rattle.std.specs.Prelude.{slice_get}
use Rattle.std.proofs.lemmas.Option.{slice_get_past}
use Rattle.kp_model.specs.Transactions.{Aborted}
use Rattle.kp_handles.specs.Holding.{aborted_in}
use Rattle.kp_handles.specs.Objects.{fetched}
use Rattle.kp_handles.proofs.holding.AbortedAtSeenOfAbortedOut.look.Goals as goal

pub returns-in-None-clause-only : goal.returns-in-None-clause-only
returns-in-None-clause-only g c =
    let held : c.args.object.now ≡ fetched c.in-Fetched.fetched = search rules in
    let none = slice_get_past c.aborted.result.now c.args.self.index c.in-None.ensures.lookup.3 in
    (c.args.object.now, refl, (c.in-Fetched.fetched.aborted, ap aborted_in held, ap (λ (xs : List Aborted). slice_get xs c.args.self.index) (sym c.aborted.ensures) ∙ none))
