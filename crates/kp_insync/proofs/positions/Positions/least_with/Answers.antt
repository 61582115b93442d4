use Rattle.std.proofs.Common.{◌≡◌, ◌⊎◌, ℕ, List, Option, None, get_or, sym, ap, ◌∙◌, subst, arith}
use Rattle.std.specs.Option.{unwrap_or}
use Rattle.kp_insync.specs.Reports.{IsReported}
use Rattle.kp_insync.proofs.Least.{as_places, unknown_at, none_left, least_known_of, flat}
use Rattle.kp_model.specs.Set.{numbers_of}
use Rattle.kp_model.specs.Controller.{without_member}
use Rattle.kp_insync.proofs.positions.Positions.least_with.Goals as goal

pub returns-in_err-reported-clause-least : goal.returns-in_err-reported-clause-least
returns-in_err-reported-clause-least c =
    let ends = c.self.inside.ends in
    let place = c.loop-place.place in
    let none : get_or ends place None ≡ None =
    sym (c.get.ensures.lookup.4 (omega arith) None) ∙ sym (ap (λ (o : Option (Option ℕ)). unwrap_or o None) c.copied.ensures)
    ∙ flat c.copied.result ∙ sym c.flatten.ensures ∙ c.in_err-reported.was in
    c.from_residual.ensures ∙ sym (as_places c.args.self.now ends c.args.set.now.members c.as_slice-members.result.now c.args.own c.args.end c.self.view_is c.as_slice-members.ensures
    ∙ c.loop-place.invariant
    ∙ unknown_at ends c.as_slice-members.result.now c.args.own place c.loop-place.least (omega arith) c.if-member.true
    (λ e. c.if-place-from.true (omega (arith, e, c.from.ensures))) none)

pub returns-clause-least : goal.returns-clause-least
returns-clause-least c =
    let ends = c.self.inside.ends in
    sym (as_places c.args.self.now ends c.args.set.now.members c.as_slice-members.result.now c.args.own c.args.end c.self.view_is c.as_slice-members.ensures
    ∙ c.loop-place.invariant
    ∙ none_left ends c.as_slice-members.result.now c.args.own c.loop-place.place c.loop-place.least (omega arith))

pub returns-clause-known : goal.returns-clause-known
returns-clause-known c =
    let ends = c.self.inside.ends in
    let members = c.as_slice-members.result.now in
    subst (λ (rs : List (Option ℕ)). (c.loop-place.least ≡ c.args.end) ⊎ IsReported rs c.loop-place.least) c.self.view_is
    (least_known_of ends (without_member c.args.own (numbers_of 0 members)) c.args.end c.loop-place.least
    (c.loop-place.invariant ∙ none_left ends members c.args.own c.loop-place.place c.loop-place.least (omega arith)))
