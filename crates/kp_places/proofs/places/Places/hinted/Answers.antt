use Rattle.std.proofs.Common.{◌≡◌, ℕ, List, Some, length, refl, ap, ◌∙◌, subst}
use Rattle.std.specs.List.{slice_get}
use Rattle.std.proofs.lemmas.Option.{slice_get_read}
use Rattle.kp_places.specs.Places.{place_of}
use Rattle.kp_places.proofs.Finding.{apart}
use Rattle.kp_places.proofs.places.Places.hinted.Goals as goal

pub returns-in-Some : goal.returns-in-Some
returns-in-Some c =
    let numbers = c.self.inside.numbers.items in
    let place = c.in_ok-place.field-0.now in
    let read = slice_get_read c.deref-2.result.now (length c.deref-2.result.now) place c.in-Some.here.now refl c.in-Some.ensures.lookup.3.0 c.in-Some.ensures.lookup.1 in
    let stands : slice_get numbers place ≡ Some c.args.number =
    subst (λ (ns : List ℕ). slice_get ns place ≡ Some c.in-Some.here.now) c.deref-2.ensures.value read ∙ ap (λ (n : ℕ). Some n) c.if-here-number.true in
    subst (λ (ns : List ℕ). place_of c.args.number ns ≡ Some place) c.self.view_is
    (apart c.self.inside.found.entries numbers c.self.invariant place c.args.number stands)
