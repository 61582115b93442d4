use Rattle.std.proofs.Common.{◌≡◌, ℕ, List, Some, None, ◌∙◌, subst}
use Rattle.kp_places.specs.Places.{place_of}
use Rattle.kp_places.proofs.Finding.{leads}
use Rattle.kp_places.proofs.places.Places.search.Goals as goal

pub returns-in-Some : goal.returns-in-Some
returns-in-Some c =
    subst (λ (ns : List ℕ). Some c.in-Some.place.now ≡ place_of c.args.number ns) c.self.view_is
    (c.in-Some.ensures.value ∙ leads c.self.inside.found.entries c.self.inside.numbers.items c.self.invariant c.args.number)

pub returns-in-None : goal.returns-in-None
returns-in-None c =
    subst (λ (ns : List ℕ). None ≡ place_of c.args.number ns) c.self.view_is
    (c.in-None.ensures.value ∙ leads c.self.inside.found.entries c.self.inside.numbers.items c.self.invariant c.args.number)
