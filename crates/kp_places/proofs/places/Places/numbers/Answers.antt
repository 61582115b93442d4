use Rattle.std.proofs.Common.{ℕ, List, subst}
use Rattle.kp_places.specs.Places.{AreApart}
use Rattle.kp_places.proofs.Finding.{apart}
use Rattle.kp_places.proofs.places.Places.numbers.Goals as goal

pub returns-clause-apart : goal.returns-clause-apart
returns-clause-apart c = subst (λ (ns : List ℕ). AreApart ns) c.self.view_is (apart c.self.inside.found.entries c.self.inside.numbers.items c.self.invariant)
