use Rattle.std.proofs.Common.{◌≡◌, ℕ, List, Bool, Some, None, cond, length, sym, ap, ◌∙◌, subst}
use Rattle.std.specs.Prelude.{◌==◌}
use Rattle.kp_types.proofs.Numbers.{at_is}
use Rattle.kp_places.specs.Places.{place_of, at, IsPlaced}
use Rattle.kp_places.proofs.Moving.{placed_more}
use Rattle.kp_places.proofs.places.Places.push.Goals as goal

counted : (before numbers : List ℕ) (n : ℕ) → n ≡ length before → before ≡ numbers → n ≡ length numbers
counted before numbers n is same = is ∙ ap (λ (ns : List ℕ). length ns) same

pub invariant_of-self-in-Ok : goal.invariant_of-self-in-Ok
invariant_of-self-in-Ok c =
    let found = c.self-2.inside.found.entries in
    let numbers = c.self-2.inside.numbers.items in
    let number = c.args.number in
    let fresh : place_of number numbers ≡ None =
    subst (λ (ns : List ℕ). place_of number ns ≡ None) (sym (c.self-2.view_is ∙ c.make_hints.ensures.same)) c.requires in
    let count : c.len-place.result ≡ length numbers = counted c.self.inside.numbers.items numbers c.len-place.result (c.len-place.ensures ∙ c.self.inside.numbers.ok.0) (c.self.view_is ∙ sym (c.self-2.view_is ∙ c.make_hints.ensures.same)) in
    let more : (other : ℕ) → at other c.insert.new.self.entries ≡ cond (number == other) (Some (length numbers)) (at other found) = λ other.
    c.in-Ok.ensures.updates.0 other ∙ ap (λ (t : Bool). cond t (Some c.len-place.result) (at other found)) (at_is number other)
    ∙ ap (λ (n : ℕ). cond (number == other) (Some n) (at other found)) count in
    subst (λ (ns : List ℕ). IsPlaced c.insert.new.self.entries ns) (sym c.in_ok-push.ensures.items)
    (placed_more found c.insert.new.self.entries numbers number c.self-2.invariant fresh more)
