use Rattle.std.proofs.Common.{◌≡◌, ℕ, List, Bool, Some, None, cond, length, refl, sym, ap, ◌∙◌, subst, arith}
use Rattle.std.specs.Prelude.{◌==◌, ◌<◌, ◌+◌, ◌-◌, slice_index_or}
use Rattle.std.specs.List.{slice_get}
use Rattle.std.proofs.lemmas.Option.{slice_get_read, slice_get_past}
use Rattle.kp_types.proofs.Numbers.{at_is}
use Rattle.kp_places.specs.Places.{at, AreApart, IsSwapped}
use Rattle.kp_places.proofs.Finding.{apart}
use Rattle.kp_places.proofs.Moving.{placed_last, placed_swapped}
use Rattle.kp_places.proofs.places.Places.swap_remove.Goals as goal
use Rattle.kp_places.proofs.places.Places.swap_remove.Goals.{After-get}

pub returns-in-Some-clause-apart : goal.returns-in-Some-clause-apart
returns-in-Some-clause-apart c = subst (λ (ns : List ℕ). AreApart ns) c.self.view_is (apart c.self.inside.found.entries c.self.inside.numbers.items c.self.invariant)

pub returns-in_default-clause-apart : goal.returns-in_default-clause-apart
returns-in_default-clause-apart c = subst (λ (ns : List ℕ). AreApart ns) c.self.view_is (apart c.self.inside.found.entries c.self.inside.numbers.items c.self.invariant)

held : (c : After-get) → c.args.place < length c.self.inside.numbers.items
held c = subst (λ (ns : List ℕ). c.args.place < length ns) (sym c.self.view_is) c.requires

-- the number that goes stood there, the last one stands there, and the tree has lost it
stood : (c : After-get) → slice_get c.self.inside.numbers.items c.args.place ≡ Some c.swap_remove-number.result
stood c = slice_get_read c.self.inside.numbers.items (length c.self.inside.numbers.items) c.args.place c.swap_remove-number.result refl (held c) c.swap_remove-number.ensures.value

swapped : (c : After-get) → IsSwapped c.args.place c.self.inside.numbers.items c.swap_remove-number.new.self.items
swapped c =
    let old = c.self.inside.numbers.items in
    let new = c.swap_remove-number.new.self.items in
    let others = subst (λ (n : ℕ). ((d : ℕ) → c.args.place + 1 < n → slice_index_or new c.args.place d ≡ slice_index_or old (n - 1) d)
    × ((k : ℕ) (d : ℕ) → (k ≡ c.args.place → ⊥) → k + 1 < n → slice_index_or new k d ≡ slice_index_or old k d)) c.self.inside.numbers.ok.0 c.swap_remove-number.ensures.by_index in
    (omega (arith, c.swap_remove-number.ensures.len, c.swap_remove-number.new.self.ok.0, c.self.inside.numbers.ok.0), others.0, others.1)

less : (c : After-get) (other : ℕ) → at other c.remove.new.self.entries ≡ cond (c.swap_remove-number.result == other) None (at other c.self.inside.found.entries)
less c other = c.remove.ensures.updates.0 other ∙ ap (λ (t : Bool). cond t None (at other c.self.inside.found.entries)) (at_is c.swap_remove-number.result other)

pub invariant_of-self : goal.invariant_of-self
invariant_of-self c =
    let before = (goal.at.invariant_of-self c).After-get in
    let new = c.swap_remove-number.new.self.items in
    let stands : slice_get new c.args.place ≡ Some c.in-Some.moved.now =
    subst (λ (ns : List ℕ). slice_get ns c.args.place ≡ Some c.in-Some.moved.now) c.deref.ensures.value
    (slice_get_read c.deref.result.now (length c.deref.result.now) c.args.place c.in-Some.moved.now refl c.in-Some.ensures.lookup.3.0 c.in-Some.ensures.lookup.1) in
    placed_swapped c.self.inside.found.entries c.remove.new.self.entries c.put_place.new.found.entries c.self.inside.numbers.items new c.args.place
    c.swap_remove-number.result c.in-Some.moved.now c.self.invariant (swapped before) (stood before) stands (less before) c.put_place.ensures

pub invariant_of-self-in_default : goal.invariant_of-self-in_default
invariant_of-self-in_default c =
    let before = (goal.at.invariant_of-self-in_default c).After-get in
    let new = c.swap_remove-number.new.self.items in
    let none : slice_get new c.args.place ≡ None =
    subst (λ (ns : List ℕ). slice_get ns c.args.place ≡ None) c.deref.ensures.value
    (slice_get_past c.deref.result.now c.args.place c.in_default.ensures.lookup.3) in
    placed_last c.self.inside.found.entries c.remove.new.self.entries c.self.inside.numbers.items new c.args.place
    c.swap_remove-number.result c.self.invariant (swapped before) (stood before) none (less before)

pub returns-in-Some-clause-left : goal.returns-in-Some-clause-left
returns-in-Some-clause-left c =
    subst (λ (ns : List ℕ). IsSwapped c.args.place ns c.swap_remove-number.new.self.items) c.self.view_is (swapped (goal.at.returns-in-Some-clause-left c).After-get)

pub returns-in_default-clause-left : goal.returns-in_default-clause-left
returns-in_default-clause-left c =
    subst (λ (ns : List ℕ). IsSwapped c.args.place ns c.swap_remove-number.new.self.items) c.self.view_is (swapped (goal.at.returns-in_default-clause-left c).After-get)
