use Rattle.std.proofs.Common.{◌≡◌, ◌+◌, ◌++◌, ◌∷◌, [], ℕ, ap, sym, ◌∙◌, subst, arith, List, length}
use Rattle.std.specs.Prelude.{Bool, false, Some, None, Option}
use Rattle.kp_visible.specs.Looked.{AreBehind, last_stretch, spread}
use Rattle.kp_visible.specs.declared.looked.Stretch.{Stretch}
use Rattle.kp_visible.specs.declared.looked.Looked.TheInside.{Inside}
use Rattle.kp_visible.proofs.Stretches.{behind_hidden, behind_closed, spread_hidden, spread_closed, spread_length}
use Rattle.kp_visible.proofs.looked.Looked.push_hidden.Goals as goal
use Rattle.kp_visible.proofs.looked.Looked.push_hidden.Goals.{in-None, in-Some+in_ok-push-in-Some}

abbrev all : Inside → List Stretch
all x = x.stretches.items ++ last_stretch x.last x.count

-- the stretches afterwards, once the batch is counted
abbrev after : Inside → List Stretch
after x = x.stretches.items ++ last_stretch x.last (x.count + 1)

abbrev Closes : Inside → Inside → Type 0
Closes x y = AreBehind 0 (after y) (y.count + 1) × (spread 0 (after y) (y.count + 1) ≡ spread 0 (all x) x.count ++ false ∷ [])

-- no stretch was open
none_open : (x y : Inside) → AreBehind 0 (all x) x.count → y ≡ x → x.last ≡ None → Closes x y
none_open x y behind same none =
    rw same (subst (λ (o : Option ℕ). AreBehind 0 (x.stretches.items ++ last_stretch o (x.count + 1)) (x.count + 1) × (spread 0 (x.stretches.items ++ last_stretch o (x.count + 1)) (x.count + 1) ≡ spread 0 (x.stretches.items ++ last_stretch o x.count) x.count ++ false ∷ [])) (sym none)
    (let plain = subst (λ (o : Option ℕ). AreBehind 0 (x.stretches.items ++ last_stretch o x.count) x.count) none behind in
    (behind_hidden 0 (x.stretches.items ++ []) x.count plain, spread_hidden 0 (x.stretches.items ++ []) x.count plain)))

-- the open one is closed
one_closed : (x y : Inside) (start : ℕ) → AreBehind 0 (all x) x.count → x.last ≡ Some start → y.count ≡ x.count → y.stretches.items ≡ x.stretches.items ++ record { start = start; end = x.count } ∷ [] → y.last ≡ None → Closes x y
one_closed x y start behind some count closed none =
    let here = subst (λ (o : Option ℕ). AreBehind 0 (x.stretches.items ++ last_stretch o x.count) x.count) some behind in
    rw (closed, none, count, some) (behind_closed x.stretches.items start x.count here, spread_closed x.stretches.items start x.count here)

pub overflow_add-self : goal.overflow_add-self
overflow_add-self c =
    let x = c.self.inside in
    let many = ap (λ (vs : List Bool). length vs) (sym c.self.view_is) ∙ spread_length 0 (all x) x.count c.self.invariant in
    let count : c.match-self.self-inside.count ≡ x.count = elim c.match-self.branch [
      | in-None w ↦ ap (λ (y : Inside). y.count) w.self-inside-is
      | in-Some+in_ok-push-in-Some w ↦ ap (λ (y : Inside). y.count) w.self-inside-is
    ] in
    omega (arith, many, count, c.requires)

pub invariant_of-self-2 : goal.invariant_of-self-2
invariant_of-self-2 c =
    let x = c.self.inside in
    let y = c.match-self.self-inside in
    let done : Closes x y = elim c.match-self.branch [
      | in-None w ↦ none_open x y c.self.invariant w.self-inside-is w.in-None.is
      | in-Some+in_ok-push-in-Some w ↦
          one_closed x y w.in-Some.start c.self.invariant w.in-Some.is (ap (λ (z : Inside). z.count) w.self-inside-is)
          (ap (λ (z : Inside). z.stretches.items) w.self-inside-is ∙ w.in_ok-push-in-Some.ensures.items) (ap (λ (z : Inside). z.last) w.self-inside-is)
    ] in
    done.0

pub returns-clause-ok : goal.returns-clause-ok
returns-clause-ok c =
    let x = c.self.inside in
    let y = c.match-self.self-inside in
    let done : Closes x y = elim c.match-self.branch [
      | in-None w ↦ none_open x y c.self.invariant w.self-inside-is w.in-None.is
      | in-Some+in_ok-push-in-Some w ↦
          one_closed x y w.in-Some.start c.self.invariant w.in-Some.is (ap (λ (z : Inside). z.count) w.self-inside-is)
          (ap (λ (z : Inside). z.stretches.items) w.self-inside-is ∙ w.in_ok-push-in-Some.ensures.items) (ap (λ (z : Inside). z.last) w.self-inside-is)
    ] in
    done.1 ∙ ap (λ (vs : List Bool). vs ++ false ∷ []) c.self.view_is
