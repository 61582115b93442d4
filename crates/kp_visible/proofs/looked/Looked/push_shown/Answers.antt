use Rattle.std.proofs.Common.{◌+◌, ◌++◌, ◌∷◌, [], ℕ, ap, sym, ◌∙◌, subst, arith, List, length}
use Rattle.std.specs.Prelude.{Bool, true, Some}
use Rattle.kp_visible.specs.Looked.{AreBehind, last_stretch, spread}
use Rattle.kp_visible.proofs.Stretches.{behind_more, spread_more, spread_length}
use Rattle.kp_visible.proofs.looked.Looked.push_shown.Goals as goal

pub overflow_add-self : goal.overflow_add-self
overflow_add-self c =
    let x = c.self.inside in
    let many = ap (λ (vs : List Bool). length vs) (sym c.self.view_is) ∙ spread_length 0 (x.stretches.items ++ last_stretch x.last x.count) x.count c.self.invariant in
    omega (arith, many, c.requires)

pub invariant_of-self : goal.invariant_of-self
invariant_of-self c =
    let x = c.self.inside in
    subst (λ (start : ℕ). AreBehind 0 (x.stretches.items ++ last_stretch (Some start) (x.count + 1)) (x.count + 1)) (sym c.unwrap_or.ensures)
    (behind_more x.stretches.items x.last x.count c.self.invariant)

pub returns : goal.returns
returns c =
    let x = c.self.inside in
    ap (λ (start : ℕ). spread 0 (x.stretches.items ++ last_stretch (Some start) (x.count + 1)) (x.count + 1)) c.unwrap_or.ensures
    ∙ spread_more x.stretches.items x.last x.count c.self.invariant
    ∙ ap (λ (vs : List Bool). vs ++ true ∷ []) c.self.view_is
