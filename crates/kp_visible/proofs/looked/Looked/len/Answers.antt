use Rattle.std.proofs.Common.{◌≡◌, ◌++◌, ◌-◌, arith, ap, sym, ◌∙◌, List, length}
use Rattle.std.specs.Prelude.{Bool}
use Rattle.kp_visible.specs.Looked.{last_stretch}
use Rattle.kp_visible.proofs.Stretches.{spread_length}
use Rattle.kp_visible.proofs.looked.Looked.len.Goals as goal

pub returns : goal.returns
returns c =
    let x = c.self.inside in
    let whole : x.count ≡ x.count - 0 = omega arith in
    whole ∙ sym (spread_length 0 (x.stretches.items ++ last_stretch x.last x.count) x.count c.self.invariant) ∙ ap (λ (vs : List Bool). length vs) c.self.view_is
