use Rattle.std.proofs.Common.{ℕ, List, length, ◌-◌, ap, ◌∙◌}
use Rattle.std.specs.Prelude.{Option, Some, slice_get}
use Rattle.std.specs.Option.{option_map}
use Rattle.kp_types.proofs.Ordered.{last_is}
use Rattle.kp_model.specs.Producers.{Kept}
use Rattle.kp_node.proofs.describing.last_sequence.Goals as goal

pub returns-in-Some : goal.returns-in-Some
returns-in-Some c =
    let recent = c.args.kept.now.recent in
    ap (λ (last : ℕ). Some last) c.last_sequence.ensures
    ∙ ap (λ (o : Option Kept). option_map (λ k. k.last) o)
    (c.in-Some.ensures.value ∙ ap (λ (xs : List Kept). slice_get xs (length xs - 1)) c.recent.ensures ∙ last_is recent)
