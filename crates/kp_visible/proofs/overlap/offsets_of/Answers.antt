use Rattle.std.proofs.Common.{◌≡◌, ℕ, ◌+◌, arith, sym, ap, ◌∙◌}
use Rattle.std.specs.List.{filter}
use Rattle.kp_model.specs.Log.{logged, next_offset}
use Rattle.kp_visible.specs.Client.{overlaps}
use Rattle.kp_visible.proofs.Overlaps.{overlapping_is}
use Rattle.kp_visible.proofs.overlap.offsets_of.Goals as goal

pub returns : goal.returns
returns c = λ aborted.
    let first = c.in-Some-Some.first.now in
    let last = c.in-Some-Some.last.now in
    let end = c.base_offset.result + c.from.result in
    let ends : end + 1 ≡ next_offset (logged last) = omega (arith, c.base_offset.ensures, c.from.ensures, c.last_offset_delta.ensures) in
    overlapping_is c.args.batches.now first last end (sym c.in-Some-Some.ensures.value) (sym c.in-Some-Some.ensures'.value) ends aborted
    ∙ ap (λ (n : ℕ). filter (overlaps n (end + 1)) aborted) (sym c.base_offset-2.ensures)
