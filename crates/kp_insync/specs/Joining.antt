-- When a node may join the in-sync replicas (own rule).
use Rattle.std.specs.Prelude.{ℕ, nat_le, ◌&&◌, not, Bool, false, List, [], ◌∷◌, Option, None, slice_index_or}
use Rattle.std.specs.Option.{option_map_or}
use Rattle.kp_types.specs.Causes.{first_of}
use Rattle.kp_types.specs.declared.refusal.Refusal.{Refusal}
use Rattle.kp_types.specs.declared.refusal.Refusal.TheVariants as refusals

-- the node reported an end that is at least the leader's high watermark, and at least where its leadership began
abbrev pub has_caught_up : List (Option ℕ) → (node watermark start : ℕ) → Bool
has_caught_up reported node watermark start =
    option_map_or (λ end. nat_le watermark end && nat_le start end) (slice_index_or reported node None) false

-- why it may not
abbrev pub behind_cause : List (Option ℕ) → (node watermark start : ℕ) → Option Refusal
behind_cause reported node watermark start = first_of ((not (has_caught_up reported node watermark start), refusals.NotCaughtUp) ∷ [])
