-- When a follower takes back its log's tail on a leader's answer.
use Rattle.std.specs.Prelude.{ℕ, nat_lt, not, List, [], ◌∷◌, Option, Some}
use Rattle.std.specs.Option.{option_map}
use Rattle.kp_types.specs.Causes.{first_of}
use Rattle.kp_types.specs.declared.refusal.Refusal.{Refusal}
use Rattle.kp_types.specs.declared.refusal.Refusal.TheVariants as refusals
use Rattle.kp_model.specs.Log.{Batch, is_boundary}
use Rattle.kp_model.specs.Epochs.{cut_place}
use Rattle.kp_model.specs.World.{LeaderAndIsr}
use Rattle.kp_model.specs.Letter.{FetchLetter, Diverging, fetch_request}
use Rattle.kp_model.specs.Controller.{has_epoch}
use Rattle.kp_model.specs.Effect.{mode_epoch}
use Rattle.kp_model.specs.Fetching.{reconciles}
use Rattle.kp_model.specs.declared.message.EpochEnd.{EpochEnd}
use Rattle.kp_model.specs.declared.message.FetchRequest.{FetchRequest}
use Rattle.kp_replica.specs.NumberedNode.{NumberedNode}

-- what was answered of the asked epoch
abbrev pub told_end : Option EpochEnd → Option (ℕ × ℕ)
told_end end = option_map (λ found. (found.epoch, found.end)) end

-- the letter of the diverging answer
abbrev pub diverging : FetchRequest → Option EpochEnd → FetchLetter
diverging r end = record (fetch_request r) { answering = Some (Diverging (told_end end)) }

-- where the log is cut on it
abbrev pub place_for : List Batch → Option EpochEnd → ℕ
place_for log end = cut_place log (told_end end)

-- Why the node, which is up, doesn't cut: the record has moved on, the answer isn't awaited; or, as in no run, it would cut
-- below its watermark, or at no boundary.
abbrev pub diverging_cause : LeaderAndIsr → NumberedNode → FetchRequest → Option EpochEnd → Option Refusal
diverging_cause c m r end =
    let x = m.state in
    let to = place_for x.log end in
    first_of (
    (not (has_epoch c (mode_epoch x.mode)), refusals.StaleRecord)
    ∷ (not (reconciles m.number x r.from r.life r.epoch r.offset r.last_epoch), refusals.StaleAnswer)
    ∷ (nat_lt to x.watermark, refusals.BelowSettled) ∷ (not (is_boundary x.log to), refusals.NotBoundary) ∷ [])
